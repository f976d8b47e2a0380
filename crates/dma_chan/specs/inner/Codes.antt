-- Memory that a channel keeps for its program.
use Rattle.std.specs.Prelude.{◌≤◌, length, vec_capacity, Option, Some, None, if◌then◌else◌}
use Rattle.dma_insn.specs.AssemblyText.{most_program_bytes}
use Rattle.dma_chan.specs.{declared.channel.code.Code.TheInside.Inside, Programs.ProgramValue}

-- the program, if one is loaded
abbrev pub code_value : Inside → Option ProgramValue
code_value c = if c.is_loaded then Some (record { bytes = c.bytes.items; cost = c.cost }) else None

-- There is room for the longest program, which has 8,192 bytes.
pub record IsCode (c : Inside) : Type 0 where
  pub limit : length c.bytes.items ≤ most_program_bytes
  pub room : most_program_bytes ≤ vec_capacity c.bytes
