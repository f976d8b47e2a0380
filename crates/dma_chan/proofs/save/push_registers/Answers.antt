use Rattle.std.proofs.Common.{append_assoc, arith}
use Rattle.dma_chan.specs.Saved.{register_bytes}
use Rattle.dma_chan.proofs.save.push_registers.Goals as goal

pub returns-clause-bytes : goal.returns-clause-bytes
unfolding register_bytes
returns-clause-bytes c =
    rw (
      c.push-5.ensures.bytes,
      c.push-4.ensures.bytes,
      c.to_le_bytes-4.ensures,
      c.bits.ensures.value,
      c.push-3.ensures.bytes,
      c.to_le_bytes-3.ensures,
      c.push-2.ensures.bytes,
      c.to_le_bytes-2.ensures,
      c.push.ensures.bytes,
      c.to_le_bytes.ensures,
    )
    (simp append_assoc)

pub returns-clause-ranges : goal.returns-clause-ranges
returns-clause-ranges c = grind arith
