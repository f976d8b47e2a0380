-- What the calls return and write that explain a program.
use Rattle.std.specs.Prelude.{◌≡◌, ℕ, ◌<◌, ◌≤◌, ◌/◌, ◌%◌, ◌⊎◌, ◌==◌, ◌&&◌, Bool, nat_le, if◌then◌else◌, ℤ, Option, None, Some, List, ◌++◌, length, drop, map}
use Rattle.dma_mem.specs.declared.segment.Segment.{Segment}
use Rattle.dma_insn.specs.AssemblyText.{most_program_bytes}
use Rattle.dma_explain.specs.declared.explain.Cause.TheVariants.{TooLong, Fails, LoadsPast, StoresPast, StoresFixed, DropsBytes, BytesLeft, StoresTwice}
use Rattle.dma_explain.specs.declared.explain.Cause.TheVariants.{StoresSource, NoEnd, NoMemory, UsesUnknown}
use Rattle.dma_explain.specs.{Explains.Finds, Explains.Refuses, declared.explain.Cause.Cause, declared.explain.Explained.Explained}
use Rattle.dma_explain.specs.{declared.explain.Happening.Happening, declared.explain.Repeated.Repeated, declared.explain.EventSync.EventSync}
use Rattle.dma_explain.specs.declared.explain.EventSync.TheVariants.{Waits, Signals}
use Rattle.dma_explain.specs.declared.explain.known.Register.TheVariants.{Ccr, Dar, Lc0, Lc1, Sar}
use Rattle.dma_explain.specs.{declared.explain.known.Given.Given, declared.explain.known.Known.Known, declared.explain.known.Register.Register}
use Rattle.dma_explain.specs.{Known.FindsFrom, Known.RefusesFrom, declared.explain.Unexplained.Unexplained}
use Rattle.dma_chan.specs.declared.bus.Bus.TheVariants.{Chip, Ideal}
use Rattle.dma_chan.specs.{declared.bus.Bus.Bus, declared.bus.BusWidth.BusWidth, Bus.accepts}
use Rattle.dma_device.specs.{Device.DeviceValue, Explaining.IsLoadedAnd, Explaining.program_of}
use Rattle.dma_ffi.specs.Codes.{bad_config, buffer_too_small, kind_number, no_channel, no_memory, no_program, ok_code, program_too_long, unexplained}
use Rattle.dma_ffi.specs.{declared.explaining.DmaEvent.DmaEvent, declared.explaining.DmaStart.DmaStart}
use Rattle.dma_ffi.specs.{declared.explaining.Explanation.Explanation, Devices.width_of_bits}

-- ---- what a program begins with

-- a chip's bus, if there is one
abbrev pub chip : Option BusWidth → Option Bus
chip None = None
chip (Some width) = Some (Chip width)

-- the ideal bus for 0, else a chip's bus of this many bits, if any
abbrev pub any_bus : ℕ → Option Bus
any_bus bits = if bits == 0 then Some Ideal else chip (width_of_bits bits)

-- the registers with these bits, from the lowest: SAR, DAR, CCR, LC0 and LC1
abbrev pub known_of : ℕ → Known
known_of bits = record {
  sar = bits % 2 == 1;
  dar = bits / 2 % 2 == 1;
  ccr = bits / 4 % 2 == 1;
  lc0 = bits / 8 % 2 == 1;
  lc1 = bits / 16 % 2 == 1;
}

-- The registers that C gives on a bus, and which of them are known, if there is the bus, the bits are those of registers,
-- and the bus accepts CCR. (It accepts 0, which stands for a CCR that isn't known.)
abbrev pub given_on : DmaStart → Option Bus → Option Given
given_on c None = None
given_on c (Some bus) =
    let known = known_of c.known in
    let ccr = if known.ccr then c.ccr else 0 in
    if nat_le c.known 31 && accepts bus ccr then
    Some (record {
      registers = record { pc = 0; sar = c.sar; dar = c.dar; ccr = ccr; lc0 = c.lc0; lc1 = c.lc1; bus = bus };
      known = known;
    })
    else None

-- ---- numbers

-- the number of the cause that a register is used that isn't known
abbrev pub register_number : Register → ℕ
register_number Sar = 16
register_number Dar = 17
register_number Ccr = 18
register_number Lc0 = 19
register_number Lc1 = 20

-- The number of a cause; a fault's is the one that it has elsewhere. A program that is too long, and out of memory,
-- have codes and no number.
abbrev pub cause_number : Cause → ℕ
cause_number TooLong = 0
cause_number NoMemory = 0
cause_number (Fails kind) = kind_number kind
cause_number LoadsPast = 8
cause_number StoresPast = 9
cause_number StoresFixed = 10
cause_number DropsBytes = 11
cause_number BytesLeft = 12
cause_number StoresTwice = 13
cause_number StoresSource = 14
cause_number NoEnd = 15
cause_number (UsesUnknown r) = register_number r

-- what an instruction does with an event: 0 for a wait, 1 for a signal, and the event
abbrev pub sync_numbers : EventSync → ℕ × ℕ
sync_numbers (Waits event) = (0, event)
sync_numbers (Signals event) = (1, event)

-- an instruction that waits or signals, as C sees it
abbrev pub event_at : Happening → DmaEvent
event_at h =
    let numbers = sync_numbers h.sync in
    record { kind = numbers.0; event = numbers.1; copied = h.done.copied; cleared = h.done.cleared }

-- the numbers of what was found
abbrev pub explanation_of : Explained → Explanation
explanation_of x = record {
  src_len = length x.src.items;
  dst_len = length x.dst.items;
  zeros_len = length x.zeros.items;
  events_len = length x.events.items;
  copied = x.size.copied;
  cleared = x.size.cleared;
  steps = x.steps;
  pc = 0;
  cause = 0;
  addr = 0;
}

-- the cause, the place and the address
abbrev pub unexplained_of : Unexplained → Explanation
unexplained_of u = record {
  src_len = 0;
  dst_len = 0;
  zeros_len = 0;
  events_len = 0;
  copied = 0;
  cleared = 0;
  steps = u.steps;
  pc = u.pc;
  cause = cause_number u.cause;
  addr = u.addr;
}

-- ---- what a call writes

-- Everything that a call writes.
pub record Outputs : Type 0 where
  pub src : List Repeated
  pub dst : List Segment
  pub zeros : List Segment
  pub events : List DmaEvent
  pub explanation : Explanation

-- all of it
abbrev pub outputs : List Repeated → List Segment → List Segment → List DmaEvent → Explanation → Outputs
outputs src dst zeros events explanation =
    record { src = src; dst = dst; zeros = zeros; events = events; explanation = explanation }

-- a list with these items at its front; what is behind them is unchanged
abbrev pub laid_over : {A : Type 0} → List A → List A → List A
laid_over items list = items ++ drop (length items) list

-- whether each list has room for what was found
abbrev pub have_room : Explained → List Repeated → List Segment → List Segment → List DmaEvent → Bool
have_room x src dst zeros events =
    nat_le (length x.src.items) (length src)
    && nat_le (length x.dst.items) (length dst)
    && nat_le (length x.zeros.items) (length zeros)
    && nat_le (length x.events.items) (length events)

-- The lists of what was found are written, with its events as C sees them, and the code is `ok_code`; or not all lists
-- have room, the code is `buffer_too_small`, and the lists are unchanged.
abbrev pub WritesLists : Explained → ℤ → List Repeated → List Repeated → List Segment → List Segment
    → List Segment → List Segment → List DmaEvent → List DmaEvent → Type 0
WritesLists x code src src' dst dst' zeros zeros' events events' =
    let fits = have_room x src dst zeros events in
    (code ≡ (if fits then ok_code else buffer_too_small))
    × (src' ≡ (if fits then laid_over x.src.items src else src))
    × (dst' ≡ (if fits then laid_over x.dst.items dst else dst))
    × (zeros' ≡ (if fits then laid_over x.zeros.items zeros else zeros))
    × (events' ≡ (if fits then laid_over (map event_at x.events.items) events else events))

-- What was found is written: its numbers in any case, the lists if they have room.
pub record WritesFound (x : Explained) (code : ℤ) (before after : Outputs) : Type 0 where
  pub lists : WritesLists x code before.src after.src before.dst after.dst before.zeros after.zeros
      before.events after.events
  pub explanation : after.explanation ≡ explanation_of x

-- what is written if nothing explains the program: the cause and the place, and no list
abbrev pub with_cause : Unexplained → Outputs → Outputs
with_cause u before = record before { explanation = unexplained_of u }

-- ---- calls

-- What a call returns and writes that explains a program of at most 8,192 bytes. What is found, of which this is true,
-- is written; or it returns `unexplained` and writes why nothing is, and where, of which this is true; or it returns
-- `no_memory` and writes nothing.
abbrev pub ExplainsSo : (Explained → Type 0) → (Unexplained → Type 0) → ℤ → Outputs → Outputs → Type 0
ExplainsSo Found Refused code before after =
    ((x : Explained) × Found x × WritesFound x code before after)
    ⊎ (((u : Unexplained) × Refused u × (code ≡ unexplained) × (after ≡ with_cause u before))
    ⊎ ((code ≡ no_memory) × (after ≡ before)))

-- What a call returns and writes that explains a program, with at most this number of instructions, from the registers
-- that C gives, if a channel can have those that are known: it is found, or refused, whatever the others are
-- (`FindsFrom`, `RefusesFrom`). Else it returns `bad_config`, and then `program_too_long` exactly above 8,192 bytes. In
-- both cases it writes nothing.
abbrev pub ExplainsProgram : List ℕ → Option Given → ℕ → ℤ → Outputs → Outputs → Type 0
ExplainsProgram program None most code before after = (code ≡ bad_config) × (after ≡ before)
ExplainsProgram program (Some given) most code before after =
    ((code ≡ program_too_long) × (most_program_bytes < length program) × (after ≡ before))
    ⊎ ((length program ≤ most_program_bytes)
    × ExplainsSo (FindsFrom given program most) (RefusesFrom given program most) code before after)

-- What a call returns and writes that explains the program of channel `n` of a device, begun with the registers that
-- the channel has. If the device doesn't have the channel, or the channel no program, it returns the code for that and
-- writes nothing.
abbrev pub ExplainsChannel : ℕ → ℕ → DeviceValue → ℤ → Outputs → Outputs → Type 0
ExplainsChannel n most d code before after =
    ((code ≡ no_channel) × (length d.threads ≤ n) × (after ≡ before))
    ⊎ (((code ≡ no_program) × (n < length d.threads) × (program_of d n ≡ None) × (after ≡ before))
    ⊎ IsLoadedAnd d n (λ start program.
    ExplainsSo (Finds start program most) (Refuses start program most) code before after))
