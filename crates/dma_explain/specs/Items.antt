-- The items of an explanation: lists of ranges in order, in which neighbours are joined if they can be.
use Rattle.std.specs.Prelude.{◌≡◌, ℕ, ◌+◌, ◌^◌, ◌==◌, ◌&&◌, Bool, nat_lt, if◌then◌else◌, List, [], ◌∷◌, Option, Some, None, Result, Ok}
use Rattle.std.specs.Option.{option_map_or}
use Rattle.dma_insn.specs.declared.chip.ChipInsn.{ChipInsn}
use Rattle.dma_insn.specs.declared.chip.ChipInsn.TheVariants.{Ld, St, StoreZeros}
use Rattle.dma_mem.specs.declared.segment.Segment.{Segment}
use Rattle.dma_chan.specs.Exec.{destination_of, source_of}
use Rattle.dma_chan.specs.{declared.bursts.Burst.Burst, declared.exec.Registers.Registers, declared.turn.FaultKind.FaultKind, Bursts.span_of}
use Rattle.dma_explain.specs.declared.explain.Repeated.{Repeated}

-- ---- two items as one

-- whether m bytes at b follow n bytes at a, and they are fewer than 2 ^ 32 together
abbrev pub goes_on : ℕ → ℕ → ℕ → ℕ → Bool
goes_on a n b m = a + n == b && nat_lt (n + m) (2 ^ 32)

-- two ranges as one, if the second goes on where the first ends
abbrev pub join_run : Segment → Segment → Option Segment
join_run a b = if goes_on a.addr a.len b.addr b.len then Some (record a { len = a.len + b.len }) else None

-- whether the second item reads the first one's range again, fewer than 2 ^ 32 times in all
abbrev pub is_again : Repeated → Repeated → Bool
is_again a b = (a.addr == b.addr && a.len == b.len) && nat_lt (a.times + b.times) (2 ^ 32)

-- two items as one, if the second reads the first one's range again, or both are read once and the second goes on where
-- the first ends
abbrev pub join_read : Repeated → Repeated → Option Repeated
join_read a b =
    if is_again a b then Some (record a { times = a.times + b.times })
    else (if (a.times == 1 && b.times == 1) && goes_on a.addr a.len b.addr b.len
    then Some (record a { len = a.len + b.len }) else None)

-- ---- lists

-- a list with an item put in front, joined with the list's first item if they can be joined
abbrev pub join_first : {A : Type 0} → (A → A → Option A) → A → List A → List A
join_first join a [] = a ∷ []
join_first join a (b ∷ rest) = option_map_or (λ c. c ∷ rest) (join a b) (a ∷ b ∷ rest)

-- A list with one more item at its end. If the last two items can be joined, they become one; then the same is done
-- with this one and the item before it, and so on.
abbrev pub with_item : {A : Type 0} → (A → A → Option A) → List A → A → List A
with_item join [] item = item ∷ []
with_item join (a ∷ items) item = join_first join a (with_item join items item)

-- No two neighbours in a list can be joined.
abbrev pub NoneJoin : {A : Type 0} → (A → A → Option A) → List A → Type 0
NoneJoin join [] = Unit {0}
NoneJoin join (a ∷ []) = Unit {0}
NoneJoin join (a ∷ b ∷ rest) = (join a b ≡ None) × NoneJoin join (b ∷ rest)

-- ---- bursts as items

-- the range that a burst touches
abbrev pub run_of : Burst → Segment
run_of b = record { addr = b.addr; len = span_of b }

-- what a burst reads: its range once, or in each beat again if its address doesn't rise
abbrev pub read_of : Burst → Repeated
read_of b = record { addr = b.addr; len = span_of b; times = if b.increments then 1 else b.beats }

-- ---- the items of a program

-- what a program reads, writes and sets to 0, in order
pub record Items : Type 0 where
  pub reads : List Repeated
  pub writes : List Segment
  pub zeros : List Segment

-- the items with one more instruction, which is executed with these registers
abbrev pub with_burst : Result ChipInsn FaultKind → Registers → Items → Items
with_burst (Ok Ld) r x = record x { reads = with_item join_read x.reads (read_of (source_of r)) }
with_burst (Ok St) r x = record x { writes = with_item join_run x.writes (run_of (destination_of r)) }
with_burst (Ok StoreZeros) r x = record x { zeros = with_item join_run x.zeros (run_of (destination_of r)) }
with_burst next r x = x
