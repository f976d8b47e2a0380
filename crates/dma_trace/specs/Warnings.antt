-- The warnings about the loops of a program (profile), by the order of its bytes: no instruction is executed.
use Rattle.std.specs.Prelude.{ℕ, zero, suc, ◌+◌, ◌-◌, Bool, true, false, nat_lt, List, [], ◌∷◌, ◌++◌, length, flat_map, Option, Some, None, Ok, Err}
use Rattle.std.specs.Prelude.{if◌then◌else◌, codes}
use Rattle.dma_insn.specs.declared.chip.ChipInsn.TheVariants.{End, Lp, LpEnd}
use Rattle.dma_insn.specs.{AssemblyText.most_program_bytes, Chip.Decoded, Chip.decoded, declared.chip.ChipInsn.ChipInsn, declared.insn.Counter.Counter}
use Rattle.dma_insn.specs.{declared.insn.Counter.TheVariants.Lc0, declared.insn.Counter.TheVariants.Lc1}
use Rattle.dma_manual.specs.ManualText.{counter_name}
use Rattle.dma_trace.specs.{declared.warnings.Doubt.Doubt, declared.warnings.Doubt.TheVariants.Reused, declared.warnings.Doubt.TheVariants.Unset}
use Rattle.dma_trace.specs.{declared.warnings.Loops.Loops, declared.warnings.Nest.Nest, declared.warnings.Warning.Warning, Words.line_feed, Words.offset_text}

-- ---- the loops of the text

-- Before the first instruction no loop is open, and none has begun.
abbrev pub unnested : Nest
unnested =
    record { lc0 = record { depth = 0; has_begun = false }; lc1 = record { depth = 0; has_begun = false } }

-- Returns the loops on a counter.
abbrev pub loops_on : Counter → Nest → Loops
loops_on Lc0 n = n.lc0
loops_on Lc1 n = n.lc1

-- Replaces the loops on a counter.
abbrev pub with_loops : Counter → Loops → Nest → Nest
with_loops Lc0 l n = record n { lc0 = l }
with_loops Lc1 l n = record n { lc1 = l }

-- A DMALP opens a loop on its counter, and a DMALPEND closes one. No other instruction changes the loops, nor does the
-- DMALPEND of a DMALPFE, which has no counter.
abbrev pub nest_after : ChipInsn → Nest → Nest
nest_after (Lp c n) nest = with_loops c (record { depth = (loops_on c nest).depth + 1; has_begun = true }) nest
nest_after (LpEnd c b) nest =
    with_loops c (record { depth = (loops_on c nest).depth - 1; has_begun = (loops_on c nest).has_begun }) nest
nest_after i nest = nest

-- ---- the warnings

-- Warns of a DMALP whose counter is that of a loop that is still open, and of a DMALPEND before the first DMALP of its
-- counter.
abbrev pub doubt_of : ChipInsn → Nest → Option (Counter × Doubt)
doubt_of (Lp c n) nest = if nat_lt 0 (loops_on c nest).depth then Some (c, Reused) else None
doubt_of (LpEnd c b) nest = if (loops_on c nest).has_begun then None else Some (c, Unset)
doubt_of i nest = None

-- Returns the warning about an instruction at the offset o, if there is one.
abbrev pub warning_at : ℕ → Option (Counter × Doubt) → List Warning
warning_at o (Some found) = record { pc = o; counter = found.0; doubt = found.1 } ∷ []
warning_at o None = []

-- Whether an instruction is DMAEND, at which the text ends.
abbrev pub ends_text : ChipInsn → Bool
ends_text End = true
ends_text i = false

-- Returns the warnings about bytes at the offset o that begin with this instruction; `more` returns those about what
-- follows it. The text ends at DMAEND, and at bytes that are no instruction.
abbrev pub first_warned : Nest → ℕ → Decoded → (Nest → ℕ → List Warning) → List Warning
first_warned nest o (Ok found) more =
    if ends_text found.0 then []
    else warning_at o (doubt_of found.0 nest) ++ more (nest_after found.0 nest) found.1
first_warned nest o (Err fault) more = []

-- Returns the warnings about bytes at the offset o. The first `skipped` bytes belong to the previous instruction.
abbrev pub warned_from : Nest → ℕ → ℕ → List ℕ → List Warning
warned_from nest o skipped [] = []
warned_from nest o (suc skipped) (byte ∷ rest) = warned_from nest (o + 1) skipped rest
warned_from nest o zero (byte ∷ rest) =
    first_warned nest o (decoded (byte ∷ rest)) (λ after count. warned_from after (o + 1) (count - 1) rest)

-- Returns the warnings about a program. One that is too long has none.
abbrev pub warnings_of : List ℕ → List Warning
warnings_of program =
    if nat_lt most_program_bytes (length program) then [] else warned_from unnested 0 0 program

-- ---- text

-- Prints what is wrong.
abbrev pub doubt_text : Doubt → Counter → List ℕ
doubt_text Reused c = codes "DMALP " ++ counter_name c ++ codes " sets the counter of a loop that is still open"
doubt_text Unset c = codes "DMALPEND " ++ counter_name c ++ codes " has no DMALP of its counter before it"

-- `offset 0x0014: warning: DMALPEND lc1 has no DMALP of its counter before it`
abbrev pub warning_text : Warning → List ℕ
warning_text w = codes "offset " ++ offset_text w.pc ++ (codes ": warning: " ++ doubt_text w.doubt w.counter ++ line_feed)

-- A warning in a further line of a message, which begins with two spaces.
unfoldable pub further_line : Warning → List ℕ
further_line w = codes "  " ++ warning_text w

-- Prints warnings, a line for each. They are further lines of a message, or else the first one begins it.
abbrev pub warnings_text : Bool → List Warning → List ℕ
warnings_text begins [] = []
warnings_text true (w ∷ rest) = codes " " ++ warning_text w ++ flat_map further_line rest
warnings_text false (w ∷ rest) = flat_map further_line (w ∷ rest)

-- Prints that the instruction at this offset is the first that moves the destination while bytes are in the buffer.
unfoldable pub move_text : ℕ → List ℕ
move_text pc =
    codes "offset " ++ offset_text pc ++ codes ": warning: DAR changes while the buffer holds bytes: a chip drops them " ++
    codes "if the old and the new DAR differ in their byte lanes of the bus\n"

-- Prints it behind other warnings, if there is such an instruction. It begins the message if there are none.
abbrev pub late_text : List Warning → Option ℕ → List ℕ
late_text warnings None = []
late_text [] (Some pc) = codes " " ++ move_text pc
late_text (w ∷ rest) (Some pc) = codes "  " ++ move_text pc

-- Prints all warnings about a program that is explained or not, and of an explained one that warning too.
abbrev pub all_warned : Bool → List Warning → Option ℕ → List ℕ
all_warned true warnings late = warnings_text true warnings ++ late_text warnings late
all_warned false warnings late = warnings_text false warnings
