-- What a line of a text adds to what is read.
use Rattle.std.proofs.Common.{arith}
use Rattle.std.proofs.Common.{◌≡◌, ℕ, ◌+◌, ◌≤◌, Bool, List, [], ◌∷◌, ◌++◌, length, refl, Option, Some, None, Result, Ok}
use Rattle.std.proofs.lemmas.Bool.{le-leb}
use Rattle.dma_text.specs.Lines.{text_lines}
use Rattle.dma_insn.specs.declared.insn.Counter.TheVariants.{Lc0, Lc1}
use Rattle.dma_insn.specs.declared.chip.ChipInsn.TheVariants.{Lp, LpEnd, LoopAgain}
use Rattle.dma_insn.specs.{AssemblyText.most_program_bytes, declared.insn.Counter.Counter}
use Rattle.dma_manual.specs.Assembled.{Read, after_statement, again_of, assembled, empty, end_of, ended_loop}
use Rattle.dma_manual.specs.Assembled.{jump_of, label_in, place_of, take_line, take_lines, with_bytes, with_loop, with_statement}
use Rattle.dma_manual.specs.{declared.insns.ManualInsn.ManualInsn, declared.insns.ManualInsn.TheVariants.Chip, declared.insns.ManualInsn.TheVariants.Other}
use Rattle.dma_manual.specs.{declared.insns.OtherInsn.TheVariants.LpEndIf, declared.insns.OtherInsn.TheVariants.LoopAgainIf, declared.insns.Request.Request}
use Rattle.dma_manual.specs.{Insns.spelling, Words.code_of, Words.next_of, Statements.statement_at, declared.assembler.Located.Located}
use Rattle.dma_manual.specs.{declared.assembler.Place.Place, declared.loops.LoopKind.LoopKind, declared.loops.LoopKind.TheVariants.Counted}
use Rattle.dma_manual.specs.{declared.loops.LoopKind.TheVariants.Endless, declared.loops.Loops.Loops, declared.loops.Open.Open, declared.loops.Stray.Stray, declared.statements.Again.Again}
use Rattle.dma_manual.specs.{declared.statements.Again.TheVariants.Always, declared.statements.Again.TheVariants.If, declared.statements.Statement.Statement}
use Rattle.dma_manual.proofs.{Numerals.plain, Said.Says, Said.says_read, InsnTexts.statement_of}
use Rattle.dma_manual.specs.declared.statements.End.{End as LoopTo}
use Rattle.dma_manual.specs.declared.statements.End.TheVariants as ends
use Rattle.dma_manual.specs.declared.statements.Statement.TheVariants as says

-- No loop has to be ended.
abbrev pub Quiet : Loops → Type 0
Quiet loops = (ended_loop loops.lc0 ≡ Ok tt) × (ended_loop loops.lc1 ≡ Ok tt) × (ended_loop loops.endless ≡ Ok tt)

quiet_with : (loops : Loops) (kind : LoopKind) (loop : Option Open) → ended_loop loop ≡ Ok tt → Quiet loops → Quiet (with_loop loops kind loop)
quiet_with loops (Counted Lc0) loop h q = (h, q.1, q.2)
quiet_with loops (Counted Lc1) loop h q = (q.0, h, q.2)
quiet_with loops Endless loop h q = (q.0, q.1, h)

-- The result is what was read with more bytes.
pub record Grown (r : Read) (bytes : List ℕ) (result : Result Read Located) : Type 0 where
  pub next : Read
  pub is : result ≡ Ok next
  pub code : next.code ≡ r.code ++ bytes
  pub labels : next.labels ≡ r.labels
  pub quiet : Quiet next.loops

bytes_fit : (code bytes : List ℕ) (place : Place) → length code + length bytes ≤ most_program_bytes → with_bytes code bytes place ≡ Ok (code ++ bytes)
bytes_fit code bytes place fits = rw (le-leb (length code + length bytes) most_program_bytes fits) refl

grown_as : (r : Read) (bytes : List ℕ) (loops : Loops) (stops : Bool) (stray : Option Stray) (result : Result Read Located)
    → result ≡ Ok (record r { code = r.code ++ bytes; loops = loops; stops = stops; stray = stray }) → Quiet loops → Grown r bytes result
grown_as r bytes loops stops stray result is q = grind arith

plain_grown : (r : Read) (i : ManualInsn) (place : Place) → length r.code + length (spelling i) ≤ most_program_bytes → Quiet r.loops
    → Grown r (spelling i) (after_statement r (says.Plain i) place)
plain_grown r i place fits q = grind (arith, grown_as, bytes_fit)

loop_grown : (r : Read) (c : Counter) (n : ℕ) (place : Place) → length r.code + length (spelling (Chip (Lp c n))) ≤ most_program_bytes → Quiet r.loops
    → Grown r (spelling (Chip (Lp c n))) (after_statement r (says.Loop (Some c) n) place)
loop_grown r c n place fits q = grind (arith, grown_as, bytes_fit, quiet_with)

pub end_grown : (r : Read) (c : Counter) (condition : Option Request) (b : ℕ) (end : LoopTo) (place : Place)
    → jump_of r.loops (length r.code) end place ≡ Ok (Counted c, b)
    → length r.code + length (spelling (end_of (Counted c) condition b)) ≤ most_program_bytes → Quiet r.loops
    → Grown r (spelling (end_of (Counted c) condition b)) (after_statement r (says.LoopEnd condition end) place)
end_grown r c condition b end place jump fits q = grind (arith, grown_as, bytes_fit, quiet_with)

again_grown : (r : Read) (again : Again) (b : ℕ) (place : Place) → length r.code + length (spelling (again_of again b)) ≤ most_program_bytes → Quiet r.loops
    → Grown r (spelling (again_of again b)) (after_statement r (says.LoopAgain again b) place)
again_grown r again b place fits q = grind (arith, grown_as, bytes_fit, quiet_with)

pub insn_grown : (r : Read) (i : ManualInsn) (place : Place) → length r.code + length (spelling i) ≤ most_program_bytes → Quiet r.loops
    → Grown r (spelling i) (after_statement r (statement_of i) place)
insn_grown r (Chip (Lp c n)) place fits q = loop_grown r c n place fits q
insn_grown r (Chip (LpEnd c b)) place fits q = end_grown r c None b (ends.Back c b) place refl fits q
insn_grown r (Chip (LoopAgain c b)) place fits q = again_grown r (Always c) b place fits q
insn_grown r (Other (LpEndIf request c b)) place fits q = end_grown r c (Some request) b (ends.Back c b) place refl fits q
insn_grown r (Other (LoopAgainIf request b)) place fits q = again_grown r (If request) b place fits q
insn_grown r i place fits q = plain_grown r i place fits q

-- a line that says a statement
said_line : (r : Read) (n : ℕ) (line : List ℕ) (s : Statement) → label_in line ≡ None → statement_at r.labels line ≡ Ok s
    → take_line r n line ≡ after_statement r s (place_of n (length line) (next_of line))
unfolding with_statement
said_line r n line s none said = rw (none, said) refl

pub says_line : (r : Read) (n : ℕ) (line : List ℕ) (s : Statement) → Says r.labels line s
    → take_line r n line ≡ after_statement r s (place_of n (length line) (next_of line))
says_line r n line s h = let read = says_read r.labels line s h in said_line r n line s read.0 read.1

pub lines_step : (r next : Read) (n : ℕ) (line : List ℕ) (lines : List (List ℕ)) → take_line r (n + 1) (plain (code_of line)) ≡ Ok next
    → take_lines r n (line ∷ lines) ≡ take_lines next (n + 1) lines
unfolding take_lines
lines_step r next n line lines h = rw h refl

pub lines_done : (r : Read) (n : ℕ) → take_lines r n [] ≡ Ok r
unfolding take_lines
lines_done r n = refl

pub read_whole : (text : List ℕ) (r : Read) → take_lines empty 0 (text_lines text) ≡ Ok r → Quiet r.loops → assembled text ≡ Ok r.code
read_whole text r is q = rw (is, q.0, q.1, q.2) refl
