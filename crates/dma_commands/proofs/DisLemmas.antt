-- The lines of a disassembled program.
use Rattle.std.proofs.Common.{◌≡◌, ℕ, ◌+◌, ◌-◌, ◌<◌, ◌≤◌, List, [], ◌∷◌, ◌++◌, length, drop, map, Option, Result, Ok, Err, suc, zero, refl, ap}
use Rattle.std.proofs.Common.{sym, ◌∙◌, subst, arith, append_assoc}
use Rattle.std.specs.{Prelude.IfSome, Prelude.IfOk}
use Rattle.std.proofs.{lemmas.Bool.cond_both, lemmas.Bool.ltb-true, lemmas.List.length-append, lemmas.List.append-nil, Math.Seq.drop-append_seam}
use Rattle.dma_insn.specs.Disassembly.{AllInRange, Disassembles, StopsAt, insn_text, text_of}
use Rattle.dma_insn.specs.Spelling.{HasRanges, spelling}
use Rattle.dma_insn.specs.{declared.insn.Insn.Insn, declared.codec.DecodeFault.DecodeFault, Decoding.decoded, AssemblyText.joined}
use Rattle.dma_insn.proofs.{GrammarLaws.IsBytes, GrammarLaws.spelling_some, Laws.decoded_spelling, Laws.decodes, Fronts.disassembly_reports}
use Rattle.dma_script.specs.Pairs.{is_gap, line_after, pair_of, pairs_from, pairs_of}
use Rattle.dma_script.specs.{Words.hex_digit_of, declared.fault.Fault.Fault}
use Rattle.dma_text.specs.Results.{◌>>=◌}
use Rattle.dma_commands.specs.Disassembled.{DisPrints, lines_from, with_line, lines_printed, dis_printed_of, decode_fault_line}
use Rattle.dma_io.specs.Command as command

-- bytes that are skipped are only counted
lines_from_skipped : (offset k : ℕ) (xs : List ℕ) → k ≤ length xs → lines_from offset k xs ≡ lines_from (offset + k) 0 (drop k xs)
lines_from_skipped offset zero xs h = let e : offset ≡ offset + 0 = omega arith in ap (λ o. lines_from o 0 xs) e
lines_from_skipped offset (suc k) [] h = absurd (omega arith)
lines_from_skipped offset (suc k) (x ∷ xs) h = grind (arith, lines_from_skipped (offset + 1) k xs (omega arith))

-- an instruction at the front
lines_from_first : (offset n : ℕ) (xs : List ℕ) (i : Insn) → decoded xs ≡ Ok (i, n) → 0 < n → n ≤ length xs
    → lines_from offset 0 xs ≡ with_line (insn_text i) (lines_from (offset + n) 0 (drop n xs))
lines_from_first offset zero xs i is some within = absurd (omega arith)
lines_from_first offset (suc n) [] i is some within = absurd (omega arith)
lines_from_first offset (suc n) (x ∷ xs) i is some within =
    let less : suc n - 1 ≡ n = omega arith in
    let e : offset + 1 + n ≡ offset + suc n = omega arith in
    rw is (ap (λ k. with_line (insn_text i) (lines_from (offset + 1) k xs)) less
    ∙ ap (with_line (insn_text i)) (lines_from_skipped (offset + 1) n xs (omega arith) ∙ ap (λ o. lines_from o 0 (drop n xs)) e))

-- the spelling of an instruction at the front
lines_from_spelling : (offset : ℕ) (i : Insn) (rest : List ℕ) (all : List ℕ) → HasRanges i → all ≡ spelling i ++ rest
    → lines_from offset 0 all ≡ with_line (insn_text i) (lines_from (offset + length (spelling i)) 0 rest)
lines_from_spelling offset i rest all h is = grind (arith, length-append, lines_from_first, decoded_spelling, spelling_some, decodes, drop-append_seam)

-- spellings joined have the lines of their instructions
pub lines_from_joined : (offset : ℕ) (is : List Insn) → AllInRange is → lines_from offset 0 (joined is) ≡ Ok (map insn_text is)
lines_from_joined offset [] h = refl
lines_from_joined offset (i ∷ is) h =
    lines_from_spelling offset i (joined is) (joined (i ∷ is)) h.0 refl
    ∙ ap (with_line (insn_text i)) (lines_from_joined (offset + length (spelling i)) is h.1)

-- joined spellings, followed by bytes that aren't an instruction
pub lines_from_stops : (offset : ℕ) (is : List Insn) (rest : List ℕ) (fault : DecodeFault) → AllInRange is → 0 < length rest → decoded rest ≡ Err fault
    → lines_from offset 0 (joined is ++ rest) ≡ Err (offset + length (joined is), fault)
lines_from_stops offset [] [] fault h some refused = absurd (omega arith)
lines_from_stops offset [] (x ∷ xs) fault h some refused = grind arith
lines_from_stops offset (i ∷ is) rest fault h some refused =
    let n = length (spelling i) in
    let e : offset + n + length (joined is) ≡ offset + length (joined (i ∷ is)) = omega (arith, length-append (spelling i) (joined is)) in
    lines_from_spelling offset i (joined is ++ rest) (joined (i ∷ is) ++ rest) h.0 (append_assoc (spelling i) (joined is) rest)
    ∙ ap (with_line (insn_text i)) (lines_from_stops (offset + n) is rest fault h.1 some refused)
    ∙ ap (λ o. Err (o, fault)) e

-- a text is its lines
pub text_of_lines_law : (is : List Insn) → text_of is ≡ command.text_of (map insn_text is)
text_of_lines_law [] = refl
text_of_lines_law (i ∷ is) = ap (λ more. (insn_text i ++ 10 ∷ []) ++ more) (text_of_lines_law is)

-- bytes that have a text have its lines
lines_from_text : (bytes text : List ℕ) (d : Disassembles bytes text) → lines_from 0 0 bytes ≡ Ok (map insn_text d.insns)
lines_from_text bytes text d = ap (lines_from 0 0) d.bytes_are ∙ lines_from_joined 0 d.insns d.in_range

shown_text : (bytes text : List ℕ) (d : Disassembles bytes text) → command.text_of (map insn_text d.insns) ≡ text
shown_text bytes text d = sym (text_of_lines_law d.insns) ∙ sym d.text_is

-- bytes that have a text print it
printed_text_law : (bytes text : List ℕ) → Disassembles bytes text → (command.printed_text (lines_printed (lines_from 0 0 bytes)).groups ≡ text)
    × ((lines_printed (lines_from 0 0 bytes)).status ≡ 0)
printed_text_law bytes text d =
    let read = lines_from_text bytes text d in
    let shown : command.text_of (map insn_text d.insns) ++ [] ≡ text = append-nil (command.text_of (map insn_text d.insns)) ∙ shown_text bytes text d in
    (rw read shown, rw read refl)

pub text_answered : {E : Type 0} (bytes text old new : List ℕ) → Disassembles bytes text → new ≡ old ++ text
    → command.Answers {E = E} (lines_printed (lines_from 0 0 bytes)) (Ok 0) old new
text_answered bytes text old new d is =
    let printed = printed_text_law bytes text d in
    record { text = is ∙ ap (λ t. old ++ t) (sym printed.0); status = sym printed.1; refused = tt }

-- others print their fault
pub printed_stops : (bytes : List ℕ) (offset : ℕ) (fault : DecodeFault) → StopsAt bytes offset fault
    → lines_printed (lines_from 0 0 bytes) ≡ command.refusal (decode_fault_line offset fault)
printed_stops bytes offset fault s =
    let e : 0 + length (joined s.insns) ≡ offset = omega (arith, s.offset_is) in
    let read : lines_from 0 0 bytes ≡ Err (offset, fault) = ap (lines_from 0 0) s.bytes_are
    ∙ lines_from_stops 0 s.insns s.rest fault s.in_range s.some s.fault_is ∙ ap (λ o. Err (o, fault)) e in
    ap lines_printed read

-- what pairs spell are bytes
digit_small : (b : ℕ) → IfSome (hex_digit_of b) (λ d. d < 16)
digit_small b = grind (arith, cond_both, ltb-true)

pair_small : (line : ℕ) (high low : Option ℕ) → IfSome high (λ d. d < 16) → IfSome low (λ d. d < 16) → IfOk (pair_of line high low) (λ byte. byte < 256)
pair_small line high low h h2 = grind (arith)

bytes_none : IsBytes []
bytes_none i = omega arith

bytes_more : (byte : ℕ) (more : List ℕ) → byte < 256 → IsBytes more → IsBytes (byte ∷ more)
bytes_more byte more h h2 = grind (arith)

pair_then : (pair : Result ℕ Fault) (rest : Result (List ℕ) Fault) → IfOk pair (λ byte. byte < 256) → IfOk rest IsBytes
    → IfOk (pair >>= λ byte. rest >>= λ more. Ok (byte ∷ more)) IsBytes
pair_then pair rest h h2 = grind (arith, bytes_more)

pairs_bytes : (input : List ℕ) (line : ℕ) → IfOk (pairs_from line input) IsBytes
pairs_bytes [] line = bytes_none
pairs_bytes (a ∷ []) line = grind (arith, cond_both, bytes_none)
pairs_bytes (a ∷ b ∷ rest) line =
    cond_both (is_gap a) _ _ (λ r. IfOk r IsBytes) (λ _. pairs_bytes (b ∷ rest) (line_after line a))
    (λ _. pair_then _ _ (pair_small line _ _ (digit_small a) (digit_small b)) (pairs_bytes rest line))

pairs_of_bytes : (input bytes : List ℕ) → pairs_of input ≡ Ok bytes → IsBytes bytes
pairs_of_bytes input bytes e = subst (λ (r : Result (List ℕ) Fault). IfOk r IsBytes) e (pairs_bytes input 1)

pub dis_prints : DisPrints
dis_prints = record {
  one = λ input bytes e. disassembly_reports.one bytes (pairs_of_bytes input bytes e);
  text = λ input bytes text e d. (map insn_text d.insns, ap dis_printed_of e ∙ ap lines_printed (lines_from_text bytes text d), shown_text bytes text d);
  fault = λ input bytes offset fault e s. ap dis_printed_of e ∙ printed_stops bytes offset fault s;
}
