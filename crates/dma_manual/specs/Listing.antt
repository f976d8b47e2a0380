-- The lines to which a program is disassembled.
use Rattle.std.specs.Prelude.{ℕ, ◌+◌, ◌-◌, ◌/◌, ◌%◌, ◌^◌, Bool, true, false, ◌==◌, ◌&&◌, if◌then◌else◌, List, [], ◌∷◌, ◌++◌, length, take, drop, min, replicate}
use Rattle.std.specs.Prelude.{nat_le, nat_lt, codes, decimal, zero, suc, Option, Some, None, Ok, Err}
use Rattle.std.specs.{List.list_any, Option.option_map}
use Rattle.dma_text.specs.Digits.{hex_digits, hex_pair, spaced_bytes}
use Rattle.dma_insn.specs.declared.codec.DecodeFault.{DecodeFault}
use Rattle.dma_insn.specs.declared.codec.DecodeFault.TheVariants.{Cut, Unknown, BadField}
use Rattle.dma_insn.specs.declared.chip.ChipInsn.TheVariants.{End, Lp, LpEnd, LoopAgain}
use Rattle.dma_manual.specs.{Insns.Decoded, Insns.decoded, Insns.spelling, ManualText.counter_name, ManualText.end_name, ManualText.insn_text}
use Rattle.dma_manual.specs.{declared.insns.ManualInsn.ManualInsn, declared.insns.ManualInsn.TheVariants.Chip, declared.insns.ManualInsn.TheVariants.Other}
use Rattle.dma_manual.specs.{declared.insns.OtherInsn.TheVariants.LpEndIf, declared.insns.OtherInsn.TheVariants.LoopAgainIf, declared.listing.Jump.Jump}
use Rattle.dma_manual.specs.{declared.remarks.Remarks.Remarks}

-- the label of the loop body at an offset: its four hexadecimal digits
abbrev pub label_name : ℕ → List ℕ
label_name o = codes "loop_" ++ hex_pair (o / 256 % 256) ++ hex_pair (o % 256)

-- the label after an instruction that ends at an offset: after each DMALP, if four digits are enough
abbrev pub label_behind : ManualInsn → ℕ → Option ℕ
label_behind (Chip (Lp c n)) o = if nat_lt o 65536 then Some o else None
label_behind _ o = None

-- the label that is `back` bytes before the offset o, if it is one of the labels
abbrev pub label_before : List ℕ → ℕ → ℕ → Option ℕ
label_before labels o back = if nat_le back o && list_any (λ l. l == (o - back)) labels then Some (o - back) else None

-- the jump of a DMALPEND at the offset o to one of the labels
abbrev pub jump_of : List ℕ → ℕ → ManualInsn → Option Jump
jump_of labels o (Chip (LpEnd c b)) =
    option_map (λ label. record { condition = None; counter = c; label = label }) (label_before labels o b)
jump_of labels o (Other (LpEndIf r c b)) =
    option_map (λ label. record { condition = Some r; counter = c; label = label }) (label_before labels o b)
jump_of labels o _ = None

-- an instruction, with the label to which it jumps, if there is one
abbrev pub statement_text : Option Jump → ManualInsn → List ℕ
statement_text (Some jump) i =
    end_name jump.condition ++ codes " " ++ counter_name jump.counter ++ (codes ", " ++ label_name jump.label)
statement_text None i = insn_text i

-- the width of the widest text of an instruction
abbrev pub widest : ℕ
widest = 62

-- the spaces after a text of this width, up to the column of the comments
abbrev pub blanks_behind : ℕ → List ℕ
blanks_behind width = drop (min width widest) (replicate widest 32)

-- an instruction at the offset o, with spaces before it
abbrev pub indented : List ℕ → ℕ → ManualInsn → List ℕ
indented labels o i = codes "    " ++ statement_text (jump_of labels o i) i

-- the address to which a DMALPEND at an address jumps, if that is no label
abbrev pub target_by : Option ℕ → ℕ → ℕ → Option ℕ
target_by (Some label) here back = None
target_by None here back = Some ((here + 2 ^ 32 - back) % 2 ^ 32)

-- the address to which an instruction at the offset o jumps, if it is a DMALPEND that jumps to no label
abbrev pub target_of : List ℕ → ℕ → ℕ → ManualInsn → Option ℕ
target_of labels at o (Chip (LpEnd c b)) = target_by (label_before labels o b) ((at + o) % 2 ^ 32) b
target_of labels at o (Other (LpEndIf r c b)) = target_by (label_before labels o b) ((at + o) % 2 ^ 32) b
target_of labels at o (Chip (LoopAgain c b)) = target_by None ((at + o) % 2 ^ 32) b
target_of labels at o (Other (LoopAgainIf r b)) = target_by None ((at + o) % 2 ^ 32) b
target_of labels at o _ = None

-- whether some channel of the model executes an instruction
abbrev pub is_executed : ManualInsn → Bool
is_executed (Chip i) = true
is_executed (Other i) = false

-- what the comment of an instruction at the offset o says besides its address and its bytes
abbrev pub remarks_of : List ℕ → ℕ → ℕ → ManualInsn → Remarks
remarks_of labels at o i = record { target = target_of labels at o i; executed = is_executed i }

-- how such an address is printed
abbrev pub target_text : Option ℕ → List ℕ
target_text None = []
target_text (Some address) = codes ", jumps to 0x" ++ hex_digits address

-- how an instruction is marked that no channel of the model executes
abbrev pub mark : Bool → List ℕ
mark true = []
mark false = codes ", not executed by this model"

-- the comment after a text of this width: the address and the bytes of an instruction, and the remarks
abbrev pub comment_text : ℕ → ℕ → ℕ → List ℕ → Remarks → List ℕ
comment_text width at o bytes remarks =
    blanks_behind width
    ++ (codes " ; " ++ hex_digits ((at + o) % 2 ^ 32) ++ codes " "
    ++ (spaced_bytes bytes ++ (target_text remarks.target ++ mark remarks.executed) ++ codes "\n"))

-- the line of an instruction at the offset o
abbrev pub line_text : ℕ → List ℕ → ℕ → ManualInsn → List ℕ
line_text at labels o i =
    indented labels o i ++ comment_text (length (indented labels o i)) at o (spelling i) (remarks_of labels at o i)

-- the line of a label
abbrev pub label_text : Option ℕ → List ℕ
label_text (Some label) = label_name label ++ codes ":\n"
label_text None = []

-- the labels with one more
abbrev pub more_labels : List ℕ → Option ℕ → List ℕ
more_labels labels (Some label) = labels ++ label ∷ []
more_labels labels None = labels

-- whether an instruction is DMAEND
abbrev pub is_end : ManualInsn → Bool
is_end (Chip End) = true
is_end _ = false

-- How a listing ends: n bytes follow DMAEND or nothing is left, or at an offset these bytes are no instruction.
pub data Ending : Type 0 where
  follow : ℕ → Ending
  stop : ℕ → DecodeFault → List ℕ → Ending

-- Lines, and how they end.
pub record Listing : Type 0 where
  pub text : List ℕ
  pub ending : Ending

-- the listing with a text before it
abbrev pub with_text : List ℕ → Listing → Listing
with_text text l = record { text = text ++ l.text; ending = l.ending }

-- The listing of bytes at the offset o that begin with this instruction: its line, then the label after it and what
-- `more` lists; DMAEND is the last line.
abbrev pub first_listed : ℕ → List ℕ → ℕ → List ℕ → Decoded → (List ℕ → ℕ → Listing) → Listing
first_listed at labels o bytes (Ok found) more =
    with_text (line_text at labels o found.0)
    (if is_end found.0 then record { text = []; ending = follow (length bytes - found.1) }
    else with_text (label_text (label_behind found.0 (o + found.1))) (more (more_labels labels (label_behind found.0 (o + found.1))) found.1))
first_listed at labels o bytes (Err fault) more = record { text = []; ending = stop o fault bytes }

-- The listing of bytes at the offset o. The first `skipped` bytes belong to the previous instruction.
abbrev pub listed_from : ℕ → List ℕ → ℕ → ℕ → List ℕ → Listing
listed_from at labels o skipped [] = record { text = []; ending = follow 0 }
listed_from at labels o (suc skipped) (byte ∷ rest) = listed_from at labels (o + 1) skipped rest
listed_from at labels o zero (byte ∷ rest) =
    first_listed at labels o (byte ∷ rest) (decoded (byte ∷ rest)) (λ more count. listed_from at more (o + 1) (count - 1) rest)

-- the listing of a program, whose first byte has the address `at`
abbrev pub listed : ℕ → List ℕ → Listing
listed at program = listed_from at [] 0 0 program

-- the words after a number of bytes that follow
abbrev pub follow_words : ℕ → List ℕ
follow_words n = if n == 1 then codes " byte follows" else codes " bytes follow"

-- the last line of a listing, which says how many bytes follow DMAEND
abbrev pub rest_text : Ending → List ℕ
rest_text (follow n) = if n == 0 then [] else (codes "; " ++ decimal n ++ follow_words n ++ codes "\n")
rest_text (stop o fault bytes) = []

-- why bytes don't begin with an instruction
abbrev pub cause_text : DecodeFault → List ℕ
cause_text Cut = codes "the bytes end within an instruction:"
cause_text (Unknown byte) = codes "no instruction begins with"
cause_text BadField = codes "a field is outside its range:"

-- What is written to standard error: where the bytes are no instruction, as an offset and as an address, what is wrong,
-- and at most six bytes.
abbrev pub stop_text : ℕ → Ending → List ℕ
stop_text at (follow n) = []
stop_text at (stop o fault bytes) =
    (codes " offset " ++ decimal o) ++ (codes " (0x" ++ hex_digits ((at + o) % 2 ^ 32)) ++ codes "): "
    ++ (cause_text fault ++ spaced_bytes (take (min (length bytes) 6) bytes) ++ codes "\n")

-- whether all bytes up to DMAEND are instructions
abbrev pub is_whole : Ending → Bool
is_whole (follow n) = true
is_whole (stop o fault bytes) = false
