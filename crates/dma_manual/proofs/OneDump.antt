-- A dump is read one way.
use Rattle.std.proofs.Common.{◌≡◌, ℕ, zero, suc, ◌<◌, Bool, false, ◌||◌, if◌then◌else◌, List, [], ◌∷◌, length, slice_index_or, subst, Option, Some, None, Result, Ok, Err, arith}
use Rattle.std.proofs.lemmas.Slice.Eq.{bytes_eq-Decides}
use Rattle.dma_manual.specs.{Forms.words_first, Laws.DumpsAreReadOneWay, declared.doubts.Doubt.Doubt, declared.forms.Form.Form}
use Rattle.dma_manual.specs.{declared.doubts.Doubt.TheVariants.Address as NoAddress, declared.pasted.Fault.Fault}
use Rattle.dma_manual.specs.Pasted.{Read, differs, dump_of, fit, is_marked, is_other, is_other_in, nowhere, other_doubt, read_as, settled_by}

-- what was read is these bytes, if it isn't other than them
same_read : (r : Result (List ℕ × Bool) Fault) (bytes c : List ℕ) (sure : Bool) → differs r c ≡ false → r ≡ Ok (bytes, sure) → c ≡ bytes
same_read r bytes c sure same is = grind (arith, bytes_eq-Decides bytes c)

neither : (a b : Bool) → (a || b) ≡ false → (a ≡ false) × (b ≡ false)
neither a b h = grind arith

-- if no form reads other bytes than these, each that reads the text reads these
no_other : (forms : List Form) (text c : List ℕ) → is_other_in forms text c ≡ false → (k : ℕ) (d : Form) → k < length forms
    → (bytes : List ℕ) (sure : Bool) → read_as (slice_index_or forms k d) text ≡ Ok (bytes, sure) → c ≡ bytes
no_other [] text c none k d below bytes sure is = absurd (omega arith)
no_other (form ∷ forms) text c none zero d below bytes sure is =
    same_read (read_as form text) bytes c sure (neither (is_other form text c) (is_other_in forms text c) none).0 is
no_other (form ∷ forms) text c none (suc k) d below bytes sure is =
    no_other forms text c (neither (is_other form text c) (is_other_in forms text c) none).1 k d (omega arith) bytes sure is

-- a dump that is taken has no other bytes in another form
by_doubt : (b m : Bool) (x y : Doubt) (d : Form × List ℕ × Bool) (read : Option Form) (found : List ℕ)
    → settled_by (if b then Some x else (if m then None else Some y)) d ≡ Ok (read, found) → (b ≡ false) × (d.1 ≡ found)
by_doubt b m x y d read found taken = grind arith

taken_of : (text : List ℕ) (fitted : Read) (read : Option Form) (found : List ℕ) → dump_of text fitted ≡ Ok (read, found)
    → is_other_in words_first text found ≡ false
taken_of text (Ok d) read found taken =
    let by = by_doubt (is_other_in words_first text d.1) (d.2 || is_marked d.0.column) (other_doubt d.0.column) NoAddress d read found taken in
    subst (λ (bytes : List ℕ). is_other_in words_first text bytes ≡ false) by.1 by.0
taken_of text (Err fault) read found taken = grind arith

pub dumps_are_read_one_way : DumpsAreReadOneWay
dumps_are_read_one_way text k d below bytes found sure read is taken =
    no_other words_first text found (taken_of text (fit words_first nowhere text) read found taken) k d below bytes sure is
