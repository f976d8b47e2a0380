-- A text that is a dump of some bytes in one form is read as these bytes, or refused as doubtful.
use Rattle.std.proofs.Common.{◌≡◌, ℕ, zero, suc, ◌<◌, Bool, List, [], ◌∷◌, length, slice_index_or, refl, Option, Some, None, Result, Ok, Err, arith}
use Rattle.dma_manual.specs.{Forms.words_first, declared.doubts.Doubt.Doubt, declared.forms.Form.Form, declared.pasted.Fault.Fault}
use Rattle.dma_manual.specs.{PrintedLaws.IsOrUnsure, declared.pasted.Spelling.TheVariants.Dump}
use Rattle.dma_manual.specs.Pasted.{Read, doubt_of, dump_of, fit, further, nowhere, or_next, pasted, read_as, settled_by}
use Rattle.dma_manual.proofs.OneDump.{dumps_are_read_one_way}

-- The first form that fits is found.
record Fits (r : Read) : Type 0 where
  found : Form × List ℕ × Bool
  is : r ≡ Ok found

fits_next : (form : Form) (r : Result (List ℕ × Bool) Fault) (next : Fault → Read) → ((g : Fault) → Fits (next g)) → Fits (or_next form r next)
fits_next form (Ok it) next rest = record { found = (form, it.0, it.1); is = refl }
fits_next form (Err fault) next rest = rest fault

fits_here : (form : Form) (r : Result (List ℕ × Bool) Fault) (it : List ℕ × Bool) (next : Fault → Read) → r ≡ Ok it → Fits (or_next form r next)
fits_here form (Ok it) other next is = record { found = (form, it.0, it.1); is = refl }
fits_here form (Err fault) other next is = absurd (cc)

fits : (forms : List Form) (f : Fault) (text : List ℕ) (k : ℕ) (d : Form) (it : List ℕ × Bool) → k < length forms
    → read_as (slice_index_or forms k d) text ≡ Ok it → Fits (fit forms f text)
fits [] f text k d it below is = absurd (omega arith)
fits (form ∷ forms) f text zero d it below is = fits_here form (read_as form text) it (λ g. fit forms (further f g) text) is
fits (form ∷ forms) f text (suc k) d it below is =
    fits_next form (read_as form text) (λ g. fit forms (further f g) text) (λ g. fits forms (further f g) text k d it (omega arith) is)

settled_is : (o : Option Doubt) (d : Form × List ℕ × Bool) (bytes : List ℕ)
    → ((found : List ℕ) (read : Option Form) → settled_by o d ≡ Ok (read, found) → found ≡ bytes) → IsOrUnsure bytes (settled_by o d)
settled_is (Some doubt) d bytes h = tt
settled_is None d bytes h = h d.1 (Some d.0) refl

by_fit : (text bytes : List ℕ) (r : Read) (found : Form × List ℕ × Bool) → r ≡ Ok found
    → ((found : List ℕ) (read : Option Form) → dump_of text r ≡ Ok (read, found) → found ≡ bytes) → IsOrUnsure bytes (dump_of text r)
by_fit text bytes (Ok d) found is h = settled_is (doubt_of words_first d.0.column d.2 text d.1) d bytes h
by_fit text bytes (Err fault) found is h = absurd (cc)

pub read_back : (k : ℕ) (d : Form) (text bytes : List ℕ) (sure : Bool) → k < length words_first
    → read_as (slice_index_or words_first k d) text ≡ Ok (bytes, sure) → IsOrUnsure bytes (pasted Dump text)
read_back k d text bytes sure below is =
    let fitted = fits words_first nowhere text k d (bytes, sure) below is in
    by_fit text bytes (fit words_first nowhere text) fitted.found fitted.is
    (λ found read taken. dumps_are_read_one_way text k d below bytes found sure read is taken)
