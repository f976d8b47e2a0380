-- How the text of a dump is read, one part after another.
use Rattle.std.proofs.Common.{◌≡◌, ◌∙◌, sym, ap, refl, ℕ, ◌+◌, ◌<◌, ◌≤◌, Bool, true, false, List, [], ◌∷◌, ◌++◌, length, nat_le, subst, if◌then◌else◌, Result, Ok, Err}
use Rattle.std.proofs.lemmas.Bool.{le-leb, lt-ltb}
use Rattle.dma_manual.specs.{Dump.Step, Dump.next_of, declared.dump.Effect.Effect, declared.dump.Effect.TheVariants.Nothing}
use Rattle.dma_manual.specs.{declared.dump.Place.Place, declared.dump.Place.TheVariants.Start}
use Rattle.dma_manual.specs.{declared.dump.Scan.Scan, declared.forms.Form.Form, declared.pasted.Fault.Fault}
use Rattle.dma_text.specs.Results.{◌>>=◌}
use Rattle.dma_manual.specs.declared.dump.Cause.TheVariants.{Long as TooLong}
use Rattle.dma_manual.specs.Pasted.{applied, begun, read_as, read_from, taken, taken_by}

abbrev pub Run : Type 0
Run = Result (Scan × List ℕ) Fault

abbrev pub go_on : Run → (Scan → List ℕ → Run) → Run
go_on (Ok next) f = f next.0 next.1
go_on (Err fault) f = Err fault

-- the scan and the bytes after a text
unfoldable pub run : Form → Scan → List ℕ → List ℕ → Run
run form s bytes [] = Ok (s, bytes)
run form s bytes (b ∷ text) = go_on (taken form s bytes 0 b) (λ next found. run form next found text)

-- A text is read from one scan to another.
pub record Goes (form : Form) (s : Scan) (bytes text : List ℕ) (t : Scan) (found : List ℕ) : Type 0 where
  pub is : run form s bytes text ≡ Ok (t, found)

abbrev pub at : Scan → Place → Scan
at s p = record s { place = p }

-- one part after another
append_by : (form : Form) (t : Scan) (found xs ys : List ℕ) (r : Run)
    → ((s : Scan) (bytes : List ℕ) → run form s bytes xs ≡ Ok (t, found) → run form s bytes (xs ++ ys) ≡ run form t found ys)
    → go_on r (λ next more. run form next more xs) ≡ Ok (t, found) → go_on r (λ next more. run form next more (xs ++ ys)) ≡ run form t found ys
append_by form t found xs ys (Ok next) rest is = rest next.0 next.1 is
append_by form t found xs ys (Err fault) rest is = absurd (cc)

run_append : (form : Form) (t : Scan) (found xs ys : List ℕ) (s : Scan) (bytes : List ℕ) → run form s bytes xs ≡ Ok (t, found)
    → run form s bytes (xs ++ ys) ≡ run form t found ys
unfolding run
run_append form t found [] ys s bytes is = ap (λ (x : Run). go_on x (λ next more. run form next more ys)) is
run_append form t found (b ∷ xs) ys s bytes is = append_by form t found xs ys (taken form s bytes 0 b) (run_append form t found xs ys) is

pub goes_then : {form : Form} {s t u : Scan} {bytes found more xs ys : List ℕ} → Goes form s bytes xs t found → Goes form t found ys u more
    → Goes form s bytes (xs ++ ys) u more
goes_then {form} {s} {t} {u} {bytes} {found} {more} {xs} {ys} one two = record { is = run_append form t found xs ys s bytes one.is ∙ two.is }

pub goes_none : (form : Form) (s : Scan) (bytes : List ℕ) → Goes form s bytes [] s bytes
unfolding run
goes_none form s bytes = record { is = refl }

pub goes_effect : (form : Form) (s t : Scan) (bytes found : List ℕ) (b : ℕ) (effect : Effect) → next_of form s bytes b ≡ Ok (t, effect)
    → applied form.group effect bytes ≡ found → length found ≤ 1048576 → Goes form s bytes (b ∷ []) t found
unfolding run
goes_effect form s t bytes found b effect is made most =
    record { is = rw (is, made, le-leb (length found) 1048576 most) refl }

pub goes_step : (form : Form) (s t : Scan) (bytes : List ℕ) (b : ℕ) → length bytes ≤ 1048576 → next_of form s bytes b ≡ Ok (t, Nothing)
    → Goes form s bytes (b ∷ []) t bytes
goes_step form s t bytes b most is = goes_effect form s t bytes bytes b Nothing is refl most

-- a whole text
by_if : {A : Type 0} (c : Bool) (p : Scan × List ℕ) (f g : Fault) (k : Scan → List ℕ → Run) (y : Scan × List ℕ) (rest : Scan × List ℕ → Result A Fault) (r : A)
    → go_on (if c then Ok p else Err f) k ≡ Ok y → (k p.0 p.1 ≡ Ok y → rest p ≡ Ok r) → ((if c then Ok p else Err g) >>= rest) ≡ Ok r
by_if true p f g k y rest r is next = next is
by_if false p f g k y rest r is next = absurd (cc)

by_taken : {A : Type 0} (form : Form) (bytes : List ℕ) (n : ℕ) (x : Step) (k : Scan → List ℕ → Run) (y : Scan × List ℕ)
    (rest : Scan × List ℕ → Result A Fault) (r : A) → go_on (taken_by form bytes 0 x) k ≡ Ok y
    → ((s : Scan) (more : List ℕ) → k s more ≡ Ok y → rest (s, more) ≡ Ok r) → (taken_by form bytes n x >>= rest) ≡ Ok r
by_taken form bytes n (Ok next) k y rest r is more =
    let found = applied form.group next.1 bytes in
    by_if (nat_le (length found) 1048576) (next.0, found) (record { cause = TooLong; at = 0; is_dump = true }) (record { cause = TooLong; at = n; is_dump = true })
    k y rest r is (more next.0 found)
by_taken form bytes n (Err cause) k y rest r is more = absurd (cc)

abbrev Ends : Type 0
Ends = Result (List ℕ × Bool) Fault

abbrev end_of : Form → ℕ → Run → Ends
end_of form n (Ok next) = read_from form next.0 next.1 n []
end_of form n (Err fault) = Err fault

from_run : (form : Form) (t : Scan) (found : List ℕ) (r : List ℕ × Bool) → ((m : ℕ) → read_from form t found m [] ≡ Ok r)
    → (text : List ℕ) (s : Scan) (bytes : List ℕ) → run form s bytes text ≡ Ok (t, found) → (n : ℕ) → read_from form s bytes n text ≡ Ok r
unfolding run
from_run form t found r h [] s bytes is n = ap (end_of form n) is ∙ h n
from_run form t found r h (b ∷ text) s bytes is n =
    by_taken form bytes n (next_of form s bytes b) (λ next more. run form next more text) (t, found) (λ next. read_from form next.0 next.1 (n + 1) text) r is
    (λ next more reads. from_run form t found r h text next more reads (n + 1))

at_end : (form : Form) (s : Scan) (bytes : List ℕ) (m : ℕ) → 0 < length bytes → length bytes ≤ 1048576
    → read_from form (at s Start) bytes m [] ≡ Ok (bytes, s.is_sure)
at_end form s bytes m some most = rw (le-leb (length bytes) 1048576 most, lt-ltb 0 (length bytes) some) refl

pub at_same : (s : Scan) (p : Place) → s.place ≡ p → at s p ≡ s
at_same s p is = ap (λ (q : Place). at s q) (sym is)

pub read_whole : (form : Form) (text bytes : List ℕ) (t : Scan) → Goes form (begun form) [] text t bytes → t.place ≡ Start → 0 < length bytes
    → length bytes ≤ 1048576 → read_as form text ≡ Ok (bytes, t.is_sure)
read_whole form text bytes t reads start some most =
    from_run form t bytes (bytes, t.is_sure)
    (λ m. subst (λ (u : Scan). read_from form u bytes m [] ≡ Ok (bytes, u.is_sure)) (at_same t Start start) (at_end form t bytes m some most))
    text (begun form) [] reads.is 0
