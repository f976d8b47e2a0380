-- The lines of a dump, each with a part of the bytes.
use Rattle.std.proofs.Common.{◌≡◌, ◌∙◌, ap, sym, subst, refl, ℕ, zero, suc, ◌+◌, ◌%◌, ◌<◌, ◌≤◌, true, eqb, append_assoc, append-nil}
use Rattle.std.proofs.Common.{List, [], ◌∷◌, ◌++◌, length, length-append, take, drop, Option, Some, None, arith}
use Rattle.std.specs.{Prelude.slice_index, Option.unwrap_or}
use Rattle.std.proofs.Math.Nat.{add-mod, mod-mod}
use Rattle.std.proofs.lemmas.Bool.{cond_both, eq-eqb, eqb-true, eqb-false}
use Rattle.dma_manual.specs.{Dump.goes_on, declared.dump.Place.TheVariants.Start, declared.dump.Scan.Scan, declared.forms.Form.Form}
use Rattle.dma_manual.specs.Printed.{lines_from, parts_after}
use Rattle.dma_manual.proofs.Runs.{Goes, goes_none, goes_then}

abbrev pub AreBytes : List ℕ → Type 0
AreBytes bytes = (k : ℕ) → slice_index bytes k < 256

pub bytes_append : (xs ys : List ℕ) → AreBytes xs → AreBytes ys → AreBytes (xs ++ ys)
bytes_append [] ys h h2 k = h2 k
bytes_append (x ∷ xs) ys h h2 zero = h 0
bytes_append (x ∷ xs) ys h h2 (suc k) = bytes_append xs ys (λ j. h (suc j)) h2 k

pub bytes_take : (n : ℕ) (xs : List ℕ) → AreBytes xs → AreBytes (take n xs)
bytes_take zero xs h k = omega arith
bytes_take (suc n) [] h k = omega arith
bytes_take (suc n) (x ∷ xs) h zero = h 0
bytes_take (suc n) (x ∷ xs) h (suc k) = bytes_take n xs (λ j. h (suc j)) k

pub bytes_drop : (n : ℕ) (xs : List ℕ) → AreBytes xs → AreBytes (drop n xs)
bytes_drop zero xs h = h
bytes_drop (suc n) [] h = h
bytes_drop (suc n) (x ∷ xs) h = bytes_drop n xs (λ j. h (suc j))

-- A part has at most n bytes, and only whole groups of `unit` bytes.
pub record IsPart (n unit : ℕ) (part : List ℕ) : Type 0 where
  pub some : 0 < length part
  pub most : length part ≤ n
  pub whole : length part % unit ≡ 0
  pub bytes : AreBytes part

abbrev pub AllParts : (List ℕ → Type 0) → List (List ℕ) → Type 0
AllParts p [] = Unit {0}
AllParts p (part ∷ rest) = p part × AllParts p rest

abbrev pub joined : List (List ℕ) → List ℕ
joined [] = []
joined (part ∷ rest) = part ++ joined rest

-- These are parts of bytes.
pub record ArePartsOf (n unit : ℕ) (bytes : List ℕ) (list : List (List ℕ)) : Type 0 where
  pub all : AllParts (IsPart n unit) list
  pub is : joined list ≡ bytes

no_more : (n unit : ℕ) (part : List ℕ) → length part < n → length part % unit ≡ 0 → AreBytes part
    → ArePartsOf n unit (part ++ []) (parts_after n part [])
no_more n unit [] below whole h = record { all = tt; is = refl }
no_more n unit (b ∷ part) below whole h =
    record { all = (record { some = omega arith; most = omega arith; whole = whole; bytes = h }, tt); is = refl }

-- what follows whole groups
rest_whole : (n unit x : ℕ) → n % unit ≡ 0 → (n + x) % unit ≡ 0 → x % unit ≡ 0
rest_whole n unit x is all =
    let zero_add : x % unit ≡ 0 + x % unit = omega arith in
    sym (mod-mod x unit) ∙ ap (λ (m : ℕ). m % unit) zero_add ∙ ap (λ (m : ℕ). (m + x % unit) % unit) (sym is) ∙ sym (add-mod n x unit) ∙ all

pub parts_are : (n unit : ℕ) (part bytes : List ℕ) → length part < n → n % unit ≡ 0 → (length part + length bytes) % unit ≡ 0 → AreBytes part
    → AreBytes bytes → ArePartsOf n unit (part ++ bytes) (parts_after n part bytes)
parts_are n unit part [] below units whole h h2 =
    let same : length part + 0 ≡ length part = omega arith in
    no_more n unit part below (ap (λ (m : ℕ). m % unit) (sym same) ∙ whole) h
parts_are n unit part (b ∷ bytes) below units whole h h2 =
    let more = part ++ b ∷ [] in
    let long : length more ≡ length part + 1 = length-append part (b ∷ []) in
    let are : AreBytes more = bytes_append part (b ∷ []) h (λ k. one_byte k) in
    let same : more ++ bytes ≡ part ++ (b ∷ bytes) = append_assoc part (b ∷ []) bytes in
    let longer : length part + suc (length bytes) ≡ length more + length bytes = omega arith in
    let still : (length more + length bytes) % unit ≡ 0 = ap (λ (m : ℕ). m % unit) (sym longer) ∙ whole in
    cond_both (eqb (length more) n) (more ∷ parts_after n [] bytes) (parts_after n more bytes) (ArePartsOf n unit (part ++ (b ∷ bytes)))
    (λ all. let full : length more ≡ n = eqb-true (length more) n all in
    let left : length bytes % unit ≡ 0 =
    rest_whole n unit (length bytes) units (ap (λ (m : ℕ). (m + length bytes) % unit) (sym full) ∙ still) in
    let zero_left : (0 + length bytes) % unit ≡ 0 = ap (λ (m : ℕ). m % unit) (zero_add (length bytes)) ∙ left in
    let rest = parts_are n unit [] bytes (omega arith) units zero_left (λ k. none_small k) (λ k. h2 (suc k)) in
    record {
      all = (record { some = omega arith; most = omega arith; whole = ap (λ (m : ℕ). m % unit) full ∙ units; bytes = are }, rest.all);
      is = ap (λ (l : List ℕ). more ++ l) rest.is ∙ same;
    })
    (λ less. let other = eqb-false (length more) n less in
    let below : length more < n = not_all (length more) n (omega arith) other in
    subst (λ (l : List ℕ). ArePartsOf n unit l (parts_after n more bytes)) same
    (parts_are n unit more bytes below units still are (λ k. h2 (suc k))))
  where
    none_small : (k : ℕ) → slice_index [] k < 256
    none_small k = omega arith

    one_byte : (k : ℕ) → slice_index (b ∷ []) k < 256
    one_byte zero = h2 0
    one_byte (suc k) = omega arith

    zero_add : (m : ℕ) → 0 + m ≡ m
    zero_add m = omega arith

    not_all : (m n : ℕ) → m ≤ n → (m ≡ n → ⊥) → m < n
    not_all m n most other = omega arith

-- A line has been read, with its part of the bytes.
pub record LineTo (form : Form) (s : Scan) (bytes text part : List ℕ) (f : ℕ) : Type 0 where
  pub next : Scan
  pub goes : Goes form s bytes text next (bytes ++ part)
  pub start : next.place ≡ Start
  pub first : next.first ≡ Some f

-- Each line at an address below `top` is read, if its bytes are as asked for.
abbrev pub ReadsLines : Form → (ℕ → List ℕ → List ℕ) → (List ℕ → Type 0) → ℕ → Type 0
ReadsLines form line Is top =
    (s : Scan) (bytes : List ℕ) (a f : ℕ) (part : List ℕ) → s.place ≡ Start → goes_on s.first (length bytes) a ≡ true → unwrap_or s.first a ≡ f → Is part
    → length bytes + length part ≤ 1048576 → a < top → LineTo form s bytes (line a part) part f

module _ (form : Form) (line : ℕ → List ℕ → List ℕ) (Is : List ℕ → Type 0) (top : ℕ) (some_of : (part : List ℕ) → Is part → 0 < length part)
    (reads : ReadsLines form line Is top) (f : ℕ) where
  pub lines_read : (rest : List (List ℕ)) (part : List ℕ) (s : Scan) (bytes : List ℕ) (a : ℕ) → s.place ≡ Start → goes_on s.first (length bytes) a ≡ true
      → unwrap_or s.first a ≡ f → a ≡ f + length bytes → Is part → AllParts Is rest
      → length bytes + length (part ++ joined rest) ≤ 1048576 → a + length (part ++ joined rest) ≤ top
      → LineTo form s bytes (lines_from line a (part ∷ rest)) (part ++ joined rest) f
  lines_read [] part s bytes a start on first at_end is_part others most below =
      let all : part ++ [] ≡ part = append-nil part in
      let long = ap (λ (l : List ℕ). length l) all in
      let some = some_of part is_part in
      let one = reads s bytes a f part start on first is_part (omega arith) (omega arith) in
      record {
        next = one.next;
        goes = subst (λ (l : List ℕ). Goes form s bytes (line a part ++ []) one.next (bytes ++ l)) (sym all)
            (goes_then {u = one.next} one.goes (goes_none form one.next (bytes ++ part)));
        start = one.start;
        first = one.first;
      }
  lines_read (more ∷ rest) part s bytes a start on first at_end is_part others most below =
      let long = length-append part (joined (more ∷ rest)) in
      let longer = length-append bytes part in
      let some = some_of part is_part in
      let one = reads s bytes a f part start on first is_part (omega arith) (omega arith) in
      let goes : goes_on (Some f) (length (bytes ++ part)) (a + length part) ≡ true =
      eq-eqb (a + length part) (f + length (bytes ++ part)) (omega arith) in
      let two = lines_read rest more one.next (bytes ++ part) (a + length part) one.start
      (subst (λ (o : Option ℕ). goes_on o (length (bytes ++ part)) (a + length part) ≡ true) (sym one.first) goes)
      (ap (λ (o : Option ℕ). unwrap_or o (a + length part)) one.first) (omega arith) others.0 others.1 (omega arith) (omega arith) in
      record {
        next = two.next;
        goes = subst (λ (l : List ℕ). Goes form s bytes (line a part ++ lines_from line (a + length part) (more ∷ rest)) two.next l)
            (append_assoc bytes part (joined (more ∷ rest))) (goes_then {u = two.next} one.goes two.goes);
        start = two.start;
        first = two.first;
      }

  -- the lines of a whole dump
  pub dump_read : (s : Scan) (list : List (List ℕ)) (bytes : List ℕ) → s.place ≡ Start → s.first ≡ None → AllParts Is list → joined list ≡ bytes → 0 < length bytes
      → length bytes ≤ 1048576 → f + length bytes ≤ top → LineTo form s [] (lines_from line f list) bytes f
  dump_read s [] bytes start none are whole some most below = let long = ap (λ (l : List ℕ). length l) whole in absurd (omega arith)
  dump_read s (part ∷ rest) bytes start none are whole some most below =
      let long = ap (λ (l : List ℕ). length l) whole in
      subst (λ (l : List ℕ). LineTo form s [] (lines_from line f (part ∷ rest)) l f) whole
      (lines_read rest part s [] f start (rw none refl) (rw none refl) (omega arith) are.0 are.1 (omega arith) (omega arith))
