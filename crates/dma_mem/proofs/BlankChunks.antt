-- Chunks that are made and whose lists have no bytes yet.
use Rattle.std.proofs.Common.{◌≡◌, Vec, Global, vec_capacity, ℕ, ◌+◌, ◌-◌, ◌<◌, ◌≤◌, List, [], ◌++◌, length, get_or, replicate, drop, take, true}
use Rattle.std.proofs.Common.{Option, Some, None, refl, ap, sym, ◌∙◌, arith, inl, inr}
use Rattle.std.specs.{Prelude.unwrap_or, Prelude.nat_eq, Map.lookup, Vec.with_items}
use Rattle.std.proofs.Math.Seq.{take-length}
use Rattle.std.proofs.lemmas.Bool.{cases_lt, cases_eq, eq-eqb, ne_eqb, lt-ltb, cases_Bool}
use Rattle.std.proofs.lemmas.List.{ext_get_or, length-replicate, append-nil, length-drop, length-take, nil_from_length}
use Rattle.dma_mem.specs.{Image.put, Image.bytes_at, inner.Blocks.filled, inner.ChunkTable.blank, inner.ChunkTable.bytes_shown, inner.ChunkTable.is_blank}
use Rattle.dma_mem.proofs.BytesPut.{lookup_bytes_before, lookup_bytes_at, lookup_bytes_past}
use Rattle.dma_mem.proofs.{ChunkTables.zero_at, ImagePut.length_put, ImagePut.get_or_put}

-- ---- the zeros that a blank chunk shows

pub blank_is : blank ≡ replicate 16384 0
unfolding blank
blank_is = refl

pub length_blank : length blank ≡ 16384
length_blank = ap length blank_is ∙ length-replicate {A = ℕ} 16384 0

pub blank_at : (k : ℕ) → get_or blank k 0 ≡ 0
blank_at k = ap (λ xs. get_or xs k 0) blank_is ∙ zero_at 16384 k

-- A fill of a blank chunk with 0 changes nothing.
pub filled_blank : (start len : ℕ) → filled blank start len 0 ≡ blank
filled_blank start len =
    let zeros : List ℕ = replicate len 0 in
    ext_get_or 0 _ _ (length_put blank (bytes_at start zeros)) (λ k l.
    let m : k < length blank = omega (arith, length_put blank (bytes_at start zeros)) in
    let shows : (o : Option ℕ) → lookup (nat_eq k) (bytes_at start zeros) ≡ o → unwrap_or o (get_or blank k 0) ≡ 0
    → get_or (put blank (bytes_at start zeros)) k 0 ≡ get_or blank k 0 = λ o e z. get_or_put blank (bytes_at start zeros) k m
    ∙ ap (λ o. unwrap_or o (get_or blank k 0)) e ∙ z ∙ sym (blank_at k) in
    elim (cases_lt k start) [
      | inl before ↦ shows None (lookup_bytes_before start zeros k before) (blank_at k)
      | inr after ↦ elim (cases_lt k (start + length zeros)) [
        | inl within ↦ shows (Some (get_or zeros (k - start) 0)) (lookup_bytes_at start zeros (k - start) k (omega arith) (omega arith))
            (zero_at len (k - start))
        | inr past ↦ shows None (lookup_bytes_past start zeros k past) (blank_at k)
      ]
    ])

-- ---- what a chunk shows, by its list

-- A blank list shows zeros.
pub shown_blank : (capacity : ℕ) (items : List ℕ) → is_blank capacity items ≡ true → bytes_shown capacity items ≡ blank
shown_blank capacity items e = rw e refl

-- A list with items shows them.
pub shown_items : (capacity : ℕ) (items : List ℕ) → 0 < length items → bytes_shown capacity items ≡ items
shown_items capacity items some = rw (ne_eqb (length items) 0 (λ e. omega arith)) refl

-- A chunk that shows a byte shows 16,384.
pub length_shown : (capacity : ℕ) (items : List ℕ) → (0 < length items → 16384 ≤ length items) → length items ≤ 16384 → 0 < length (bytes_shown capacity items)
    → length (bytes_shown capacity items) ≡ 16384
length_shown capacity items whole most some = grind (arith, cases_Bool, shown_blank, length_blank)

-- A chunk with memory shows 16,384 bytes.
pub length_with_memory : (capacity : ℕ) (items : List ℕ) → (0 < length items → 16384 ≤ length items) → length items ≤ 16384 → 0 < capacity
    → length (bytes_shown capacity items) ≡ 16384
length_with_memory capacity items whole most some = grind (arith, cases_eq, shown_blank, eq-eqb, lt-ltb, length_blank, shown_items)

-- A blank list has no items.
pub blank_none : (capacity : ℕ) (items : List ℕ) → is_blank capacity items ≡ true → length items ≡ 0
blank_none capacity items e = grind (arith, cases_eq, ne_eqb)

-- An empty list with memory shows zeros.
pub shown_new : (capacity : ℕ) (items : List ℕ) → items ≡ [] → 0 < capacity → bytes_shown capacity items ≡ blank
shown_new capacity items none some = grind (arith, shown_blank, lt-ltb)

-- An empty list that is resized to n items, all 0, is n zeros.
pub zeros_fill : (n used : ℕ) (items : List ℕ) → length items ≡ 0 → used ≡ length items → take n items ++ replicate (n - used) 0 ≡ replicate n 0
zeros_fill n used items h h2 = grind (arith, nil_from_length, length-take)

-- ---- what is written through the list

-- all bytes of a list, replaced by as many others
pub replaced_all : (len : ℕ) (all items : List ℕ) → len ≡ length items → length all ≡ length items → take len (all ++ drop (length all) items) ≡ all
replaced_all len all items e f =
    let rest : drop (length all) items ≡ [] = nil_from_length (drop (length all) items) (omega (arith, length-drop {A = ℕ} (length all) items)) in
    let long : len ≡ length all = omega (arith, e, f) in
    rw (rest, append-nil, long) (take-length all)

-- After all bytes of a list are replaced, it shows the new ones.
pub shown_replaced : (capacity len : ℕ) (all items : List ℕ) → len ≡ length items → length all ≡ length items → 0 < length items
    → bytes_shown capacity (take len (all ++ drop (length all) items)) ≡ all
shown_replaced capacity len all items e f some = grind (arith, replaced_all, shown_items)

-- Once the list of a made chunk has its zeros, it has 16,384 items.
pub length_with_zeros : (capacity : ℕ) (items new shown : List ℕ) → new ≡ bytes_shown capacity items → bytes_shown capacity items ≡ shown
    → (0 < length items → 16384 ≤ length items) → length items ≤ 16384 → 0 < length shown → length new ≡ 16384
length_with_zeros capacity items new shown e view whole most some = grind (arith, length_shown)

-- The list of a chunk that showed `shown` and was made, after these bytes were put into it.
pub record HasPut (v : Vec ℕ Global) (shown : List ℕ) (es : List (ℕ × ℕ)) : Type 0 where
  pub whole : length v.items ≡ 16384
  pub room : 16384 ≤ vec_capacity v
  pub all : length (bytes_shown (vec_capacity v) v.items) ≡ 16384
  pub shows : bytes_shown (vec_capacity v) v.items ≡ put shown es

pub has_put : (old new : Vec ℕ Global) (shown now all : List ℕ) (es : List (ℕ × ℕ)) → new.items ≡ bytes_shown (vec_capacity old) old.items
    → bytes_shown (vec_capacity old) old.items ≡ shown → (0 < length old.items → 16384 ≤ length old.items) → length old.items ≤ 16384 → 0 < length shown
    → now ≡ new.items → all ≡ put now es → HasPut (with_items new all) shown es
has_put old new shown now all es adds view whole most some same writes =
    grind (arith, length_with_zeros, vec_capacity, length_put, shown_replaced, replaced_all)
