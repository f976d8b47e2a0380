-- Running transfers laid over an image: the laws for transfers that are free of each other.
use Rattle.std.proofs.Common.{◌≡◌, ◌≢◌, ℕ, ◌+◌, List, [], ◌∷◌, ◌++◌, length, get_or, map, take, drop, refl, ap, sym, ◌∙◌, arith, append_assoc, inl, inr}
use Rattle.std.proofs.Common.{zero, suc}
use Rattle.std.specs.{Prelude.slice_index, List.Contains, List.AllPairs, List.All, List.range_with_len, List.zip, Map.keys_of, Map.values_of}
use Rattle.std.proofs.lemmas.List.{map-append, get_or-take, get_or-drop, length-take, length-drop}
use Rattle.std.proofs.lemmas.List.Elements.{Contains-append_cases, Contains-append_left, Contains-append_right, All-head, All-tail, All-weaker}
use Rattle.std.proofs.{lemmas.Grind.flat_map-append, Math.Seq.take-add, lemmas.List.FromFn.length-range_with_len, lemmas.Map.Made.keys_of-zip}
use Rattle.dma_mem.specs.Image.{put, after_moves, carried, bytes_at, laid, over, moves_of}
use Rattle.dma_mem.specs.{Places.Apart, Places.Descriptor, Places.moves, Places.sources, Places.destinations, Meeting.IsFree, Rules.IsTransfer}
use Rattle.dma_mem.proofs.SharedPlaces.{Touches, Writes}
use Rattle.dma_mem.proofs.ImageOver.{after_moves_put, after_moves_more, after_moves_end, bytes_after_moves, get_or_after_moves_other, Apart_sym}

-- ---- the places that moves write and read

pub keys_in : (k : ℕ) (ds ss : List ℕ) (a : ℕ) → Contains (keys_of (take k (zip ds ss))) a → Contains (take k ds) a
keys_in zero ds ss a h = h
keys_in (suc k) [] ss a h = h
keys_in (suc k) (d ∷ ds) [] a h = absurd (omega (arith, h.1))
keys_in (suc k) (d ∷ ds) (s ∷ ss) a h = elim (Contains-append_cases (d ∷ []) (keys_of (take k (zip ds ss))) a h) [
  | inl e ↦ Contains-append_left (d ∷ []) (take k ds) a e
  | inr e ↦ Contains-append_right (d ∷ []) (take k ds) a (keys_in k ds ss a e)
]

pub values_in : (k : ℕ) (ds ss : List ℕ) (a : ℕ) → Contains (values_of (take k (zip ds ss))) a → Contains (take k ss) a
values_in zero ds ss a h = h
values_in (suc k) [] ss a h = absurd (omega (arith, h.1))
values_in (suc k) (d ∷ ds) [] a h = h
values_in (suc k) (d ∷ ds) (s ∷ ss) a h = elim (Contains-append_cases (s ∷ []) (values_of (take k (zip ds ss))) a h) [
  | inl e ↦ Contains-append_left (s ∷ []) (take k ss) a e
  | inr e ↦ Contains-append_right (s ∷ []) (take k ss) a (values_in k ds ss a e)
]

pub Contains_take : (k : ℕ) (xs : List ℕ) (a : ℕ) → Contains (take k xs) a → Contains xs a
Contains_take k xs a h = grind (arith, length-take, get_or-take)

pub Contains_drop : (k : ℕ) (xs : List ℕ) (a : ℕ) → Contains (drop k xs) a → Contains xs a
Contains_drop k xs a h = (k + h.0, omega (arith, h.1, length-drop k xs), sym (get_or-drop k xs h.0 a) ∙ h.2)

-- a list with no element twice falls into parts that are apart
pub once_parts : (xs : List ℕ) (k n : ℕ) → AllPairs (λ a b. a ≢ b) xs → Apart (take n (drop k xs)) (take k xs)
once_parts xs k n h = grind (arith, Contains_take, length-take, length-drop, get_or-take, get_or-drop)

-- being free of each other is symmetric
pub IsFree_sym : (t u : Descriptor) → IsFree t u → IsFree u t
IsFree_sym t u h = record {
  writes_none = Apart_sym (destinations t) (destinations u) h.writes_none;
  writes_no_source = Apart_sym (sources t) (destinations u) h.reads_none;
  reads_none = Apart_sym (destinations t) (sources u) h.writes_no_source;
}

pub moves_writes : (t : Descriptor) (k a : ℕ) → Contains (keys_of (moves t k)) a → Contains (destinations t) a
moves_writes t k a h = Contains_take k (destinations t) a (keys_in k (destinations t) (sources t) a h)

pub moves_reads : (t : Descriptor) (k a : ℕ) → Contains (values_of (moves t k)) a → Contains (sources t) a
moves_reads t k a h = Contains_take k (sources t) a (values_in k (destinations t) (sources t) a h)

-- what holds of each address that running transfers write, or read, holds of each that their moves do
abbrev EachOf : (Descriptor → List ℕ) → (ℕ → Type 0) → Descriptor × ℕ → Type 0
EachOf of P r = (a : ℕ) → Contains (of r.0) a → P a

running_in : (part : ℕ × ℕ → ℕ) (of : Descriptor → List ℕ) → ((t : Descriptor) (k a : ℕ) → Contains (map part (moves t k)) a → Contains (of t) a)
    → (running : List (Descriptor × ℕ)) (P : ℕ → Type 0) → All (EachOf of P) running → (a : ℕ) → Contains (map part (moves_of running)) a → P a
running_in part of own [] P all a h = absurd (omega (arith, h.1))
running_in part of own (r ∷ rs) P all a h =
    elim (Contains-append_cases (map part (moves r.0 r.1)) (map part (moves_of rs)) a (rw map-append at h)) [
      | inl i ↦ All-head (EachOf of P) r rs all a (own r.0 r.1 a i)
      | inr i ↦ running_in part of own rs P (All-tail (EachOf of P) r rs all) a i
    ]

running_writes : (running : List (Descriptor × ℕ)) (P : ℕ → Type 0) → All (EachOf destinations P) running → (a : ℕ) → Contains (keys_of (moves_of running)) a
    → P a
running_writes = running_in (λ m. m.0) destinations moves_writes

running_reads : (running : List (Descriptor × ℕ)) (P : ℕ → Type 0) → All (EachOf sources P) running → (a : ℕ) → Contains (values_of (moves_of running)) a → P a
running_reads = running_in (λ m. m.1) sources moves_reads

-- what a transfer writes is apart from what transfers that it is free of write and read
running_apart : (t : Descriptor) (running : List (Descriptor × ℕ)) → All (λ r. IsFree t r.0) running → Apart (destinations t) (keys_of (moves_of running))
running_apart t running all =
    let P : ℕ → Type 0 = λ a. ¬ Contains (destinations t) a in
    let each : All (EachOf destinations P) running = All-weaker (λ r. IsFree t r.0) (EachOf destinations P) (λ r f a i j. f.writes_none a j i) running all in
    λ a i j. running_writes running P each a j i

pub free_writes : (t : Descriptor) (k : ℕ) (running : List (Descriptor × ℕ)) → All (λ r. IsFree t r.0) running
    → Apart (keys_of (moves t k)) (keys_of (moves_of running))
free_writes t k running all = λ a i j. running_apart t running all a (moves_writes t k a i) j

pub free_reads : (t : Descriptor) (k : ℕ) (running : List (Descriptor × ℕ)) → All (λ r. IsFree t r.0) running
    → Apart (values_of (moves_of running)) (keys_of (moves t k))
free_reads t k running all =
    let P : ℕ → Type 0 = λ a. ¬ Contains (destinations t) a in
    let each : All (EachOf sources P) running = All-weaker (λ r. IsFree t r.0) (EachOf sources P) (λ r f a i j. f.writes_no_source a j i) running all in
    λ a i j. running_reads running P each a i (moves_writes t k a j)

-- ---- the laws

-- a transfer that has stored nothing changes nothing
pub over_started : (image : List ℕ) (xs ys : List (Descriptor × ℕ)) (t : Descriptor) → over image (xs ++ (t, 0) ∷ ys) ≡ over image (xs ++ ys)
over_started image xs ys t = ap (after_moves image) (flat_map-append _ xs ((t, 0) ∷ ys) ∙ sym (flat_map-append _ xs ys))

-- a transfer that ends: the bytes that it stored are in the image from then on
pub over_ended : (image : List ℕ) (xs ys : List (Descriptor × ℕ)) (t : Descriptor) (k : ℕ) → All (λ r. IsFree t r.0) (xs ++ ys)
    → over (laid image t k) (xs ++ ys) ≡ over image (xs ++ (t, k) ∷ ys)
over_ended image xs ys t k free =
    let both : moves_of (xs ++ ys) ≡ moves_of xs ++ moves_of ys = flat_map-append _ xs ys in
    let writes : Apart (keys_of (moves t k)) (keys_of (moves_of xs ++ moves_of ys)) = rw both at (free_writes t k (xs ++ ys) free) in
    let reads : Apart (values_of (moves_of xs ++ moves_of ys)) (keys_of (moves t k)) = rw both at (free_reads t k (xs ++ ys) free) in
    let before : Apart (keys_of (moves t k)) (keys_of (moves_of xs)) =
    λ a i j. writes a i (rw map-append (Contains-append_left (keys_of (moves_of xs)) (keys_of (moves_of ys)) a j)) in
    ap (after_moves (laid image t k)) both
    ∙ after_moves_end image (moves_of xs) (moves t k) (moves_of ys) writes reads before
    ∙ ap (after_moves image) (sym (flat_map-append _ xs ((t, k) ∷ ys)))

-- the moves from position k on, n of them
abbrev pub next_moves : Descriptor → ℕ → ℕ → List (ℕ × ℕ)
next_moves t k n = take n (drop k (zip (destinations t) (sources t)))

pub drop_zip : (k : ℕ) (ds ss : List ℕ) → drop k (zip ds ss) ≡ zip (drop k ds) (drop k ss)
drop_zip zero ds ss = refl
drop_zip (suc k) [] ss = refl
drop_zip (suc k) (d ∷ ds) [] = elim (drop k ds) as (λ l. [] ≡ zip {X = ℕ} l []) [ [] ↦ refl | e ∷ es ↦ refl ]
drop_zip (suc k) (d ∷ ds) (s ∷ ss) = drop_zip k ds ss

next_writes_law : (t : Descriptor) (k n a : ℕ) → Contains (keys_of (next_moves t k n)) a → Contains (take n (drop k (destinations t))) a
next_writes_law t k n a h = keys_in n (drop k (destinations t)) (drop k (sources t)) a (rw drop_zip at h)

free_writes_next : (t : Descriptor) (k n : ℕ) (running : List (Descriptor × ℕ)) → All (λ r. IsFree t r.0) running
    → Apart (keys_of (next_moves t k n)) (keys_of (moves_of running))
free_writes_next t k n running all =
    λ a i j. running_apart t running all a (Contains_drop k (destinations t) a (Contains_take n (drop k (destinations t)) a (next_writes_law t k n a i))) j

-- a running transfer stores n more bytes
pub over_stored : (image : List ℕ) (xs ys : List (Descriptor × ℕ)) (t : Descriptor) (k n : ℕ) → IsTransfer t → All (λ r. IsFree t r.0) xs
    → over image (xs ++ (t, k + n) ∷ ys) ≡ put (over image (xs ++ (t, k) ∷ ys)) (carried image (next_moves t k n))
over_stored image xs ys t k n copy free =
    let x = moves_of xs in
    let y = moves_of ys in
    let m = moves t k in
    let more = next_moves t k n in
    let apart : Apart (keys_of more) (keys_of (x ++ m)) =
    λ a i j. elim (Contains-append_cases (keys_of x) (keys_of m) a (rw map-append at j)) [
      | inl l ↦ free_writes_next t k n xs free a i l
      | inr l ↦ once_parts (destinations t) k n copy.once a (next_writes_law t k n a i) (keys_in k (destinations t) (sources t) a l)
    ] in
    ap (after_moves image) (flat_map-append _ xs ((t, k + n) ∷ ys) ∙ ap (λ l. x ++ (l ++ y)) (take-add k n (zip (destinations t) (sources t)))
    ∙ ap (λ l. x ++ l) (append_assoc m more y) ∙ sym (append_assoc x m (more ++ y)))
    ∙ after_moves_more image (x ++ m) more y apart
    ∙ ap (λ l. put (after_moves image l) (carried image more)) (append_assoc x m y ∙ sym (flat_map-append _ xs ((t, k) ∷ ys)))

-- what the host writes to a range that no running transfer touches shows above them and is in the image
pub over_written : (image : List ℕ) (running : List (Descriptor × ℕ)) (addr : ℕ) (bytes : List ℕ)
    → All (λ r. ¬ Touches r.0 (range_with_len addr (length bytes))) running
    → over (put image (bytes_at addr bytes)) running ≡ put (over image running) (bytes_at addr bytes)
over_written image running addr bytes all =
    let range = range_with_len addr (length bytes) in
    let P : ℕ → Type 0 = λ a. ¬ Contains range a in
    let keys : keys_of (bytes_at addr bytes) ≡ range = keys_of-zip range bytes (sym (length-range_with_len addr (length bytes))) in
    let free = λ (r : Descriptor × ℕ). ¬ Touches r.0 (range_with_len addr (length bytes)) in
    let writes : All (EachOf destinations P) running = All-weaker free (EachOf destinations P) (λ r f a i j. f (a, j, inl i)) running all in
    let reads : All (EachOf sources P) running = All-weaker free (EachOf sources P) (λ r f a i j. f (a, j, inr i)) running all in
    let reads' : Apart (values_of (moves_of running)) (keys_of (bytes_at addr bytes)) = rw keys (running_reads running P reads) in
    let writes' : Apart (keys_of (moves_of running)) (keys_of (bytes_at addr bytes)) = rw keys (running_writes running P writes) in
    after_moves_put image (bytes_at addr bytes) (moves_of running) reads' writes'

-- what the host reads from a range that no running transfer writes is the image's
pub over_read : (image : List ℕ) (running : List (Descriptor × ℕ)) (addr n : ℕ) → All (λ r. ¬ Writes r.0 (range_with_len addr n)) running
    → take n (drop addr (over image running)) ≡ take n (drop addr image)
over_read image running addr n all =
    let P : ℕ → Type 0 = λ a. ¬ Contains (range_with_len addr n) a in
    let writes : All (EachOf destinations P) running =
    All-weaker (λ r. ¬ Writes r.0 (range_with_len addr n)) (EachOf destinations P) (λ r f a i j. f (a, j, i)) running all in
    bytes_after_moves image (moves_of running) addr n (λ a i j. running_writes running P writes a j i)

-- ---- a store, as the memory sees it

pub carried_zip : (image : List ℕ) (ds ss : List ℕ) → carried image (zip ds ss) ≡ zip ds (map (slice_index image) ss)
carried_zip image [] ss = refl
carried_zip image (d ∷ ds) [] = refl
carried_zip image (d ∷ ds) (s ∷ ss) = ap (λ l. (d, slice_index image s) ∷ l) (carried_zip image ds ss)

pub take_zip : (n : ℕ) (ds ss : List ℕ) → take n (zip ds ss) ≡ zip (take n ds) (take n ss)
take_zip zero ds ss = refl
take_zip (suc n) [] ss = refl
take_zip (suc n) (d ∷ ds) [] = refl
take_zip (suc n) (d ∷ ds) (s ∷ ss) = ap (λ l. (d, s) ∷ l) (take_zip n ds ss)

-- the memory has the image's byte at each place of a list that no running transfer writes
pub over_sources : (image : List ℕ) (running : List (Descriptor × ℕ)) (ss : List ℕ) → Apart ss (keys_of (moves_of running))
    → map (slice_index (over image running)) ss ≡ map (slice_index image) ss
over_sources image running [] h = refl
over_sources image running (s ∷ ss) h =
    let head : get_or (over image running) s 0 ≡ get_or image s 0 = get_or_after_moves_other image (moves_of running) s (h s (0, omega arith, refl)) in
    let tail : map (slice_index (over image running)) ss ≡ map (slice_index image) ss =
    over_sources image running ss (λ a i. h a (Contains-append_right (s ∷ []) ss a i)) in
    cc

-- storing, at the next n destination places, the bytes that the image has at the source places beside them
pub over_store : (image : List ℕ) (xs ys : List (Descriptor × ℕ)) (t : Descriptor) (k n : ℕ) (bytes : List ℕ) → IsTransfer t → All (λ r. IsFree t r.0) xs
    → bytes ≡ map (slice_index image) (take n (drop k (sources t)))
    → put (over image (xs ++ (t, k) ∷ ys)) (zip (take n (drop k (destinations t))) bytes) ≡ over image (xs ++ (t, k + n) ∷ ys)
over_store image xs ys t k n bytes copy free read = grind (arith, drop_zip, take_zip, carried_zip, over_stored)
