-- An image under running transfers: after a byte is stored, after a write of the host, after a transfer ends.
use Rattle.std.proofs.Common.{◌≡◌, ℕ, ◌+◌, ◌<◌, List, [], ◌++◌, length, get_or, take, drop, ap, sym, ◌∙◌, arith}
use Rattle.std.specs.{Prelude.slice_index, List.Contains, List.range_with_len, Map.keys_of, Map.values_of}
use Rattle.std.proofs.lemmas.List.{map-append, append-nil, get_or-take, get_or-drop, length-take, length-drop, ext_get_or}
use Rattle.std.proofs.lemmas.Map.Made.{keys_of-map_values}
use Rattle.dma_mem.specs.{Image.put, Image.after_moves, Image.carried, Places.Apart}
use Rattle.dma_mem.proofs.{ImagePut.put_put, ImagePut.put_exchange, ImagePut.carried_put, ImagePut.get_or_put_other, ImagePut.length_put, SharedPlaces.in_range}

-- ---- lists that are apart

pub Apart_sym : (xs ys : List ℕ) → Apart xs ys → Apart ys xs
Apart_sym xs ys h = λ a y x. h a x y

pub keys_of_carried : (image : List ℕ) (ms : List (ℕ × ℕ)) → keys_of (carried image ms) ≡ keys_of ms
keys_of_carried image ms = keys_of-map_values (slice_index image) ms

pub carried_append : (image : List ℕ) (xs ys : List (ℕ × ℕ)) → carried image (xs ++ ys) ≡ carried image xs ++ carried image ys
carried_append image xs ys = map-append (λ (m : ℕ × ℕ). (m.0, slice_index image m.1)) xs ys

-- ---- the two laws

-- bytes put below the moves may as well be put above them, where the moves neither write nor read them
pub after_moves_put : (image : List ℕ) (bytes ms : List (ℕ × ℕ)) → Apart (values_of ms) (keys_of bytes) → Apart (keys_of ms) (keys_of bytes)
    → after_moves (put image bytes) ms ≡ put (after_moves image ms) bytes
unfolding after_moves
after_moves_put image bytes ms reads writes =
    let c = carried image ms in
    let keys : Apart (keys_of c) (keys_of bytes) = rw (keys_of_carried image ms) writes in
    ap (put (put image bytes)) (carried_put image bytes ms reads)
    ∙ put_put image bytes c
    ∙ ap (λ l. put image (c ++ l)) (sym (append-nil bytes))
    ∙ put_exchange image c bytes [] keys
    ∙ ap (λ l. put image (bytes ++ l)) (append-nil c)
    ∙ sym (put_put image c bytes)

-- more moves are made by putting what they carry, where no move before them in the list writes the same places
pub after_moves_more : (image : List ℕ) (xs ms ys : List (ℕ × ℕ)) → Apart (keys_of ms) (keys_of xs)
    → after_moves image (xs ++ (ms ++ ys)) ≡ put (after_moves image (xs ++ ys)) (carried image ms)
unfolding after_moves
after_moves_more image xs ms ys h =
    let x = carried image xs in
    let m = carried image ms in
    let y = carried image ys in
    let keys : Apart (keys_of m) (keys_of x) = rw (keys_of_carried image ms, keys_of_carried image xs) h in
    ap (put image) (carried_append image xs (ms ++ ys) ∙ ap (λ l. x ++ l) (carried_append image ms ys))
    ∙ sym (put_exchange image m x y keys)
    ∙ ap (λ l. put image (m ++ l)) (sym (carried_append image xs ys))
    ∙ sym (put_put image (carried image (xs ++ ys)) m)

-- a transfer that ends: its moves go from above the image into it
pub after_moves_end : (image : List ℕ) (xs ms ys : List (ℕ × ℕ)) → Apart (keys_of ms) (keys_of (xs ++ ys)) → Apart (values_of (xs ++ ys)) (keys_of ms)
    → Apart (keys_of ms) (keys_of xs) → after_moves (after_moves image ms) (xs ++ ys) ≡ after_moves image (xs ++ (ms ++ ys))
unfolding after_moves
after_moves_end image xs ms ys writes reads before =
    let m = carried image ms in
    let reads' : Apart (values_of (xs ++ ys)) (keys_of m) = rw (keys_of_carried image ms) reads in
    let writes' : Apart (keys_of (xs ++ ys)) (keys_of m) = rw (keys_of_carried image ms) (Apart_sym (keys_of ms) (keys_of (xs ++ ys)) writes) in
    after_moves_put image m (xs ++ ys) reads' writes' ∙ sym (after_moves_more image xs ms ys before)

-- an address that no move writes shows the image
pub get_or_after_moves_other : (image : List ℕ) (ms : List (ℕ × ℕ)) (a : ℕ) → ¬ Contains (keys_of ms) a → get_or (after_moves image ms) a 0 ≡ get_or image a 0
unfolding after_moves
get_or_after_moves_other image ms a h = get_or_put_other image (carried image ms) a (rw (keys_of_carried image ms) h)

pub length_after_moves : (image : List ℕ) (ms : List (ℕ × ℕ)) → length (after_moves image ms) ≡ length image
unfolding after_moves
length_after_moves image ms = length_put image (carried image ms)

-- so the bytes from an address on are the image's, where no move writes them
pub bytes_after_moves : (image : List ℕ) (ms : List (ℕ × ℕ)) (addr n : ℕ) → Apart (range_with_len addr n) (keys_of ms)
    → take n (drop addr (after_moves image ms)) ≡ take n (drop addr image)
bytes_after_moves image ms addr n h =
    ext_get_or 0 _ _ (simp (length-take, length-drop, length_after_moves)) (λ k l.
    let m : k < n = omega (arith, length-take n (drop addr (after_moves image ms))) in
    get_or-take n (drop addr (after_moves image ms)) k 0 m ∙ get_or-drop addr (after_moves image ms) k 0
    ∙ get_or_after_moves_other image ms (addr + k) (h (addr + k) (in_range addr n (addr + k) (omega arith) (omega arith)))
    ∙ sym (get_or-take n (drop addr image) k 0 m ∙ get_or-drop addr image k 0))
