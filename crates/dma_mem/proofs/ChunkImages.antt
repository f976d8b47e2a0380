-- The images that chunks show.
use Rattle.std.proofs.Common.{◌≡◌, ◌≢◌, ℕ, ◌+◌, ◌-◌, ◌*◌, ◌/◌, ◌%◌, ◌<◌, ◌≤◌, List, [], ◌++◌, length, get_or, take, drop, replicate, ap, sym, ◌∙◌, arith}
use Rattle.std.proofs.Common.{inl, inr, ◌⊎◌}
use Rattle.std.specs.{Prelude.unwrap_or, Prelude.nat_eq, Map.lookup}
use Rattle.std.proofs.lemmas.List.{length-replicate, get_or-replicate, ext_get_or, get_or-take, get_or-drop, get_or_append_left, get_or-append_right}
use Rattle.std.proofs.lemmas.List.{length-append, length-take, length-drop}
use Rattle.std.proofs.{lemmas.Bool.cases_lt, lemmas.Bool.cases_eq, lemmas.List.FromFn.length-map-range_with_len, lemmas.List.FromFn.get_or-map-range_with_len}
use Rattle.std.proofs.{Math.Seq.take-add}
use Rattle.dma_mem.specs.Image.{put, bytes_at}
use Rattle.dma_mem.specs.inner.ChunkTable.{AreBytesFrom, SameBytes, chunk_at, image_of}
use Rattle.dma_mem.proofs.BytesPut.{lookup_bytes_before, lookup_bytes_past, lookup_bytes_at, put_parts}
use Rattle.dma_mem.proofs.{ImagePut.length_put, ImagePut.get_or_put, BlockCopies.byte_outside}

-- ---- the image

pub length_image_of : (size : ℕ) (chunks : List (List ℕ)) → length (image_of size chunks) ≡ size
unfolding image_of
length_image_of size chunks = length-map-range_with_len _ 0 size

pub get_or_image_of : (size : ℕ) (chunks : List (List ℕ)) (a : ℕ) → a < size
    → get_or (image_of size chunks) a 0 ≡ get_or (chunk_at chunks (a / 16384)) (a % 16384) 0
unfolding image_of
get_or_image_of size chunks a h = get_or-map-range_with_len _ 0 size a a 0 h (omega arith)

-- chunks with the same bytes show the same
pub image_of_same : (size : ℕ) (chunks others : List (List ℕ)) → ((p k : ℕ) → get_or (chunk_at chunks p) k 0 ≡ get_or (chunk_at others p) k 0)
    → image_of size chunks ≡ image_of size others
image_of_same size chunks others h =
    ext_get_or 0 _ _ (length_image_of size chunks ∙ sym (length_image_of size others)) (λ a l.
    let m : a < size = omega (arith, length_image_of size chunks) in
    get_or_image_of size chunks a m ∙ h (a / 16384) (a % 16384) ∙ sym (get_or_image_of size others a m))

pub image_of_none : (size : ℕ) (chunks : List (List ℕ)) → ((p : ℕ) → chunk_at chunks p ≡ []) → image_of size chunks ≡ replicate size 0
image_of_none size chunks h =
    ext_get_or 0 _ _ (length_image_of size chunks ∙ sym (length-replicate size 0)) (λ a l.
    let m : a < size = omega (arith, length_image_of size chunks) in
    get_or_image_of size chunks a m ∙ ap (λ p. get_or p (a % 16384) 0) (h (a / 16384)) ∙ sym (get_or-replicate size a 0 0 m))

-- ---- bytes put into a chunk

-- a look-up is the same further up
pub lookup_bytes_moved : (c a x : ℕ) (bs : List ℕ) → lookup (nat_eq (c + x)) (bytes_at (c + a) bs) ≡ lookup (nat_eq x) (bytes_at a bs)
lookup_bytes_moved c a x bs = elim (cases_lt x a) [
  | inl l ↦ lookup_bytes_before (c + a) bs (c + x) (omega arith) ∙ sym (lookup_bytes_before a bs x l)
  | inr l ↦ elim (cases_lt x (a + length bs)) [
    | inl m ↦ lookup_bytes_at (c + a) bs (x - a) (c + x) (omega arith) (omega arith) ∙ sym (lookup_bytes_at a bs (x - a) x (omega arith) (omega arith))
    | inr m ↦ lookup_bytes_past (c + a) bs (c + x) (omega arith) ∙ sym (lookup_bytes_past a bs x m)
  ]
]

-- bytes that are put into a chunk are put into the image
pub image_of_put : (size : ℕ) (chunks new : List (List ℕ)) (p offset : ℕ) (bs : List ℕ) → ((q : ℕ) → q ≢ p → chunk_at new q ≡ chunk_at chunks q)
    → chunk_at new p ≡ put (chunk_at chunks p) (bytes_at offset bs) → length (chunk_at chunks p) ≡ 16384 → offset + length bs ≤ 16384
    → image_of size new ≡ put (image_of size chunks) (bytes_at (16384 * p + offset) bs)
image_of_put size chunks new p offset bs others is whole fits =
    let image = image_of size chunks in
    let es = bytes_at (16384 * p + offset) bs in
    ext_get_or 0 _ _ (length_image_of size new ∙ sym (length_put image es ∙ length_image_of size chunks)) (λ a l.
    let m : a < size = omega (arith, length_image_of size new) in
    let within : a < length image = omega (arith, length_image_of size chunks) in
    let k = a % 16384 in
    let shown = get_or_image_of size new a m in
    let wanted = get_or_put image es a within in
    elim (cases_eq (a / 16384) p) [
      | inl e ↦
          let at : 16384 * p + k ≡ a = omega arith in
          let found : lookup (nat_eq k) (bytes_at offset bs) ≡ lookup (nat_eq a) es = sym (lookup_bytes_moved (16384 * p) offset k bs)
          ∙ ap (λ x. lookup (nat_eq x) es) at in
          let before : get_or (chunk_at chunks p) k 0 ≡ get_or image a 0 = ap (λ x. get_or (chunk_at chunks x) k 0) (sym e)
          ∙ sym (get_or_image_of size chunks a m) in
          shown
          ∙ ap (λ n. get_or (chunk_at new n) k 0) e
          ∙ ap (λ c. get_or c k 0) is
          ∙ get_or_put (chunk_at chunks p) (bytes_at offset bs) k (omega (arith, whole))
          ∙ ap (λ o. unwrap_or o (get_or (chunk_at chunks p) k 0)) found
          ∙ ap (unwrap_or (lookup (nat_eq a) es)) before
          ∙ sym wanted
      | inr n ↦
          let out : (a < 16384 * p + offset) ⊎ (16384 * p + offset + length bs ≤ a) =
          elim (cases_lt a (16384 * p)) [ inl low ↦ inl (omega arith) | inr high ↦ inr (omega arith) ] in
          shown
          ∙ ap (λ x. get_or x k 0) (others (a / 16384) n)
          ∙ sym (get_or_image_of size chunks a m)
          ∙ sym (byte_outside image (16384 * p + offset) bs a within out)
    ])

-- one more part of a write
pub put_more : (image now new bs : List ℕ) (a d n m : ℕ) → d + n ≤ length bs → m ≡ n → now ≡ put image (bytes_at a (take d bs))
    → new ≡ put now (bytes_at (a + d) (take m (drop d bs))) → new ≡ put image (bytes_at a (take (d + n) bs))
put_more image now new bs a d n m fits same is makes = grind (arith, length-take, put_parts, take-add)

-- the bytes of the chunks from an address on are those of the image
pub read_found : (size : ℕ) (chunks : List (List ℕ)) (addr n : ℕ) (buf : List ℕ) → length buf ≡ n → addr + n ≤ size
    → ((k : ℕ) → k < length buf → get_or buf k 0 ≡ get_or (chunk_at chunks ((addr + k) / 16384)) ((addr + k) % 16384) 0)
    → buf ≡ take n (drop addr (image_of size chunks))
read_found size chunks addr n buf e h read =
    let image = image_of size chunks in
    let long : length (take n (drop addr image)) ≡ n = omega (arith, length-take n (drop addr image), length-drop addr image, length_image_of size chunks) in
    ext_get_or 0 buf (take n (drop addr image)) (e ∙ sym long) (λ k l.
    read k l ∙ sym (get_or_image_of size chunks (addr + k) (omega arith))
    ∙ sym (get_or-take n (drop addr image) k 0 (omega arith) ∙ get_or-drop addr image k 0))

-- ---- bytes from an address on

-- the bytes of a list that shows a chunk, up to the chunk's end at most
pub part_from : (chunks : List (List ℕ)) (at n : ℕ) (chunk : List ℕ) → SameBytes (chunk_at chunks (at / 16384)) chunk
    → at % 16384 + n ≤ 16384 → AreBytesFrom chunks at (take n (drop (at % 16384) chunk))
part_from chunks at n chunk shows fits k below = grind (arith, length-take, get_or-take, get_or-drop)

-- bytes that go on
pub bytes_more : (chunks : List (List ℕ)) (start at : ℕ) (front more : List ℕ) → AreBytesFrom chunks start front → at ≡ start + length front
    → AreBytesFrom chunks at more → AreBytesFrom chunks start (front ++ more)
bytes_more chunks start at front more begun is next k below = grind (arith, cases_lt, get_or_append_left, get_or-append_right, length-append)
