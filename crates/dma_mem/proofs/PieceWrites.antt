-- What bytes written to one piece make of the image.
use Rattle.std.proofs.Common.{◌≡◌, ℕ, ◌+◌, ◌-◌, ◌<◌, ◌≤◌, List, [], ◌∷◌, ◌++◌, length, get_or, take, drop, set, replicate, true, false, ◌&&◌, refl, ap, sym}
use Rattle.std.proofs.Common.{◌∙◌, arith, inl, inr, zero, suc, append_assoc}
use Rattle.std.specs.Prelude.{nat_le, ◌==◌, if◌then◌else◌}
use Rattle.std.proofs.lemmas.List.{length-append, length-replicate, length-map, take-append-le, drop-append-le, map-set, set-get_or, length-drop}
use Rattle.std.proofs.lemmas.List.{length-take-le, get_or-take, get_or-drop, nil_from_length}
use Rattle.std.proofs.{Math.Seq.take-append-add, Math.Seq.drop-append-add, Math.Seq.map-set_same, lemmas.Bool.cases_lt}
use Rattle.dma_mem.specs.Regions.{Piece, end_of, pieces_of, rises_from, in_order, bytes_above, image_of, gaps_above, has}
use Rattle.dma_mem.specs.inner.Rewritten.{nowhere, piece_at, Holds, Writable, Rewritten, rest_from}
use Rattle.dma_mem.specs.{declared.regions.Region.Region, declared.segment.Segment.Segment, Image.put, Image.bytes_at}
use Rattle.dma_mem.proofs.Pieces.{first, no_region, piece_at_of, found, length_bytes_above, image_of_most, has_parts, rest_is, zero_shown}
use Rattle.dma_mem.proofs.{ImagePut.length_put, BytesPut.put_bytes_at, BytesPut.put_parts, PageImages.put_none}

-- the piece at an index with other bytes
abbrev pub with_bytes : List Piece → ℕ → List ℕ → Piece
with_bytes ps i bs = record { addr = (piece_at ps i).addr; bytes = bs }

-- what the image has before and after a piece, whatever its bytes
pub record Context (at : ℕ) (ps : List Piece) (i : ℕ) : Type 0 where
  pub left : List ℕ
  pub right : List ℕ
  pub long : at + length left ≡ (piece_at ps i).addr
  pub is : (bs : List ℕ) → length bs ≡ length (piece_at ps i).bytes → bytes_above at (set ps i (with_bytes ps i bs)) ≡ left ++ (bs ++ right)

pub context : (at : ℕ) (ps : List Piece) (i : ℕ) → rises_from at ps ≡ true → i < length ps → Context at ps i
context at [] i h l = absurd (omega arith)
context at (p ∷ ps) zero h l =
    let f = first at p ps h in
    let after = f.after in
    let pad : List ℕ = replicate (p.addr - at) 0 in
    let before : length pad ≡ p.addr - at = length-replicate (p.addr - at) 0 in
    record {
      left = pad;
      right = bytes_above (end_of p) ps;
      long = omega (arith, before);
      is = λ bs e. ap (λ (n : ℕ). replicate (p.addr - at) 0 ++ (bs ++ bytes_above (p.addr + n) ps)) e;
    }
context at (p ∷ ps) (suc i) h l =
    let f = first at p ps h in
    let after = f.after in
    let c = context (end_of p) ps i f.rest (omega arith) in
    let long = c.long in
    let pad : List ℕ = replicate (p.addr - at) 0 in
    let before : length pad ≡ p.addr - at = length-replicate (p.addr - at) 0 in
    record {
      left = pad ++ (p.bytes ++ c.left);
      right = c.right;
      long = omega (arith, length-append pad (p.bytes ++ c.left), length-append p.bytes c.left, before);
      is = λ bs e. ap (λ (xs : List ℕ). pad ++ (p.bytes ++ xs)) (c.is bs e) ∙ sym (simp append_assoc);
    }

-- the order and the gaps are those of the addresses and lengths
pub same_order : (at : ℕ) (ps : List Piece) (i : ℕ) (bs : List ℕ) → i < length ps → length bs ≡ length (piece_at ps i).bytes
    → rises_from at (set ps i (with_bytes ps i bs)) ≡ rises_from at ps
same_order at [] i bs l e = absurd (omega arith)
same_order at (p ∷ ps) zero bs l e = ap (λ (n : ℕ). nat_le at p.addr && (nat_le (p.addr + n) 4294967296 && rises_from (p.addr + n) ps)) e
same_order at (p ∷ ps) (suc i) bs l e =
    let next = same_order (end_of p) ps i bs (omega arith) e in
    rw next refl

pub same_gaps : (at : ℕ) (ps : List Piece) (i : ℕ) (bs : List ℕ) → i < length ps → length bs ≡ length (piece_at ps i).bytes
    → gaps_above at (set ps i (with_bytes ps i bs)) ≡ gaps_above at ps
same_gaps at [] i bs l e = absurd (omega arith)
same_gaps at (p ∷ ps) zero bs l e = ap (λ (n : ℕ). record { addr = at; len = p.addr - at } ∷ gaps_above (p.addr + n) ps) e
same_gaps at (p ∷ ps) (suc i) bs l e = ap (λ gaps. record { addr = at; len = p.addr - at } ∷ gaps) (same_gaps (end_of p) ps i bs (omega arith) e)

-- bytes put into the middle of an image
pub put_middle : (left old right : List ℕ) (start : ℕ) (bs : List ℕ) → start + length bs ≤ length old
    → left ++ (put old (bytes_at start bs) ++ right) ≡ put (left ++ (old ++ right)) (bytes_at (length left + start) bs)
put_middle left old right start bs h =
    grind (arith, length-append, take-append-add, take-append-le, drop-append-add, drop-append-le, put_bytes_at, append_assoc)

-- the image around a piece
around : (ps : List Piece) (i : ℕ) (h : in_order ps ≡ true) (l : i < length ps)
    → image_of ps ≡ (context 0 ps i h l).left ++ ((piece_at ps i).bytes ++ (context 0 ps i h l).right)
around ps i h l = sym (ap image_of (set-get_or ps i nowhere)) ∙ (context 0 ps i h l).is (piece_at ps i).bytes refl

-- each piece ends below the size
pub ends_within : (ps : List Piece) (i : ℕ) → in_order ps ≡ true → i < length ps → end_of (piece_at ps i) ≤ length (image_of ps)
ends_within ps i h l =
    let c = context 0 ps i h l in
    let long = c.long in
    let p = piece_at ps i in
    omega (arith, ap length (around ps i h l), length-append c.left (p.bytes ++ c.right), length-append p.bytes c.right)

-- bytes put into a piece are put into the image
pub put_piece : (ps : List Piece) (i start : ℕ) (bs : List ℕ) → in_order ps ≡ true → i < length ps → start + length bs ≤ length (piece_at ps i).bytes
    → image_of (set ps i (with_bytes ps i (put (piece_at ps i).bytes (bytes_at start bs)))) ≡ put (image_of ps) (bytes_at ((piece_at ps i).addr + start) bs)
put_piece ps i start bs h l fits =
    let c = context 0 ps i h l in
    let old = (piece_at ps i).bytes in
    let first_of : length c.left ≡ (piece_at ps i).addr = omega (arith, c.long) in
    c.is (put old (bytes_at start bs)) (length_put old (bytes_at start bs))
    ∙ put_middle c.left old c.right start bs fits
    ∙ ap (λ (image : List ℕ). put image (bytes_at (length c.left + start) bs)) (sym (around ps i h l))
    ∙ ap (λ (n : ℕ). put (image_of ps) (bytes_at (n + start) bs)) first_of

-- what a piece has, the image has
pub piece_shown : (ps : List Piece) (i a n : ℕ) → in_order ps ≡ true → i < length ps → Holds ps i a n
    → take n (drop (a - (piece_at ps i).addr) (piece_at ps i).bytes) ≡ take n (drop a (image_of ps))
piece_shown ps i a n h l holds =
    let c = context 0 ps i h l in
    let p = piece_at ps i in
    let k = a - p.addr in
    let long = c.long in
    let place : a ≡ length c.left + k = omega (arith, holds.first) in
    let some : n ≤ length (drop k p.bytes) = omega (arith, holds.first, holds.last, length-drop k p.bytes) in
    sym (ap (λ (xs : List ℕ). take n (drop a xs)) (around ps i h l)
    ∙ ap (λ (m : ℕ). take n (drop m (c.left ++ (p.bytes ++ c.right)))) place
    ∙ ap (take n) (drop-append-add c.left (p.bytes ++ c.right) k ∙ drop-append-le k p.bytes c.right (omega (arith, holds.first, holds.last)))
    ∙ take-append-le n (drop k p.bytes) c.right some)

-- what a piece has from an address on, the image has
pub rest_shown : (ps : List Piece) (a n : ℕ) → in_order ps ≡ true → n ≤ length (rest_from ps a) → take n (rest_from ps a) ≡ take n (drop a (image_of ps))
rest_shown ps a n h some = grind (arith, rest_is, has_parts, length-drop, piece_shown)

-- the byte at an address
pub byte_shown : (ps : List Piece) (a : ℕ) → in_order ps ≡ true → get_or (image_of ps) a 0 ≡ get_or (rest_from ps a) 0 0
byte_shown ps a h = elim (cases_lt 0 (length (rest_from ps a))) [
  | inl some ↦
      let e : a + 0 ≡ a = omega arith in
      ap (λ (k : ℕ). get_or (image_of ps) k 0) (sym e)
      ∙ sym (get_or-take 1 (drop a (image_of ps)) 0 0 (omega arith) ∙ get_or-drop a (image_of ps) 0 0)
      ∙ ap (λ (xs : List ℕ). get_or xs 0 0) (sym (rest_shown ps a 1 h (omega arith)))
      ∙ get_or-take 1 (rest_from ps a) 0 0 (omega arith)
  | inr none ↦
      let empty = nil_from_length (rest_from ps a) (omega arith) in
      zero_shown 0 ps a a h (omega arith) empty ∙ sym (ap (λ (xs : List ℕ). get_or xs 0 0) empty)
]

-- ---- regions

-- the segment of a region that is read-only, or an empty one
abbrev read_only_segment : Region → Segment
read_only_segment r = record { addr = r.addr; len = if r.read_only == 0 then 0 else length r.bytes.now }

same_segment : (a b : Region) → a.addr ≡ b.addr → a.read_only ≡ b.read_only → length a.bytes.now ≡ length b.bytes.now
    → read_only_segment a ≡ read_only_segment b
same_segment a b addr access long = grind arith

-- a write to one region is a write to the memory
pub rewritten_at : (rs : List Region) (i addr : ℕ) (new : Region) (bs : List ℕ) → in_order (pieces_of rs) ≡ true → i < length rs
    → Holds (pieces_of rs) i addr (length bs) → let r = get_or rs i no_region in
    new.addr ≡ r.addr → new.bytes.ghost_name ≡ r.bytes.ghost_name → new.read_only ≡ r.read_only
    → new.bytes.now ≡ put r.bytes.now (bytes_at (addr - r.addr) bs) → Rewritten rs (set rs i new) addr bs
rewritten_at rs i addr new bs order l holds same name access is =
    grind (arith, piece_at_of, length-map, length_put, map-set, put_piece, same_order, same_gaps, map-set_same, same_segment)

-- what a region has, the image has
pub region_shown : (rs : List Region) (i a n : ℕ) → in_order (pieces_of rs) ≡ true → i < length rs → Holds (pieces_of rs) i a n
    → take n (drop (a - (get_or rs i no_region).addr) (get_or rs i no_region).bytes.now) ≡ take n (drop a (image_of (pieces_of rs)))
region_shown rs i a n order l holds = grind (arith, piece_at_of, piece_shown, length-map)

-- nothing was written yet
pub rewritten_none : (rs : List Region) (addr : ℕ) → Rewritten rs rs addr []
rewritten_none rs addr = record { image = sym (put_none (image_of (pieces_of rs))); order = refl; gaps = refl; names = refl; read_only = refl }

-- a write, and one behind it
pub rewritten_more : (old mid new : List Region) (addr next : ℕ) (front back : List ℕ) → Rewritten old mid addr front → Rewritten mid new next back
    → next ≡ addr + length front → Rewritten old new addr (front ++ back)
rewritten_more old mid new addr next front back f g e = grind (arith, put_parts)

-- ---- what may be written

-- a part of a range that may be written
pub writable_part : (rs : List Region) (addr len a n : ℕ) → Writable rs addr len → addr ≤ a → a + n ≤ addr + len → Writable rs a n
writable_part rs addr len a n w low high = grind arith

-- after a write as before it
pub writable_after : (old new : List Region) (addr len place : ℕ) (bs : List ℕ) → Writable old addr len → Rewritten old new place bs → Writable new addr len
writable_after old new addr len place bs w r = grind (arith, length_put)

-- the region that has an address that may be written is one of them
pub place_found : (rs : List Region) (addr len i : ℕ) → Writable rs addr len → 0 < len → i ≤ length rs
    → ((k : ℕ) → k < i → has addr (piece_at (pieces_of rs) k) ≡ false) → i < length rs
place_found rs addr len i w some within none = grind (arith, cases_lt, found, length_bytes_above, length-map)

-- addresses that may be written fit 32 bits
pub writable_most : (rs : List Region) (addr len : ℕ) → Writable rs addr len → addr + len ≤ 4294967296
writable_most rs addr len w = let inside = w.within in omega (arith, image_of_most (pieces_of rs) w.order)

pub rewritten_length : (old new : List Region) (addr : ℕ) (bs : List ℕ) → Rewritten old new addr bs
    → length (image_of (pieces_of new)) ≡ length (image_of (pieces_of old))
rewritten_length old new addr bs r = ap length r.image ∙ length_put (image_of (pieces_of old)) (bytes_at addr bs)

-- the image has as many bytes there
pub ends_in : (rs : List Region) (i a n : ℕ) → in_order (pieces_of rs) ≡ true → i < length rs → Holds (pieces_of rs) i a n
    → length (take n (drop a (image_of (pieces_of rs)))) ≡ n
ends_in rs i a n order l holds = grind (arith, ends_within, length-map, length-take-le, length-drop)
