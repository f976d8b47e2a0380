-- What contracts see of a memory: the image of its chunks, and a flag for each page.
use Rattle.std.proofs.Common.{◌≡◌, ℕ, ◌+◌, ◌*◌, ◌/◌, ◌%◌, ◌<◌, ◌≤◌, ◌⊎◌, List, [], length, get_or, take, drop, max, Bool, true, false, nat_lt, refl, ap, sym}
use Rattle.std.proofs.Common.{◌∙◌, arith, inl, inr}
use Rattle.std.specs.{Prelude.nat_le, List.range_with_len, List.list_all}
use Rattle.std.proofs.lemmas.Bool.{cases_lt, lt-ltb, ltb-true, and_parts, leb-true, false_from_ne_true}
use Rattle.std.proofs.lemmas.List.{ext_get_or, get_or_past}
use Rattle.std.proofs.{lemmas.List.Folds.list_all_at, lemmas.List.Elements.Contains-get_or, lemmas.List.Sums.list_all-from_AllPass}
use Rattle.dma_mem.specs.Pages.{Paged, Keeps, AllMade, MakesNoOther, has_page, is_made}
use Rattle.dma_mem.specs.{Image.put, inner.ChunkTable.chunk_at, inner.ChunkTable.image_of, inner.ChunkTable.paged, inner.ChunkTable.HasChunks}
use Rattle.dma_mem.proofs.ChunkImages.{length_image_of, image_of_same, read_found}
use Rattle.dma_mem.proofs.{SharedPlaces.range_in, SharedPlaces.in_range, ImagePut.length_put, ImagePut.get_or_put}

pub put_none : (image : List ℕ) → put image [] ≡ image
put_none image = ext_get_or 0 _ _ (length_put image []) (λ a l. get_or_put image [] a (omega (arith, length_put image [])))

-- ---- addresses that are made

-- an address below the size, on a page that is made
pub is_made_from : (m : Paged) (a : ℕ) → a < length m.image → has_page m (a / 4096) ≡ true → is_made m a ≡ true
is_made_from m a h flag = rw (lt-ltb a (length m.image) h, flag) refl

pub is_made_parts : (m : Paged) (a : ℕ) → is_made m a ≡ true → (a < length m.image) × (has_page m (a / 4096) ≡ true)
is_made_parts m a h = grind (arith, and_parts, nat_lt, ltb-true)

-- an address above the size isn't made
pub is_made_past : (m : Paged) (a : ℕ) → length m.image ≤ a → is_made m a ≡ false
is_made_past m a h = false_from_ne_true _ (λ e. omega (arith, h, (is_made_parts m a e).0))

-- nor is one on a page that isn't
pub is_made_missing : (m : Paged) (a : ℕ) → has_page m (a / 4096) ≡ false → is_made m a ≡ false
is_made_missing m a h = false_from_ne_true _ (λ e. let yes = (is_made_parts m a e).1 in cc)

-- ---- whether all of a segment is made

pub segment_made : (m : Paged) (addr len : ℕ) → ((a : ℕ) → addr ≤ a → a < addr + len → is_made m a ≡ true)
    → list_all (is_made m) (range_with_len addr len) ≡ true
segment_made m addr len h = list_all-from_AllPass (is_made m) (range_with_len addr len) (λ k d l.
    let here = range_in addr len _ (Contains-get_or (range_with_len addr len) k d l) in
    h _ here.0 here.1)

pub segment_not_made : (m : Paged) (addr len a : ℕ) → addr ≤ a → a < addr + len → is_made m a ≡ false → list_all (is_made m) (range_with_len addr len) ≡ false
segment_not_made m addr len a low high h =
    let i = in_range addr len a low high in
    list_all_at (is_made m) (range_with_len addr len) i.0 a i.1 (ap (is_made m) i.2 ∙ h)

-- the test of a segment by the flags of its pages, which end with page `end`
pub made_tested : (flags : List Bool) (m : Paged) (addr len end : ℕ) (r : Bool) → flags ≡ m.made → addr + len ≤ length m.image
    → end ≡ (addr + len + 4095) / 4096 → 0 < len → (r ≡ true → (p : ℕ) → addr / 4096 ≤ p → p < end → get_or flags p false ≡ true)
    → (r ≡ false → (p : ℕ) × (addr / 4096 ≤ p) × (p < end) × (get_or flags p false ≡ false)) → r ≡ list_all (is_made m) (range_with_len addr len)
made_tested flags m addr len end true seen within last some all one = grind (arith, segment_made, is_made_from)
made_tested flags m addr len end false seen within last some all one =
    let w = one refl in
    let a : ℕ = max addr (4096 * w.0) in
    let low : addr / 4096 ≤ w.0 = w.1 in
    let high : w.0 < end = w.2 in
    let on : a / 4096 ≡ w.0 = omega arith in
    let none : has_page m (a / 4096) ≡ false = ap (has_page m) on ∙ ap (λ (xs : List Bool). get_or xs w.0 false) (sym seen) ∙ w.3 in
    sym (segment_not_made m addr len a (omega arith) (omega arith) (is_made_missing m a none))

-- of a segment that has bytes and ends above the size
pub not_made_tested : (m : Paged) (addr len size : ℕ) → length m.image ≡ size → 0 < len → size < addr + len
    → nat_le (addr + len) size ≡ list_all (is_made m) (range_with_len addr len)
not_made_tested m addr len size long some h =
    let a : ℕ = max addr size in
    false_from_ne_true _ (λ e. omega (arith, leb-true (addr + len) size e))
    ∙ sym (segment_not_made m addr len a (omega arith) (omega arith) (is_made_past m a (omega arith)))

-- ---- pages and their chunks

-- the chunk of an address on a page that is made
pub chunk_of_flag : (flags : List Bool) (chunks : List (List ℕ)) (a : ℕ) → HasChunks flags chunks → get_or flags (a / 4096) false ≡ true
    → 0 < length (chunk_at chunks (a / 16384))
chunk_of_flag flags chunks a has flag = grind arith

-- chunks that stay made serve the same pages
pub HasChunks_kept : (flags : List Bool) (old new : List (List ℕ)) → HasChunks flags old → ((p : ℕ) → 0 < length (chunk_at old p) → 0 < length (chunk_at new p))
    → HasChunks flags new
HasChunks_kept flags old new has kept = λ p flag. kept (4096 * p / 16384) (has p flag)

-- the pages from `first` on to `end` were made, and no other
pub record Flagged (old new : List Bool) (first end : ℕ) : Type 0 where
  pub inside : (p : ℕ) → first ≤ p → p < end → get_or new p false ≡ true
  pub outside : (p : ℕ) → (p < first) ⊎ (end ≤ p) → get_or new p false ≡ get_or old p false

-- a page is one of them or is not
cases_within : (p first end : ℕ) → ((first ≤ p) × (p < end)) ⊎ ((p < first) ⊎ (end ≤ p))
cases_within p first end = grind (arith, cases_lt)

pub Keeps_same : (old new : Paged) → length new.image ≡ length old.image → ((p : ℕ) → has_page new p ≡ has_page old p) → Keeps old new
Keeps_same old new size same = record { size = size; made = λ p flag. same p ∙ flag }

pub Keeps_flagged : (old new : Paged) (first end : ℕ) → length new.image ≡ length old.image → Flagged old.made new.made first end → Keeps old new
Keeps_flagged old new first end size f = grind (arith, cases_within)

-- flags that are set for the pages of a range
pub AllMade_flagged : (old : List Bool) (new : Paged) (addr len end : ℕ) → addr + len ≤ length new.image → addr + len ≤ 4096 * end
    → Flagged old new.made (addr / 4096) end → AllMade new (range_with_len addr len)
AllMade_flagged old new addr len end within last f = λ a i.
    let here = range_in addr len a i in
    is_made_from new a (omega arith) (f.inside (a / 4096) (omega arith) (omega arith))

pub MakesNoOther_flagged : (old new : Paged) (addr len end : ℕ) → 0 < len → 4096 * end < addr + len + 4096 → Flagged old.made new.made (addr / 4096) end
    → MakesNoOther old new (range_with_len addr len)
MakesNoOther_flagged old new addr len end some first f = λ p off. elim (cases_within p (addr / 4096) end) [
  | inl within ↦
      let a = max addr (4096 * p) in
      let low : addr / 4096 ≤ p = within.0 in
      let high : p < end = within.1 in
      let on : a / 4096 ≡ p = omega arith in
      absurd (off a (in_range addr len a (omega arith) (omega arith)) on)
  | inr out ↦ f.outside p out
]

-- ---- by what contracts see of chunks

-- their size is the image's
pub size_seen : (size : ℕ) (chunks : List (List ℕ)) (flags : List Bool) (m : Paged) → paged size chunks flags ≡ m → length m.image ≡ size
size_seen size chunks flags m is = ap (λ (p : Paged). length p.image) (sym is) ∙ length_image_of size chunks

-- bytes that were read chunk after chunk are the image's
pub read_seen : (size : ℕ) (chunks : List (List ℕ)) (flags : List Bool) (m : Paged) → paged size chunks flags ≡ m → (addr n : ℕ) (buf : List ℕ) → length buf ≡ n
    → addr + n ≤ length m.image → ((k : ℕ) → k < length buf → get_or buf k 0 ≡ get_or (chunk_at chunks ((addr + k) / 16384)) ((addr + k) % 16384) 0)
    → buf ≡ take n (drop addr m.image)
read_seen size chunks flags m is addr n buf long within bytes =
    read_found size chunks addr n buf long (omega (arith, within, size_seen size chunks flags m is)) bytes ∙ ap (λ (p : Paged). take n (drop addr p.image)) is

-- changed chunks of the same size, beside what was seen of them before
pub image_seen : (size : ℕ) (old new : List (List ℕ)) (flags : List Bool) (m : Paged) → paged size old flags ≡ m
    → ((p k : ℕ) → get_or (chunk_at new p) k 0 ≡ get_or (chunk_at old p) k 0) → image_of size new ≡ m.image
image_seen size old new flags m is same = image_of_same size new old same ∙ ap (λ (m : Paged). m.image) is

-- where the pages of a range are made, so are its chunks
pub chunks_seen : (size : ℕ) (chunks : List (List ℕ)) (flags : List Bool) (m : Paged) (addr len : ℕ) → paged size chunks flags ≡ m → HasChunks flags chunks
    → AllMade m (range_with_len addr len) → (a : ℕ) → addr ≤ a → a < addr + len → 0 < length (chunk_at chunks (a / 16384))
chunks_seen size chunks flags m addr len view has all a low high =
    let flag : get_or flags (a / 4096) false ≡ true = ap (λ (m : Paged). get_or m.made (a / 4096) false) view
    ∙ (is_made_parts m a (all a (in_range addr len a low high))).1 in
    chunk_of_flag flags chunks a has flag

-- a range of which an address is in no chunk isn't made
pub short_of_chunk : (m : Paged) (chunks : List (List ℕ)) (addr len : ℕ) → HasChunks m.made chunks → (a : ℕ) × (addr ≤ a) × (a < addr + len)
    × (length (chunk_at chunks (a / 16384)) ≡ 0) → ¬ AllMade m (range_with_len addr len)
short_of_chunk m chunks addr len has w = λ all.
    omega (arith, w.3, chunk_of_flag m.made chunks w.0 has (is_made_parts m w.0 (all w.0 (in_range addr len w.0 w.1 w.2))).1)

-- nor is one whose last page has no flag
pub short_of_flag : (m : Paged) (addr len end : ℕ) → 0 < len → 4096 * end < addr + len + 4096 → length m.made < end → ¬ AllMade m (range_with_len addr len)
short_of_flag m addr len end some first none = λ all.
    let a : ℕ = max addr (4096 * (length m.made)) in
    let here = (is_made_parts m a (all a (in_range addr len a (omega arith) (omega arith)))).1 in
    let past = get_or_past m.made (a / 4096) false (omega arith) in
    cc
