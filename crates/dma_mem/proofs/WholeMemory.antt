-- A memory in which each page is made: each address below its size is ready.
use Rattle.std.proofs.Common.{◌≡◌, ℕ, ◌+◌, ◌/◌, ◌<◌, ◌≤◌, List, length, get_or, true, false, refl, arith}
use Rattle.std.specs.{List.range_with_len, List.list_all, Prelude.nat_le}
use Rattle.std.proofs.{lemmas.Bool.lt-ltb, lemmas.Bool.cases_lt, lemmas.Bool.le-leb, lemmas.List.get_or-replicate}
use Rattle.dma_mem.specs.Pages.{AllMade, has_page, is_made, whole, all_made}
use Rattle.dma_mem.proofs.{SharedPlaces.range_in, PageImages.segment_made, PageImages.not_made_tested}

page_of : (size a : ℕ) → a < size → get_or (all_made size) (a / 4096) false ≡ true
unfolding all_made
page_of size a h = get_or-replicate ((size + 4095) / 4096) (a / 4096) true false (omega arith)

-- an address below the size is ready
pub whole_made : (image : List ℕ) (a : ℕ) → a < length image → is_made (whole image) a ≡ true
whole_made image a h = rw (lt-ltb a (length image) h, page_of (length image) a h) refl

-- so is a range that ends below it
pub whole_all : (image : List ℕ) (addr len : ℕ) → addr + len ≤ length image → AllMade (whole image) (range_with_len addr len)
whole_all image addr len h = λ a i.
    let within = range_in addr len a i in
    whole_made image a (omega arith)

-- whether a segment that has bytes is ready, tested by its end
pub whole_tested : (image : List ℕ) (addr len : ℕ) → 0 < len → nat_le (addr + len) (length image) ≡ list_all (is_made (whole image)) (range_with_len addr len)
whole_tested image addr len some = grind (arith, cases_lt, not_made_tested, le-leb, segment_made, whole_made)

-- its page is made
pub whole_page : (image : List ℕ) (a : ℕ) → a < length image → has_page (whole image) (a / 4096) ≡ true
whole_page image a h = page_of (length image) a h
