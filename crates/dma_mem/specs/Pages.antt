-- Memory by pages of 4,096 bytes, each made on first write (profile).
use Rattle.std.specs.Prelude.{◌≡◌, ◌≢◌, ℕ, ◌+◌, ◌/◌, Bool, true, false, ◌&&◌, nat_lt, List, length, replicate, slice_index_or, IsTrue, if◌then◌else◌}
use Rattle.std.specs.List.{Contains}
use Rattle.dma_mem.specs.declared.memory.MemFault.{MemFault}
use Rattle.dma_mem.specs.declared.memory.MemFault.TheVariants.{OutOfMemoryRange, NoMemory}

-- how many bytes a page has
abbrev pub page_size : ℕ
page_size = 4096

-- What contracts see of a memory: a byte for each address below its size, and for each page, by its number, whether it
-- is made.
pub record Paged : Type 0 where
  pub image : List ℕ
  pub made : List Bool

-- whether the page of a number is made
abbrev pub has_page : Paged → ℕ → Bool
has_page m p = slice_index_or m.made p false

-- Whether an address lies below the size and on a page that is made.
abbrev pub is_made : Paged → ℕ → Bool
is_made m a = nat_lt a (length m.image) && has_page m (a / page_size)

-- Each of these addresses lies below the size and on a page that is made.
abbrev pub AllMade : Paged → List ℕ → Type 0
AllMade m addresses = (a : ℕ) → Contains addresses a → IsTrue (is_made m a)

-- Each page that was made is still made, and the size is the same.
pub record Keeps (old new : Paged) : Type 0 where
  pub size : length new.image ≡ length old.image
  pub made : (p : ℕ) → has_page old p ≡ true → has_page new p ≡ true

-- A page on which none of these addresses lies is made exactly if it was made before.
abbrev pub MakesNoOther : Paged → Paged → List ℕ → Type 0
MakesNoOther old new addresses =
    (p : ℕ) → ((a : ℕ) → Contains addresses a → a / page_size ≢ p) → has_page new p ≡ has_page old p

-- the pages of a memory of `size` bytes in which each page is made
unfoldable pub all_made : ℕ → List Bool
all_made size = replicate ((size + 4095) / page_size) true

-- a memory of these bytes in which each page is made
abbrev pub whole : List ℕ → Paged
whole image = record { image = image; made = all_made (length image) }

-- Why a call that needs all addresses below `end` fails in a memory of this size: the memory ends before `end`, or else
-- memory runs out.
abbrev pub range_fault : ℕ → ℕ → MemFault
range_fault size end = if nat_lt size end then OutOfMemoryRange else NoMemory
