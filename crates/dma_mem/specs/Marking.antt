-- Marks, at which bursts fail.
use Rattle.std.specs.Prelude.{◌≡◌, ℕ, ◌+◌, ◌≤◌, ◌<◌, Bool, true, false, ◌&&◌, nat_lt, nat_le, List}
use Rattle.std.specs.List.{list_any}
use Rattle.dma_mem.specs.declared.marks.MarkKind.TheVariants.{Reading, Writing}
use Rattle.dma_mem.specs.{declared.segment.Segment.Segment, declared.marks.MarkKind.MarkKind}

-- The ranges at which bursts fail, each for loads or for stores (profile).
abbrev pub MarkList : Type 0
MarkList = List (MarkKind × Segment)

-- whether two kinds are the same
abbrev pub same_kind : MarkKind → MarkKind → Bool
same_kind Reading Reading = true
same_kind Writing Writing = true
same_kind kind other = false

-- whether an address lies in a segment
abbrev pub lies_in : ℕ → Segment → Bool
lies_in a s = nat_le s.addr a && nat_lt a (s.addr + s.len)

-- Whether an address lies in a mark of the kind.
abbrev pub is_marked : MarkKind → MarkList → ℕ → Bool
is_marked kind marks a = list_any (λ m. same_kind kind m.0 && lies_in a m.1) marks

-- None of the `len` addresses from `addr` on lies in a mark of the kind.
abbrev pub NoneMarked : MarkKind → MarkList → ℕ → ℕ → Type 0
NoneMarked kind marks addr len = (a : ℕ) → addr ≤ a → a < addr + len → is_marked kind marks a ≡ false

-- Whether one of these addresses lies in a mark of the kind.
unfoldable pub meets_mark : MarkKind → MarkList → List ℕ → Bool
meets_mark kind marks places = list_any (λ a. is_marked kind marks a) places
