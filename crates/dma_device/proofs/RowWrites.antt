-- What several turns write.
use Rattle.std.proofs.Common.{◌≡◌, ◌∙◌, ℕ, zero, suc, ◌+◌, ◌<◌, ◌≤◌, Bool, true, ◌&&◌, ◌||◌, List, [], ◌∷◌, length, map, add-one, ap, refl, sym, subst, arith}
use Rattle.std.specs.{Prelude.nat_le, Prelude.nat_lt, Prelude.slice_index, List.list_any}
use Rattle.dma_mem.specs.Regions.{Piece, has, image_of, in_order, pieces_of, read_only_of}
use Rattle.dma_mem.specs.{Lent.lies_in_any, declared.regions.Region.Region, declared.segment.Segment.Segment}
use Rattle.dma_chan.specs.{LentRegions.segment_of, Rowwise.row_of, Written.LiesIn}
use Rattle.dma_explain.proofs.InOrder.{in_order_kept}
use Rattle.dma_device.specs.RowTurns.{RowsWriteEach, TakesRowTurns, WritesRows, report_in}
use Rattle.dma_device.specs.{Device.DeviceValue, Turns.TakesTurn, Writes.WritesRange, declared.device.rows.RowTurns.RowTurns, declared.device.turns.Turn.Turn}
use Rattle.dma_device.proofs.Writes.{turn_writes_each, turn_writes_in_regions}

-- ---- regions at the same places have the same addresses

abbrev holds : ℕ → Segment → Bool
holds a s = nat_le s.addr a && nat_lt a (s.addr + s.len)

has_is : (a : ℕ) (rs : List Region) → list_any (has a) (pieces_of rs) ≡ list_any (holds a) (map segment_of rs)
has_is a [] = refl
has_is a (r ∷ rs) = ap (λ (b : Bool). holds a (segment_of r) || b) (has_is a rs)

has_kept : (a : ℕ) (left regions : List Region) → map segment_of left ≡ map segment_of regions
    → list_any (has a) (pieces_of left) ≡ list_any (has a) (pieces_of regions)
has_kept a left regions same = has_is a left ∙ ap (λ (ss : List Segment). list_any (holds a) ss) same ∙ sym (has_is a regions)

-- ---- turns one after another

module _ (d : DeviceValue) (regions : List Region) (n : ℕ) (e : DeviceValue) (left : List Region) (t : RowTurns) (x : TakesRowTurns d regions n e left t) where
  turn_at : (k : ℕ) → k < t.rows.count → TakesTurn (x.before k) (x.lent k) n t.rows.steps (x.before (k + 1)) (x.lent (k + 1)) (report_in t k)
  turn_at k less =
      let h = x.happen k less in
      let is = h.1.0 in
      let same : h.0 ≡ report_in t k = cc in
      subst (λ (r : Turn). TakesTurn (x.before k) (x.lent k) n t.rows.steps (x.before (k + 1)) (x.lent (k + 1)) r) same h.1.1

  writes_at : (k : ℕ) → k < t.rows.count → WritesRange (x.before k) (x.lent k) n t.rows.steps (x.before (k + 1)) (x.lent (k + 1)) (report_in t k)
  writes_at k less = turn_writes_each (x.before k) (x.lent k) n t.rows.steps (x.before (k + 1)) (x.lent (k + 1)) (report_in t k) (turn_at k less)

  -- the regions before turn k
  record State (k : ℕ) : Type 0 where
    pub found : (a : ℕ) → list_any (has a) (pieces_of (x.lent k)) ≡ list_any (has a) (pieces_of regions)
    pub order : in_order (pieces_of regions) ≡ true → in_order (pieces_of (x.lent k)) ≡ true
    pub read_only : read_only_of (x.lent k) ≡ read_only_of regions
    pub size : length (image_of (pieces_of (x.lent k))) ≡ length (image_of (pieces_of regions))
    pub bytes : (a : ℕ) → ((j : ℕ) → j < k → ¬ LiesIn (row_of t.rows j) a)
        → slice_index (image_of (pieces_of (x.lent k))) a ≡ slice_index (image_of (pieces_of regions)) a

  state_at : (k : ℕ) → k ≤ t.rows.count → State k
  state_at zero few = record {
    found = λ a. ap (λ (ps : List Piece). list_any (has a) ps) x.first.pieces;
    order = λ rises. ap (λ (ps : List Piece). in_order ps) x.first.pieces ∙ rises;
    read_only = x.first.read_only;
    size = ap (λ (ps : List Piece). length (image_of ps)) x.first.pieces;
    bytes = λ a off. ap (λ (ps : List Piece). slice_index (image_of ps) a) x.first.pieces;
  }
  state_at (suc k) few =
      let before = state_at k (omega arith) in
      let w = writes_at k (omega arith) in
      let after : State (k + 1) = record {
        found = λ a. has_kept a (x.lent (k + 1)) (x.lent k) w.places ∙ before.found a;
        order = λ rises. in_order_kept (x.lent k) (x.lent (k + 1)) w.places (before.order rises);
        read_only = w.read_only ∙ before.read_only;
        size = w.no_other.size ∙ before.size;
        bytes = λ a off. w.no_other.bytes a (off k (omega arith)) ∙ before.bytes a (λ j less. off j (omega (arith, less)));
      } in
      subst State (add-one k) after

  pub rows_are_written : WritesRows d regions n e left t x
  rows_are_written =
      let all = state_at t.rows.count (omega arith) in
      record {
        each = λ k a less i. (writes_at k less).each a i;
        within = λ k a rises less i.
            let now = state_at k (omega (arith, less)) in
            let lies = turn_writes_in_regions (x.before k) (x.lent k) n t.rows.steps (x.before (k + 1)) (x.lent (k + 1)) (report_in t k) a (now.order rises)
            (turn_at k less) i in
            (sym (now.found a) ∙ lies.0, ap (λ (ss : List Segment). lies_in_any ss a) (sym now.read_only) ∙ lies.1);
        size = ap (λ (ps : List Piece). length (image_of ps)) (sym x.last.pieces) ∙ all.size;
        no_other = λ a off. ap (λ (ps : List Piece). slice_index (image_of ps) a) (sym x.last.pieces) ∙ all.bytes a off;
      }

pub rows_write_each : RowsWriteEach
rows_write_each d regions n e left t x = rows_are_written d regions n e left t x
