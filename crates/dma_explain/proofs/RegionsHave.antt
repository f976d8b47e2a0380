-- An address that lies in a region lies in no gap, and below the size of the regions' memory.
use Rattle.std.proofs.Common.{◌≡◌, ℕ, ◌≤◌, ◌||◌, List, [], ◌∷◌, ◌++◌, Bool, true, false, refl, ◌∙◌, arith, inl, inr}
use Rattle.std.specs.{List.Contains, List.list_any, Prelude.IsTrue}
use Rattle.std.proofs.{lemmas.List.Elements.Contains-append_left, lemmas.List.Elements.Contains-append_right, lemmas.Bool.or_from}
use Rattle.dma_mem.specs.Regions.{Piece, end_of, has, rises_from, gaps_above, in_order, pieces_of, read_only_of}
use Rattle.dma_mem.specs.{declared.segment.Segment.Segment, Marking.MarkList, Marking.is_marked, Places.destinations}
use Rattle.dma_mem.specs.{declared.marks.MarkKind.TheVariants.Reading, declared.marks.MarkKind.TheVariants.Writing, Lent.lies_in_any, Lent.stores_at}
use Rattle.dma_mem.specs.{declared.regions.Region.Region}
use Rattle.dma_mem.proofs.GapMarks.{is_marked_at, loads_in, stores_in}
use Rattle.dma_mem.proofs.Pieces.{first, gaps_past, has_parts, past_first_gap}
use Rattle.dma_explain.specs.{Explains.Work, Explains.cleared, Explains.written, RegionsHave.GapsMiss, RegionsHave.HaveAll, Works.Uses}
use Rattle.dma_chan.specs.LentRegions.{with_gaps_of}

-- what lies in pieces that rise from an address on isn't below it
low : (at : ℕ) (ps : List Piece) (a : ℕ) → rises_from at ps ≡ true → list_any (has a) ps ≡ true → at ≤ a
low at [] a h lies = absurd (cc)
low at (p ∷ ps) a h lies = let f = first at p ps h in by (has a p) refl lies (low (end_of p) ps a f.rest)
  where
    by : (b : Bool) → has a p ≡ b → (b || list_any (has a) ps) ≡ true → (list_any (has a) ps ≡ true → end_of p ≤ a) → at ≤ a
    by true e lies later = let f = first at p ps h in let w = has_parts a p e in omega (arith, f.after, w.0)
    by false e lies later = let f = first at p ps h in omega (arith, f.after, later lies)

in_no_gap : (at : ℕ) (ps : List Piece) (a : ℕ) → rises_from at ps ≡ true → list_any (has a) ps ≡ true → lies_in_any (gaps_above at ps) a ≡ false
in_no_gap at [] a h lies = absurd (cc)
in_no_gap at (p ∷ ps) a h lies = let f = first at p ps h in by (has a p) refl lies (in_no_gap (end_of p) ps a f.rest)
  where
    by : (b : Bool) → has a p ≡ b → (b || list_any (has a) ps) ≡ true → (list_any (has a) ps ≡ true → lies_in_any (gaps_above (end_of p) ps) a ≡ false)
        → lies_in_any (gaps_above at (p ∷ ps)) a ≡ false
    by true e lies later =
        let f = first at p ps h in
        let w = has_parts a p e in
        past_first_gap at p ps a (inr w.0) f.after ∙ gaps_past (end_of p) ps a f.rest w.1
    by false e lies later =
        let f = first at p ps h in
        let begun : p.addr ≤ a = omega (arith, low (end_of p) ps a f.rest lies) in
        past_first_gap at p ps a (inr begun) f.after ∙ later lies

module _ (regions : List Region) (marks : MarkList) (work : Work) (order : IsTrue (in_order (pieces_of regions))) (have : HaveAll regions work) where
  abbrev pieces : List Piece
  pieces = pieces_of regions

  abbrev read_only : List Segment
  read_only = read_only_of regions

  abbrev others : MarkList
  others = stores_at read_only ++ marks

  loads : (a : ℕ) → Uses work a → is_marked Reading marks a ≡ false → is_marked Reading (with_gaps_of regions marks) a ≡ false
  loads a uses misses = grind (arith, is_marked_at, or_from, in_no_gap, loads_in)

  stores : (a : ℕ) → Uses work a → Contains (written work) a → is_marked Writing marks a ≡ false → is_marked Writing (with_gaps_of regions marks) a ≡ false
  stores a uses i misses = grind (arith, is_marked_at, or_from, in_no_gap, stores_in)

pub gaps_miss : GapsMiss
gaps_miss regions marks work order have misses =
    let ds = destinations work.copy in
    let zs = cleared work in
    record {
      copy = record {
        reads = λ a i. loads regions marks work order have a (inl (inl i)) (misses.copy.reads a i);
        writes = λ a i. stores regions marks work order have a (inl (inr i)) (Contains-append_left ds zs a i) (misses.copy.writes a i);
      };
      zeros = λ a i. stores regions marks work order have a (inr i) (Contains-append_right ds zs a i) (misses.zeros a i);
    }
