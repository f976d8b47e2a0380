-- A trace over RAM at the ranges that are found.
use Rattle.std.proofs.Common.{◌≡◌, ℕ, ◌+◌, ◌≤◌, List, Bool, sym, subst, inl}
use Rattle.std.specs.Prelude.{All, IsTrue, map}
use Rattle.std.proofs.lemmas.List.Elements.{All-append, All-map}
use Rattle.dma_mem.specs.{declared.segment.Segment.Segment, Lent.lies_in_any, Places.end_of_addresses, Regions.Piece, Regions.in_order}
use Rattle.dma_chan.specs.{declared.exec.Registers.Registers, Exec.start_on}
use Rattle.dma_explain.specs.{declared.explain.Explained.Explained, declared.explain.Repeated.Repeated, Explains.Finds}
use Rattle.dma_trace.specs.Found.{ShowsAlone, most_explained, ranges_of, zero_piece}
use Rattle.dma_trace.specs.{declared.options.TraceOptions.TraceOptions, inner.Explaining.ShowsOver}

-- a range ends at or below 2 ^ 32
abbrev Ends : Segment → Type 0
Ends s = s.addr + s.len ≤ end_of_addresses

-- what is found ends there
pub found_ends : (start : Registers) (program : List ℕ) (most : ℕ) (x : Explained) → Finds start program most x → All Ends (ranges_of x)
found_ends start program most x f =
    let range : Repeated → Segment = λ r. record { addr = r.addr; len = r.len } in
    let src : All Ends (map range x.src.items) = All-map Ends range x.src.items (λ k d h. (f.src k d h).1.1) in
    let dst : All Ends x.dst.items = λ k d h. (f.dst k d h).1 in
    let zeros : All Ends x.zeros.items = λ k d h. (f.zeros k d h).1 in
    All-append Ends _ _ (All-append Ends _ _ src dst) zeros

-- a trace over these ranges
module _ (o : TraceOptions) (program : List ℕ) (x : Explained) (ranges shown : List Segment)
    (finds : Finds (start_on o.bus) program (most_explained o) x) where
  pub shown_alone : (good : Bool) (out err old wave new_out new_err new_wave : List ℕ) → shown ≡ ranges
      → IsTrue (in_order (map zero_piece ranges)) → ((a : ℕ) → lies_in_any ranges a ≡ lies_in_any (ranges_of x) a) → err ≡ old
      → ShowsOver o program shown good out err wave new_out new_err new_wave → ShowsAlone o program good out old wave new_out new_err new_wave
  shown_alone good out err old wave new_out new_err new_wave same order places kept h =
      let over : ShowsOver o program ranges good out old wave new_out new_err new_wave =
      subst (λ (e : List ℕ). ShowsOver o program ranges good out e wave new_out new_err new_wave) kept
      (subst (λ (s : List Segment). ShowsOver o program s good out err wave new_out new_err new_wave) same h) in
      inl (record {
        found = x;
        finds = finds;
        regions = over.regions;
        ram = record {
          ranges = ranges;
          zeros = over.zeros;
          writable = over.writable;
          order = subst (λ (ps : List Piece). IsTrue (in_order ps)) (sym over.zeros) order;
          places = places;
        };
        new = over.new;
        shows = over.shows;
      })
