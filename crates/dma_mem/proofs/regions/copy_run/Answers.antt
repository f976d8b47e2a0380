use Rattle.std.proofs.Common.{◌≡◌, ℕ, ◌+◌, ◌-◌, ◌≤◌, ◌++◌, ◌∷◌, List, Vec, Global, vec_capacity, length, min, take, drop, true, false, arith, ap, sym, ◌∙◌}
use Rattle.std.proofs.{lemmas.List.length-append, lemmas.List.length-take-le}
use Rattle.dma_mem.specs.{declared.regions.Region.Region, Regions.pieces_of, Regions.piece_of, Regions.has, Regions.run_from}
use Rattle.dma_mem.proofs.{RegionSearch.drop_item, RunsCopied.run_copied, RunsCopied.run_past, regions.copy_run.Goals.then-has+in-Ok}
use Rattle.dma_mem.proofs.{regions.copy_run.Goals.else-has}
use Rattle.dma_mem.proofs.regions.copy_run.Goals as goal

pub loop-region-preserved : goal.loop-region-preserved
loop-region-preserved c =
    let rs = c.args.regions.now in
    let i = c.loop-region.region-index in
    let r = c.region-item.result in
    let rest = drop (i + 1) rs in
    let bytes = c.loop-region.bytes.items in
    let at = c.loop-region.at in
    let most = c.args.most in
    let all = take most (run_from (pieces_of rs) c.args.addr) in
    let so_far : bytes ++ take (most - length bytes) (run_from (piece_of r ∷ pieces_of rest) at) ≡ all =
    sym (ap (λ (qs : List Region). bytes ++ take (most - length bytes) (run_from (pieces_of qs) at)) (drop_item rs i r (omega arith) c.region-item.is))
    ∙ c.loop-region.invariant.copied in
    elim c.if-has.branch [
      | then-has+in-Ok w ↦
          let found = w.rest_from-rest.result.now in
          let part = take w.min.result found in
          let long : length part ≡ w.min.result = length-take-le w.min.result found (omega (arith, w.min.ensures)) in
          let here : has at (piece_of r) ≡ true = sym c.has.ensures ∙ w.if-has.true in
          let cut : w.min.result ≡ min (length found) (most - length bytes) = omega (arith, w.min.ensures, w.len.ensures, c.loop-region.bytes.ok) in
          let both : c.if-has.bytes.items ≡ bytes ++ part = ap (λ (v : Vec ℕ Global). v.items) w.bytes-is ∙ w.in-Ok.ensures.items in
          let size : length c.if-has.bytes.items ≡ length bytes + w.min.result = ap length both ∙ length-append bytes part
          ∙ ap (λ (n : ℕ). length bytes + n) long in
          let larger : vec_capacity c.loop-region.bytes ≤ vec_capacity c.if-has.bytes =
          omega (arith, ap (λ (v : Vec ℕ Global). vec_capacity v) w.bytes-is, w.in-Ok.ensures.capacity) in
          record {
            few = omega (arith, size, cut, c.loop-region.invariant.few);
            room = omega (arith, larger, c.loop-region.invariant.room);
            keeps = omega (arith, larger, c.loop-region.invariant.keeps);
            copied = run_copied (piece_of r) (pieces_of rest) at c.if-has.at most bytes part c.if-has.bytes.items all here (w.at-is ∙ w.end-at.ensures)
                (ap (λ (k : ℕ). take k found) cut ∙ ap (λ (xs : List ℕ). take (min (length xs) (most - length bytes)) xs) w.rest_from-rest.ensures) both so_far;
          }
      | else-has w ↦
          let no : has at (piece_of r) ≡ false = sym c.has.ensures ∙ w.if-has.false in
          let same : c.if-has.bytes.items ≡ bytes = ap (λ (v : Vec ℕ Global). v.items) w.bytes-is in
          let room : vec_capacity c.if-has.bytes ≡ vec_capacity c.loop-region.bytes = ap (λ (v : Vec ℕ Global). vec_capacity v) w.bytes-is in
          record {
            few = omega (arith, ap length same, c.loop-region.invariant.few);
            room = omega (arith, room, c.loop-region.invariant.room);
            keeps = omega (arith, room, c.loop-region.invariant.keeps);
            copied = ap (λ (xs : List ℕ). xs ++ take (most - length xs) (run_from (pieces_of rest) c.if-has.at)) same
                ∙ ap (λ (k : ℕ). bytes ++ take (most - length bytes) (run_from (pieces_of rest) k)) w.at-is
                ∙ ap (λ (xs : List ℕ). bytes ++ take (most - length bytes) xs) (sym (run_past (piece_of r) (pieces_of rest) at no))
                ∙ so_far;
          }
    ]
