use Rattle.std.proofs.Common.{ℕ, ◌-◌, ap, sym, ◌∙◌, arith}
use Rattle.dma_mem.specs.Regions.{has, piece_of}
use Rattle.dma_mem.proofs.{Pieces.no_region, Pieces.piece_at_item, RegionSearch.earlier, RegionSearch.none_has}
use Rattle.dma_mem.proofs.regions.search.place_by_search.Goals as goal

pub returns-then-begun-eq0-clause-before : goal.returns-then-begun-eq0-clause-before
returns-then-begun-eq0-clause-before c = λ k less.
    none_has c.args.regions.now c.args.addr c.begun_by-begun.result k no_region c.requires c.begun_by-begun.ensures.bound c.begun_by-begun.ensures.first
    (λ some. absurd (omega (arith, some))) less

pub returns-then-has-clause-before : goal.returns-then-has-clause-before
returns-then-has-clause-before c = λ k less.
    earlier c.args.regions.now c.args.addr c.begun_by-begun.result k no_region c.requires c.begun_by-begun.ensures.bound c.begun_by-begun.ensures.first
    (omega (arith, less))

pub returns-else-has-clause-before : goal.returns-else-has-clause-before
returns-else-has-clause-before c = λ k less.
    none_has c.args.regions.now c.args.addr c.begun_by-begun.result k no_region c.requires c.begun_by-begun.ensures.bound c.begun_by-begun.ensures.first
    (λ some.
    let rs = c.args.regions.now in
    let last = c.begun_by-begun.result - 1 in
    let is = piece_at_item rs last c.index-regions-begun.result (omega (arith, c.begun_by-begun.ensures.bound)) c.index-regions-begun.is in
    ap (has c.args.addr) is ∙ ap (λ (a : ℕ). has a (piece_of c.index-regions-begun.result)) (sym c.from.ensures) ∙ sym c.has.ensures ∙ c.if-has.false) less
