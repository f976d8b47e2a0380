use Rattle.std.proofs.Common.{◌≤◌, ◌∙◌, ap, arith, length, sym}
use Rattle.std.proofs.{lemmas.Bool.ltb-true, lemmas.List.get_or_past}
use Rattle.dma_engine.specs.{inner.Inside.parts_of, Object.empty_channel, Object.finished, Ticks.Counts, Ticks.board_of, Ticks.counts}
use Rattle.dma_engine.specs.{View.EngineState}
use Rattle.dma_engine.proofs.{Boards.counts_at, OutcomesStay.forgotten_stays, Queues.holds_at, Queues.many_queues, Sizes.many_channels}
use Rattle.dma_engine.proofs.engine.Engine.forgotten.Goals as goal

pub returns-in-Some-clause-base : goal.returns-in-Some-clause-base
returns-in-Some-clause-base c = grind (arith, ltb-true, holds_at, forgotten_stays, counts_at)

pub returns-in-None-clause-base : goal.returns-in-None-clause-base
returns-in-None-clause-base c =
    let p = parts_of c.self.inside in
    let i = c.from.result in
    let found = rw c.deref.ensures.value at c.in-None.ensures.lookup in
    let past : length p.base.channels ≤ i = omega (arith, found.3, many_queues p c.self.invariant, many_channels p.base p.history) in
    sym (ap finished (get_or_past p.base.channels i empty_channel past))
    ∙ sym (ap (λ (x : Counts). x.finished) (counts_at p.base i))
    ∙ ap (λ n. (counts (board_of p.base) n).finished) c.from.ensures
    ∙ ap (λ (s : EngineState). (counts (board_of s.view.base) c.args.ch).finished) c.self.view_is
