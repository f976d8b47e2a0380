use Rattle.std.proofs.Common.{◌≡◌, length, rules}
use Rattle.dma_seeds.proofs.RaceLemmas.{raced_from}
use Rattle.dma_seeds.proofs.race.MeasuredEngine.run.Goals as goal

pub returns : goal.returns
returns c =
    let first = c.in_ok-run_measured.ensures in
    let went = c.in_ok-go.ensures in
    let at : c.len-early.result ≡ length c.run_measured.new.out.items = search rules in
    rw at (raced_from _ _ _ c.args.script c.args.turns _ c.run_measured.new.out.items _ _ _ _ _ _ first.left first.text went.left went.text
    c.in_ok-run_measured-2.ensures.text)
