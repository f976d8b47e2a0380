use Rattle.std.proofs.Common.{ap, arith, length}
use Rattle.std.proofs.lemmas.List.{length-take}
use Rattle.dma_mem.specs.Regions.{pieces_of, run_from}
use Rattle.dma_chan.proofs.channel.code.Code.load_from.Goals as goal

pub invariant_of-self : goal.invariant_of-self
invariant_of-self c = record {
  limit = omega (arith, ap length c.copy_run.ensures.run, length-take 8192 (run_from (pieces_of c.args.regions.now) c.args.addr));
  room = omega (arith, c.copy_run.ensures.room, c.self.invariant.room);
}
