use Rattle.std.proofs.Common.{◌≡◌, ◌∙◌, ◌≤◌, Option, ap, arith, length, subst, sym}
use Rattle.std.proofs.lemmas.List.{length-take}
use Rattle.dma_mem.specs.Regions.{pieces_of, run_from}
use Rattle.dma_chan.specs.{Channel.ChannelValue, Channel.bytes_of_program, Programs.ProgramValue}
use Rattle.dma_chan.proofs.channel.Channel.load_from.Goals as goal

pub invariant_of-self : goal.invariant_of-self
invariant_of-self c =
    let h = c.self.invariant in
    let pc : c.self.inside.executor.registers.pc ≡ 0 = ap (λ (x : ChannelValue). x.registers.pc) (c.self.view_is ∙ c.begin.ensures) in
    let few = length-take 8192 (run_from (pieces_of c.args.regions.now) c.args.addr) in
    record {
      block = h.block;
      limit = subst (λ (o : Option ProgramValue). length (bytes_of_program o) ≤ 8192) (sym c.load_from.ensures) (omega (arith, few));
      offset = λ _. omega (arith, pc);
      few = h.few;
    }
