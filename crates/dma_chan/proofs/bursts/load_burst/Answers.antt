use Rattle.std.proofs.Common.{◌≡◌, ◌+◌, ◌≤◌, ◌++◌, ℕ, Bool, List, arith, length, refl, true}
use Rattle.std.proofs.lemmas.Bool.{le-ltb}
use Rattle.dma_insn.specs.declared.chip.ChipInsn.TheVariants.{Ld}
use Rattle.dma_mem.specs.{Lent.with_gaps, Marking.MarkList, declared.marks.MarkKind.TheVariants.Reading}
use Rattle.dma_chan.specs.{Bursts.burst_len, Bursts.reaches, Bursts.touched, Exec.act, Exec.moved, Exec.read_at, Exec.source_of, Exec.state}
use Rattle.dma_chan.specs.{declared.exec.Registers.Registers, declared.turn.ChanTurn.TheVariants.Moved}
use Rattle.std.proofs.Common.{rules}
use Rattle.dma_chan.proofs.ActCases.{faulted}
use Rattle.dma_chan.proofs.bursts.load_burst.Goals as goal

pub returns-in-Some-clause-exact : goal.returns-in-Some-clause-exact
returns-in-Some-clause-exact g c = grind (arith, faulted)

loads : (marks : MarkList) (r : Registers) (buffer image : List ℕ) (flags : List Bool) → length buffer + burst_len (source_of r) ≤ 256
    → reaches Reading marks (length image) (touched (source_of r)) ≡ true
    → act marks Ld (state r buffer image flags) ≡ (Moved, state (moved Ld r) (buffer ++ read_at image (touched (source_of r))) image flags)
loads marks r buffer image flags room reached = rw (le-ltb 256 (length buffer + burst_len (source_of r)) room, reached) refl

pub returns-clause-exact : goal.returns-clause-exact
returns-clause-exact g c = λ flags.
    let e = c.args.executor.now in
    let image = (g.M.Ram.paged c.args.memory.now).image in
    let marks = with_gaps (g.M.Ram.loan c.args.memory.now) c.args.marks.now in
    let room : length e.buffer + burst_len (source_of e.registers) ≤ 256 = search rules in
    let reached : reaches Reading marks (length image) (touched (source_of e.registers)) ≡ true = search rules in
    rw (c.load_span.ensures, c.advance.ensures.value, c.source_burst-burst.ensures.value) (loads marks e.registers e.buffer image flags room reached)
