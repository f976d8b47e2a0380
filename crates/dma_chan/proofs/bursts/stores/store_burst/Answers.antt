use Rattle.std.proofs.Common.{◌≡◌, ◌≤◌, ℕ, Bool, List, arith, drop, length, refl, take, true}
use Rattle.std.proofs.Common.{rules}
use Rattle.std.proofs.lemmas.Bool.{le-ltb}
use Rattle.dma_insn.specs.declared.chip.ChipInsn.TheVariants.{St}
use Rattle.dma_mem.specs.{Image.put, Lent.with_gaps, Marking.MarkList, declared.marks.MarkKind.TheVariants.Writing}
use Rattle.dma_chan.specs.{Bursts.burst_len, Bursts.reaches, Bursts.touched, Bursts.writes_of, Exec.act, Exec.destination_of, Exec.moved, Exec.state}
use Rattle.dma_chan.specs.{declared.exec.Registers.Registers, declared.turn.ChanTurn.TheVariants.Moved}
use Rattle.dma_chan.proofs.ActCases.{faulted}
use Rattle.dma_chan.proofs.bursts.stores.store_burst.Goals as goal

pub returns-in-Some-clause-exact : goal.returns-in-Some-clause-exact
returns-in-Some-clause-exact g c = grind (arith, faulted)

stores : (marks : MarkList) (r : Registers) (buffer image : List ℕ) (flags : List Bool) → burst_len (destination_of r) ≤ length buffer
    → reaches Writing marks (length image) (touched (destination_of r)) ≡ true
    → act marks St (state r buffer image flags)
    ≡ (
      Moved,
      state (moved St r) (drop (burst_len (destination_of r)) buffer)
          (put image (writes_of (destination_of r) (take (burst_len (destination_of r)) buffer))) flags,
    )
stores marks r buffer image flags bytes reached = rw (le-ltb (length buffer) (burst_len (destination_of r)) bytes, reached) refl

pub returns-clause-exact : goal.returns-clause-exact
returns-clause-exact g c = λ flags.
    let e = c.args.executor.now in
    let image = (g.M.Ram.paged c.args.memory.now).image in
    let marks = with_gaps (g.M.Ram.loan c.args.memory.now) c.args.marks.now in
    let bytes : burst_len (destination_of e.registers) ≤ length e.buffer = search rules in
    let reached : reaches Writing marks (length image) (touched (destination_of e.registers)) ≡ true = search rules in
    rw (c.store_span.ensures.written, c.store_span.ensures.taken, c.advance.ensures.value, c.destination_burst-burst.ensures.value)
    (stores marks e.registers e.buffer image flags bytes reached)
