use Rattle.std.proofs.Common.{ℕ, ◌+◌, List, [], refl, sym, ap, ◌∙◌, subst, arith}
use Rattle.dma_chan.specs.{Exec.State, Channel.state_of, Run.opening}
use Rattle.dma_chan.proofs.RunAlone.{HasRun, made_at_end, made_at_refusal, made_on, made_past, needs_page, run_on, stops_unread, stops_with}
use Rattle.dma_mem.specs.Lent.{with_gaps}
use Rattle.dma_chan.specs.declared.run.RunEnd.TheVariants as ends
use Rattle.dma_chan.proofs.run.run_on.Goals as goal

pub loop-turn-preserved : goal.loop-turn-preserved
loop-turn-preserved g c =
    let marks = with_gaps (g.M.Ram.loan c.args.memory.now) [] in
    let s = opening (g.M.Ram.paged c.args.memory.now).image in
    let image = (g.M.Ram.paged c.prepare.new.memory).image in
    let step = c.execute.ensures.step in
    let loan = c.prepare.ensures.loan ∙ c.loop-turn.invariant.loan in
    let h : HasRun marks c.args.program.bytes s c.loop-turn.turn c.loop-turn.channel image c.loop-turn.events =
    subst (λ (i : List ℕ). HasRun marks c.args.program.bytes s c.loop-turn.turn c.loop-turn.channel i c.loop-turn.events) (sym c.prepare.ensures.image)
    c.loop-turn.invariant.run in
    record {
      run = run_on h (rw (c.requires.none, loan) at step.turn) c.in-Moved.is (rw (c.requires.none, loan) at step.memory)
          (rw (c.requires.none, loan) at step.events) (rw (c.requires.none, loan) at step.channel);
      known = rw step.pages (rw c.in-Ok-prepare.is at c.prepare.ensures.known);
      pages = λ p h. rw step.pages (c.prepare.ensures.keeps.made p (c.loop-turn.invariant.pages p h));
      made = made_on (g.M.Ram.paged c.args.memory.now) (g.M.Ram.paged c.loop-turn.memory) (g.M.Ram.paged c.prepare.new.memory)
          (g.M.Ram.paged c.execute.new.memory) c.loop-turn.invariant.run c.loop-turn.invariant.made c.prepare.ensures.others step.pages;
      loan = c.execute.ensures.loan ∙ loan;
    }

pub returns-in-Err-clause-ok : goal.returns-in-Err-clause-ok
returns-in-Err-clause-ok g c =
    let run = c.loop-turn.invariant.run in
    let image = (g.M.Ram.paged c.loop-turn.memory).image in
    let place = c.pc-pc.ensures ∙ sym (ap (λ (s : State). s.registers.pc) run.here) in
    let unread = sym c.next.ensures ∙ c.in-Err.is in (
      state_of c.loop-turn.channel image c.loop-turn.events,
      (
        c.loop-turn.turn,
        place,
        stops_unread run c.args.limit c.in-Err.kind c.loop-turn-test.true unread,
      ),
      refl,
    )

pub returns-in-Waiting-clause-ok : goal.returns-in-Waiting-clause-ok
returns-in-Waiting-clause-ok g c =
    let loan = c.prepare.ensures.loan ∙ c.loop-turn.invariant.loan in
    let step = c.execute.ensures.step in
    let stop = stops_with c.loop-turn.invariant.run c.args.limit c.loop-turn-test.true c.prepare.ensures.image (rw (c.requires.none, loan) at step.turn)
    c.in-Waiting.is (rw (c.requires.none, loan) at step.memory) in
    (stop.0, (c.loop-turn.turn, stop.1), stop.2)

pub returns-in-Ended-clause-ok : goal.returns-in-Ended-clause-ok
returns-in-Ended-clause-ok g c =
    let loan = c.prepare.ensures.loan ∙ c.loop-turn.invariant.loan in
    let step = c.execute.ensures.step in
    let stop = stops_with c.loop-turn.invariant.run c.args.limit c.loop-turn-test.true c.prepare.ensures.image (rw (c.requires.none, loan) at step.turn)
    c.in-Ended.is (rw (c.requires.none, loan) at step.memory) in
    (stop.0, (c.loop-turn.turn, refl, stop.1), stop.2)

pub returns-in-Fault-clause-ok : goal.returns-in-Fault-clause-ok
returns-in-Fault-clause-ok g c =
    let loan = c.prepare.ensures.loan ∙ c.loop-turn.invariant.loan in
    let step = c.execute.ensures.step in
    let stop = stops_with c.loop-turn.invariant.run c.args.limit c.loop-turn-test.true c.prepare.ensures.image (rw (c.requires.none, loan) at step.turn)
    c.in-Fault.is (rw (c.requires.none, loan) at step.memory) in
    (stop.0, (c.loop-turn.turn, c.pc-pc.ensures ∙ sym (ap (λ (s : State). s.registers.pc) c.loop-turn.invariant.run.here), stop.1), stop.2)

pub returns-in-Err-prepare-clause-err : goal.returns-in-Err-prepare-clause-err
returns-in-Err-prepare-clause-err g c = (
  c.requires.limit,
  needs_page c.loop-turn.invariant.run (g.M.Ram.paged c.prepare.new.memory) c.args.limit c.loop-turn-test.true c.prepare.ensures.image
      (rw c.in-Err-prepare.is at c.prepare.ensures.short),
)

pub returns-in-Err-clause-others : goal.returns-in-Err-clause-others
returns-in-Err-clause-others g c =
    made_at_end (with_gaps (g.M.Ram.loan c.args.memory.now) []) c.args.program.bytes c.args.limit c.loop-turn.turn (ends.Fault c.in-Err.kind c.pc-pc.result)
    (g.M.Ram.paged c.args.memory.now) (g.M.Ram.paged c.loop-turn.memory) c.loop-turn.invariant.made c.loop-turn.invariant.run.goes_on (omega arith)

pub returns-in-Err-prepare-clause-others : goal.returns-in-Err-prepare-clause-others
returns-in-Err-prepare-clause-others g c =
    let new = g.M.Ram.paged c.prepare.new.memory in
    made_at_refusal (with_gaps (g.M.Ram.loan c.args.memory.now) []) c.args.program.bytes c.args.limit c.loop-turn.turn (g.M.Ram.paged c.args.memory.now) new
    (made_on (g.M.Ram.paged c.args.memory.now) (g.M.Ram.paged c.loop-turn.memory) new new c.loop-turn.invariant.run c.loop-turn.invariant.made
    c.prepare.ensures.others refl)

pub returns-in-Waiting-clause-others : goal.returns-in-Waiting-clause-others
returns-in-Waiting-clause-others g c =
    made_past (g.M.Ram.paged c.args.memory.now) (g.M.Ram.paged c.loop-turn.memory) (g.M.Ram.paged c.prepare.new.memory) (g.M.Ram.paged c.execute.new.memory)
    c.loop-turn.invariant.run c.loop-turn.invariant.made c.prepare.ensures.others c.execute.ensures.step.pages c.args.limit (ends.Waiting c.in-Waiting.event)
    (omega arith)

pub returns-in-Ended-clause-others : goal.returns-in-Ended-clause-others
returns-in-Ended-clause-others g c =
    made_past (g.M.Ram.paged c.args.memory.now) (g.M.Ram.paged c.loop-turn.memory) (g.M.Ram.paged c.prepare.new.memory) (g.M.Ram.paged c.execute.new.memory)
    c.loop-turn.invariant.run c.loop-turn.invariant.made c.prepare.ensures.others c.execute.ensures.step.pages c.args.limit (ends.Ended (c.loop-turn.turn + 1))
    (omega arith)

pub returns-in-Fault-clause-others : goal.returns-in-Fault-clause-others
returns-in-Fault-clause-others g c =
    made_past (g.M.Ram.paged c.args.memory.now) (g.M.Ram.paged c.loop-turn.memory) (g.M.Ram.paged c.prepare.new.memory) (g.M.Ram.paged c.execute.new.memory)
    c.loop-turn.invariant.run c.loop-turn.invariant.made c.prepare.ensures.others c.execute.ensures.step.pages c.args.limit
    (ends.Fault c.in-Fault.kind c.pc-pc.result) (omega arith)

pub returns-clause-others : goal.returns-clause-others
returns-clause-others g c =
    made_at_end (with_gaps (g.M.Ram.loan c.args.memory.now) []) c.args.program.bytes c.args.limit c.loop-turn.turn ends.OutOfTurns
    (g.M.Ram.paged c.args.memory.now) (g.M.Ram.paged c.loop-turn.memory) c.loop-turn.invariant.made c.loop-turn.invariant.run.goes_on (omega arith)
