use Rattle.std.proofs.Common.{◌≡◌, ◌∷◌, ◌++◌, [], ap, refl, subst, sym, ◌∙◌}
use Rattle.dma_mem.specs.{declared.marks.MarkKind.MarkKind, declared.marks.Marks.TheInside.Inside, Marking.MarkList, inner.MarkRanges.RangesOfMarks}
use Rattle.dma_mem.proofs.MarkHits.{more_loads, more_stores}
use Rattle.dma_mem.proofs.marks.Marks.add.Goals.{After-push_reserved, in-Reading+in_ok-add_in_order-in-Reading, in-Writing+in_ok-add_in_order-in-Writing}
use Rattle.dma_mem.proofs.marks.Marks.add.Goals as goal

-- the list has the mark at its end
longer : (c : After-push_reserved) (kind : MarkKind) (inside : Inside) → c.match-kind.self-inside ≡ inside → inside.list ≡ c.reserve.new.self
    → c.args.kind ≡ kind → c.push_reserved.new.self.items ≡ c.self.inside.list.items ++ (kind, c.args.segment) ∷ []
longer c kind inside is list kind_is =
    c.push_reserved.ensures.items
    ∙ ap (λ (m : Inside). m.list.items ++ (c.args.kind, c.args.segment) ∷ []) is
    ∙ ap (λ l. l.items ++ (c.args.kind, c.args.segment) ∷ []) list
    ∙ ap (λ (ms : MarkList). ms ++ (c.args.kind, c.args.segment) ∷ []) c.in_ok-reserve.ensures.items
    ∙ ap (λ k. c.self.inside.list.items ++ (k, c.args.segment) ∷ []) kind_is

pub invariant_of-self-2 : goal.invariant_of-self-2
invariant_of-self-2 c =
    let old = c.self.inside in
    elim c.match-kind.branch [
      | in-Reading+in_ok-add_in_order-in-Reading w ↦
          subst (λ (m : Inside). RangesOfMarks c.push_reserved.new.self.items m.reading.items m.writing.items) (sym w.self-inside-is)
          (more_loads old.list.items c.push_reserved.new.self.items old.reading.items old.writing.items w.add_in_order.new.ranges.items c.args.segment
          c.self.invariant
          w.add_in_order.ensures.ordered w.in_ok-add_in_order-in-Reading.ensures.ok (longer c _ _ w.self-inside-is refl w.in-Reading.is))
      | in-Writing+in_ok-add_in_order-in-Writing w ↦
          subst (λ (m : Inside). RangesOfMarks c.push_reserved.new.self.items m.reading.items m.writing.items) (sym w.self-inside-is)
          (more_stores old.list.items c.push_reserved.new.self.items old.reading.items old.writing.items w.add_in_order-in-Writing.new.ranges.items
          c.args.segment c.self.invariant
          w.add_in_order-in-Writing.ensures.ordered w.in_ok-add_in_order-in-Writing.ensures.ok (longer c _ _ w.self-inside-is refl w.in-Writing.is))
    ]

pub invariant_of-self-in_err-add_in_order-in-Reading : goal.invariant_of-self-in_err-add_in_order-in-Reading
invariant_of-self-in_err-add_in_order-in-Reading c =
    rw (c.in_ok-reserve.ensures.items, c.in_err-add_in_order-in-Reading.ensures.err) c.self.invariant

pub invariant_of-self-in_err-add_in_order-in-Writing : goal.invariant_of-self-in_err-add_in_order-in-Writing
invariant_of-self-in_err-add_in_order-in-Writing c =
    rw (c.in_ok-reserve.ensures.items, c.in_err-add_in_order-in-Writing.ensures.err) c.self.invariant

pub returns-clause-ok : goal.returns-clause-ok
returns-clause-ok c =
    let old = ap (λ (ms : MarkList). ms ++ (c.args.kind, c.args.segment) ∷ []) c.self.view_is in
    elim c.match-kind.branch [
      | in-Reading+in_ok-add_in_order-in-Reading w ↦ longer c _ _ w.self-inside-is refl refl ∙ old
      | in-Writing+in_ok-add_in_order-in-Writing w ↦ longer c _ _ w.self-inside-is refl refl ∙ old
    ]
