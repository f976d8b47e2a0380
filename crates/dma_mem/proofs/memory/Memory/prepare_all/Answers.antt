use Rattle.std.proofs.Common.{◌∙◌, ap, arith, refl, length, take}
use Rattle.std.proofs.{lemmas.List.take_all, lemmas.Bool.le-ltb}
use Rattle.dma_mem.specs.{declared.segment.Segment.Segment, Places.places}
use Rattle.dma_mem.proofs.PrepareAll.{in_places, below_more, made_more, keeps_made, Keeps_trans, Keeps_refl}
use Rattle.dma_mem.proofs.SharedPlaces.{ends_below}
use Rattle.dma_mem.proofs.memory.Memory.prepare_all.Goals as goal

pub loop-s-init : goal.loop-s-init
loop-s-init c = record { image = refl; keeps = Keeps_refl c.args.self.now; within = refl; made = λ a i. absurd (omega (arith, i.1)); others = λ p off. refl }

pub loop-s-preserved : goal.loop-s-preserved
loop-s-preserved c =
    let inv = c.loop-s.invariant in
    let d : Segment = record { addr = 0; len = 0 } in
    let list = c.args.list.now in
    let i = c.loop-s.s-index in
    record {
      image = c.prepare.ensures.image ∙ inv.image;
      keeps = Keeps_trans c.args.self.now c.loop-s.self c.prepare.new.self inv.keeps c.prepare.ensures.keeps;
      within = below_more list i d (length c.args.self.now.image) c.loop-s-test.true inv.within (omega (arith, c.in-Ok.ensures.within, ap length inv.image));
      made = made_more c.prepare.new.self list i d c.loop-s-test.true
          (keeps_made c.loop-s.self c.prepare.new.self (places (take i list)) c.prepare.ensures.keeps inv.made) c.in-Ok.ensures.ok;
      others = λ p off. c.prepare.ensures.others p (λ a here. off a (in_places list i d a c.loop-s-test.true here)) ∙ inv.others p off;
    }

pub returns-in-Err-clause-err : goal.returns-in-Err-clause-err
returns-in-Err-clause-err c = grind (arith, ends_below, le-ltb)

pub returns-in-Err-clause-short : goal.returns-in-Err-clause-short
returns-in-Err-clause-short c = λ below all.
    let d : Segment = record { addr = 0; len = 0 } in
    let list = c.args.list.now in
    let i = c.loop-s.s-index in
    let fits = ends_below list (length c.args.self.now.image) i d below c.loop-s-test.true in
    c.in-Err.ensures.short (omega (arith, fits, ap length c.loop-s.invariant.image)) (λ a here. all a (in_places list i d a c.loop-s-test.true here))

pub returns-clause-ok : goal.returns-clause-ok
returns-clause-ok c = grind (arith, take_all)

pub returns-clause-within : goal.returns-clause-within
returns-clause-within c = grind (arith, take_all)

pub returns-in-Err-clause-others : goal.returns-in-Err-clause-others
returns-in-Err-clause-others c = λ p off.
    let d : Segment = record { addr = 0; len = 0 } in
    let list = c.args.list.now in
    let i = c.loop-s.s-index in
    c.prepare.ensures.others p (λ a here. off a (in_places list i d a c.loop-s-test.true here)) ∙ c.loop-s.invariant.others p off
