-- A walk: a `&mut` to one struct lends itself as a `&mut` to another with the same fields, by a cast of its pointer.
use Rattle.std.proofs.Common.{◌≡◌, ℕ, List, [], ◌∷◌, refl}
use Rattle.std.specs.Borrow.{MutBor}
use Rattle.std.proofs.{raw_atomic.Walks.proved, alloc.Shapes.after}
use mir.Syntax.{Callee, Fn, local, value_local, named, erased, mut, ty_ref, ty_ptr, deref, place, copy, assign, addr_of, rv_opd, seq, block, return}
use mir.Val.{Val, vptr}
use base.Fraction.{full_share}
use base.Logic.{SProp, ent, sep, emp}
use base.Fml.{Fml, GName, ftrue, fsep, flft}
use seplogic.Ra.Ura.{Ura}
use prog.Wp.{Env, Closed}
use prog.Model.{Model}
use types.Logic.{Logic, sem}
use types.Kit.{‵, ◌⊛◌, some, later, at_ret, ◌$◌, ◌∵◌, !, qed, move, keep, split, split3, fsplit, fsplit3, fjoin, fpack, drop, pick, await, group, rewrite, use1, join, done, suffices, frame}
use types.Run.{stop, of_opd, first, blocks, exec, returns, enter, addr}
use types.ByLocal.{alloc_all, pass_all, free_all, look_at, get, through, sets, sets_last, env}
use contract.Monad.{fact}
use contract.Running.{Running, tables}
use denote.Exit.{no}
use denote.Follow.{follows, lends_Part}
use denote.Memory.{part_at, mem, cell_at, part_of, lone, pointee}
use denote.RattleType.{RattleType, owns}
use denote.Ref.{MutRef, mut_vals, mut_Tells}
use denote.Signature.{plain, types_at, mut_ref_to}
use denote.Steps.{nothing, opens}
use denote.Triple.Clauses.{Clauses, Ended, closing}
use denote.Triple.Spec.{Meets}
use denote.Triple.Walked.{Stays, stay_dropped, walk_of, Goes-spent_ref, ends_at, says}

-- `F` and `G` take a value of each struct to the same value of the other, and `V` is what the cast's contract says of
-- the two values
module _ (P Q : RattleType) (F : Q.Denot → P.Denot) (G : P.Denot → Q.Denot) (V : Q.Denot → P.Denot → Type 0)
    (sees : (h : P.Denot) → V (G h) h)
    (there : (h : P.Denot) (b o : ℕ) → part_at P full_share h b o ≡ part_at Q full_share (G h) b o)
    (back : (w : Q.Denot) (b o : ℕ) → part_at Q full_share w b o ≡ part_at P full_share (F w) b o) where
  abbrev ended : Ended
  ended = record {
    signature = record {
      lifetimes = 1;
      outlives = [];
      params = mut_ref_to (0 ∷ []) tt (plain (λ _. P)) ∷ [];
      result = mut_ref_to (0 ∷ []) tt (plain (λ _. Q));
    };
    kept = (no, tt);
  }

  abbrev cast : Fn
  cast = record {
    lifetimes = 1;
    outlives = [];
    ty_params = [];
    givens = 0;
    params = 1;
    locals = local (ty_ref (named 0) mut (pointee Q.written)) value_local ∷ local (ty_ref (named 0) mut (pointee P.written)) value_local ∷ local
        (ty_ref erased mut (pointee Q.written)) value_local ∷ local ty_ptr value_local ∷ local ty_ptr value_local ∷ [];
    body = seq (block (seq (assign (place 3 []) (addr_of (place 1 (deref (lone P.mir) ∷ []))))
        (seq (assign (place 4 []) (rv_opd (copy (place 3 [])))) (assign (place 2 []) (addr_of (place 4 (deref (lone Q.mir) ∷ [])))))))
        (seq (assign (place 0 []) (rv_opd (copy (place 2 [])))) return);
  }

  abbrev stayed : Stays ended.signature.params ended.kept
  stayed = (stay_dropped (mut_ref_to (0 ∷ []) tt (plain (λ _. P))) no, tt)

  module _ {M : Type 1} {𝓤 : Ura M} (𝓛 : Logic 𝓤) where
    abbrev lending : Clauses 𝓤 ended
    lending κs a = record {
      ghost = Unit {0};
      requires = λ _. emp 𝓤;
      ensures = λ _ r _. sep 𝓤 (sem 𝓛 (follows P Q a.0.ghost_name r.ghost_name F)) (fact 𝓤 (V r.now a.0.now));
    }

    returned : (b o : ℕ) (w : Q.Denot) → ent 𝓤 (sep 𝓤 (sem 𝓛 ((mem Q).own_at w b o)) (sem 𝓛 ftrue)) (sem 𝓛 ((mem P).own_at (F w) b o))
    returned b o w = qed 𝓛 (‵ (part_at Q full_share w b o) ∷ ‵ ftrue ∷ []) ∵ move ! (1 ∷ []) $ drop ! $ rewrite ! 0 (λ (X : Fml). ‵ X) (back w b o) refl $ done
        !

    module _ (𝓜 : Model 𝓤 𝓛.H) (𝓡 : Running 𝓤 𝓛.H 𝓜) where
      pub casts : (k : Callee) → Closed 𝓤 𝓛.H (tables 𝓤 𝓛.H 𝓜 𝓡 𝓡.env).C (tables 𝓤 𝓛.H 𝓜 𝓡 𝓡.env).Λ k cast
          → Meets 𝓛 ended.signature ((tables 𝓤 𝓛.H 𝓜 𝓡 𝓡.env).C k) (closing 𝓛 ended lending)
      unfolding part_of
      casts k closed =
          let H = 𝓛.H in let 𝓣 = tables 𝓤 H 𝓜 𝓡 𝓡.env in
          proved 𝓛 ended stayed lending 𝓜 𝓡 (Goes-spent_ref 𝓛 1 (0 ∷ []) tt (plain (λ _. P)), tt) k cast closed (λ κs. (mut_vals, tt))
          (λ κs. (mut_Tells (named 0) κs.0 P, tt)) (λ κs qs bounds a g are.
          let h = a.0.now in let γ = a.0.ghost_name in let b = a.0.ref_ptr.0 in let o = a.0.ref_ptr.1 in let x : Q.Denot = G h in
          let y : (walk_of 𝓛 ended stayed lending).Ghost = ((κs, qs, bounds, a, (vptr b o ∷ [], tt)), g) in
          let Post : Val → SProp 𝓤 = (walk_of 𝓛 ended stayed lending).post y in
          qed 𝓛 (((‵ (flft κs.0 qs.0) ⊛ ‵ ftrue) ⊛ ‵ (owns (types_at ended.signature.params κs) a (vptr b o ∷ [], tt))) ∷ ‵ ftrue ∷ []) ∵ move ! (1 ∷ []) $ drop
          ! $
          split ! $ enter ! 𝓣.C 𝓣.Λ cast (vptr b o ∷ []) Post $ alloc_all ! (λ l. pass_all ! refl ((tt, tt), tt) $
          let Ev : Env 𝓤 H = env cast.locals l in
          first ! $ blocks ! $ sets ! (addr ! (through ! refl (stop !))) refl (tt, tt) $
          sets ! (of_opd ! (get ! refl)) refl (tt, tt) $ sets_last ! (addr ! (through ! refl (stop !))) refl (tt, tt) $
          exec ! 𝓣.C 𝓣.Λ Ev (after 1 cast.body) (at_ret Ev Post) $ sets ! (of_opd ! (get ! refl)) refl (tt, tt) $
          move ! (1 ∷ []) $ fsplit ! $ fsplit3 ! $ drop ! $ move ! (3 ∷ []) $ split ! $ move ! (2 ∷ 3 ∷ 0 ∷ []) $
          opens ! tt P {h = h} b o (λ vs. fjoin ! $ fpack ! (List Val) (λ us. fsep (cell_at full_share P.mir us b o) (P.own_val h us)) vs $
          rewrite ! 0 (λ (X : Fml). ‵ X) (there h b o) refl $ nothing ! $ move ! (2 ∷ 3 ∷ 4 ∷ 1 ∷ 0 ∷ []) $ group ! 5 $
          let lent : GName → MutBor Q.Denot = λ γ'. record { ref_ptr = (b, o); ghost_name = γ'; now = x } in
          use1 𝓛 (later (some (λ (γ' : GName). ‵ ((MutRef (named 0) κs.0 Q).own_val (lent γ') (vptr b o ∷ [])) ⊛ ‵ (flft κs.0 qs.0) ⊛ ‵ (follows P Q γ γ' F))))
          (lends_Part 𝓛 P Q F (named 0) κs.0 qs.0 b o b o γ (sem 𝓛 ftrue) (returned b o) (P.coded.code h) (P.coded.code h) x) $ await ! tt $ pick !
          (λ γ'. split3 ! $
          -- [the reference; the token; what follows it]
          returns ! (look_at ! 0 refl) $ free_all ! refl $ keep ! (0 ∷ 1 ∷ 2 ∷ []) $
          suffices ! _ (ends_at 𝓛 ended stayed lending y (vptr b o) (lent γ') (tt, tt) (tt, tt)) $ nothing ! $ nothing ! $ fjoin ! $ join ! $ nothing ! $ move !
          (2 ∷ 0 ∷ []) $ join ! $ join ! $
          frame ! $ says ! (sees h) $ done !))))
