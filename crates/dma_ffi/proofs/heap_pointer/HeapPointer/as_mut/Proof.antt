-- `as_mut` lends the value behind the pointer.
use Rattle.std.proofs.Common.{◌≡◌, ℕ, List, [], ◌∷◌, refl, sym, subst}
use Rattle.std.specs.{Prelude.Some, Prelude.IsSome, Borrow.MutBor}
use Rattle.std.proofs.{raw_atomic.Walks.proved, alloc.Shapes.after}
use Rattle.dma_ffi.specs.{inner.Owned.may_free, declared.heap_pointer.HeapPointer.HeapPointer}
use Rattle.dma_ffi.proofs.{Values.alone, Values.raw_in, Values.raw_out, Values.some_of, heap_pointer.HeapPointer.as_mut.Statement.statement}
use mir.Syntax.{a_type, named}
use mir.Raw.{raw as bare}
use mir.Val.{Val, vptr}
use mir.MapTy.{inst_fn}
use base.Fraction.{full_share}
use base.Logic.{SProp, ent, sep}
use base.Fml.{Fml, GName, ftrue, fsep, flft}
use seplogic.Ra.Ura.{Ura}
use prog.Wp.{Env}
use types.Logic.{Logic, sem}
use types.Kit.{‵, raw, ◌⊛◌, some, later, at_ret, ◌$◌, ◌∵◌, !, qed, move, keep, split, split3, fsplit, fsplit3, fjoin, fpack, drop, pick, await, group, rewrite, use1, join, done, suffices, frame}
use types.Part.{whole, sub, look_in}
use types.Run.{stop, fld, hop, of_opd, first, blocks, exec, returns, enter, addr}
use types.ByLocal.{alloc_all, pass_all, free_all, look_at, get, through, sets, sets_last, env}
use contract.Monad.{fact}
use contract.BorrowLft.{◌⊑◌}
use contract.Running.{tables}
use denote.Exit.{no}
use denote.Follow.{follows, lends_Part}
use denote.Memory.{part_at, mem, cell_at, part_of, lone}
use denote.RattleType.{RattleType, owns}
use denote.RawPtr.{Ptr, block_ptr}
use denote.Param.{param, layouts}
use denote.Ref.{MutRef, mut_vals, mut_Tells}
use denote.Signature.{plain, types_at, mut_ref_to}
use denote.Steps.{nothing, heard, opens}
use denote.Triple.Walked.{Stays, stay_dropped, walk_of, Goes-spent_ref, ends_at, says}
use Rattle.dma_ffi.specs.contracts.heap_pointer.HeapPointer.{the_row as Row}
use Rattle.dma_ffi.specs.contracts.heap_pointer.HeapPointer.as_mut as f
use Rattle.dma_ffi.proofs.heap_pointer.HeapPointer.as_mut.Code as code

module _ (R : RattleType) (b o rb ro : ℕ) where
  -- all of the pointer but its value
  abbrev Rest : Fml
  Rest = fsep (may_free (bare (lone R.mir)) (block_ptr b o)) (cell_at full_share (Row R).mir (alone (vptr b o) ∷ []) rb ro)

  module _ {M : Type 1} {𝓤 : Ura M} (𝓛 : Logic 𝓤) (h : HeapPointer R.Denot) where
    back : h.at ≡ block_ptr b o → (w : R.Denot)
        → ent 𝓤 (sep 𝓤 (sem 𝓛 ((mem R).own_at w b o)) (sem 𝓛 Rest)) (sem 𝓛 ((mem (Row R)).own_at (record h { value = Some w }) rb ro))
    unfolding part_of
    back at_b w =
        let all : Ptr → SProp 𝓤 = λ p. sem 𝓛 ((mem (Row R)).own_at (record { at = p; value = Some w }) rb ro) in
        subst (λ (p : Ptr). ent 𝓤 (sep 𝓤 (sem 𝓛 ((mem R).own_at w b o)) (sem 𝓛 Rest)) (all p)) (sym at_b)
        (qed 𝓛 (‵ (part_at R full_share w b o) ∷ ‵ Rest ∷ []) ∵ move ! (1 ∷ []) $ fsplit ! $ move ! (2 ∷ 0 ∷ []) $ fjoin ! $ raw_in R ! b o w $ move !
        (1 ∷ 0 ∷ []) $ fjoin ! $
        fpack ! (List Val) (λ us. fsep (cell_at full_share (Row R).mir us rb ro) ((Row R).own_val (record { at = block_ptr b o; value = Some w }) us))
        (alone (vptr b o) ∷ []) $ done !)

pub as_mut_spec : {M : Type 1} → statement M
as_mut_spec 𝓤 𝓛 𝓜 𝓡 wired T L =
    let H = 𝓛.H in let R : RattleType = param 0 T in let P : RattleType = Row R in let En = f.ended T in let c = f.clauses T 𝓛 𝓜.mem 𝓡.returns in let 𝓣 =
    tables 𝓤 H 𝓜 𝓡 𝓡.env in let inst = layouts (a_type ∷ []) (T, tt) in let fn = inst_fn inst code.function in
    let stayed : Stays En.signature.params En.kept = (stay_dropped (mut_ref_to (0 ∷ []) tt (plain (λ _. P))) no, tt) in
    proved 𝓛 En stayed c 𝓜 𝓡 (Goes-spent_ref 𝓛 2 (0 ∷ []) tt (plain (λ _. P)), tt)
    (f.Key.name inst) fn (code.unfolded 𝓤 H 𝓜 𝓡 wired (T, tt)) (λ κs. (mut_vals, tt)) (λ κs. (mut_Tells (named 0) κs.0 P, tt)) (λ κs qs bounds a g are.
    let h = a.0.now in let γ = a.0.ghost_name in let rb = a.0.ref_ptr.0 in let ro = a.0.ref_ptr.1 in
    let y : (walk_of 𝓛 En stayed c).Ghost = ((κs, qs, bounds, a, (vptr rb ro ∷ [], tt)), g) in
    let Post : Val → SProp 𝓤 = (walk_of 𝓛 En stayed c).post y in let F : R.Denot → HeapPointer R.Denot = λ w. record h { value = Some w } in
    qed 𝓛 (((‵ (flft κs.0 qs.0) ⊛ (‵ (flft κs.1.0 qs.1.0) ⊛ ‵ ftrue)) ⊛ ‵ (owns (types_at En.signature.params κs) a (vptr rb ro ∷ [], tt))) ∷ raw
    (fact 𝓤 (κs.1.0 ⊑ T.lives)) ∷ raw (fact 𝓤 (IsSome h.value)) ∷ []) ∵
    move ! (2 ∷ []) $ heard ! (IsSome h.value) (λ is. move ! (1 ∷ []) $ drop ! $
    let x = (some_of h.value is).0 in let some_is : h.value ≡ Some x = (some_of h.value is).1 in
    split ! $ enter ! 𝓣.C 𝓣.Λ fn (vptr rb ro ∷ []) Post $ alloc_all ! (λ l. pass_all ! refl ((tt, tt), tt) $
    let Ev : Env 𝓤 H = env fn.locals l in
    move ! (1 ∷ []) $ fsplit ! $ fsplit3 ! $ drop ! $ move ! (3 ∷ []) $ split ! $ move ! (2 ∷ 3 ∷ 0 ∷ []) $
    opens ! tt P {h = h} rb ro
    (λ vs. move ! (1 ∷ []) $ raw_out R ! h.at h.value x some_is vs
    (λ b o at_b ws. fsplit ! $ rewrite ! 2 (λ (us : List Val). ‵ (cell_at full_share P.mir us rb ro)) ws refl $
    first ! $ blocks ! $
    sets_last ! (addr ! (through ! refl (fld ! refl (hop ! (look_in ! 2 (sub ! 0 refl (whole !))) (stop !))))) refl (tt, tt) $
    exec ! 𝓣.C 𝓣.Λ Ev (after 1 fn.body) (at_ret Ev Post) $ sets ! (of_opd ! (get ! refl)) refl (tt, tt) $
    let rest : SProp 𝓤 = sem 𝓛 (Rest R b o rb ro) in let ends = back R b o rb ro 𝓛 h at_b in let lent : GName → MutBor R.Denot =
    λ γ'. record { ref_ptr = (b, o); ghost_name = γ'; now = x } in
    move ! (1 ∷ 2 ∷ []) $ fjoin ! $ move ! (2 ∷ 3 ∷ 4 ∷ 1 ∷ 0 ∷ []) $ group ! 5 $
    use1 𝓛 (later (some (λ (γ' : GName). ‵ ((MutRef (named 0) κs.0 R).own_val (lent γ') (vptr b o ∷ [])) ⊛ ‵ (flft κs.0 qs.0) ⊛ ‵ (follows P R γ γ' F))))
    (lends_Part 𝓛 P R F (named 0) κs.0 qs.0 rb ro b o γ rest ends (P.coded.code h) (P.coded.code h) x) $ await ! tt $ pick ! (λ γ'. split3 ! $
    -- [the reference; the token; what follows it; the other token]
    returns ! (look_at ! 0 refl) $ free_all ! refl $ keep ! (0 ∷ 1 ∷ 2 ∷ 3 ∷ []) $
    suffices ! _ (ends_at 𝓛 En stayed c y (vptr b o) (lent γ') (tt, tt) (tt, tt)) $ nothing ! $ nothing ! $ fjoin ! $ join ! $ move ! (1 ∷ 3 ∷ []) $ join ! $
    join ! $
    frame ! $ says ! (sym some_is) $ done !))))))
