-- `into_box` rebuilds the box.
use Rattle.std.proofs.Common.{◌≡◌, ◌∙◌, List, [], ◌∷◌, ◌++◌, refl, sym, ap, subst}
use Rattle.std.proofs.{alloc.Calls.Goes-blank, alloc.Calls.handle_tells, alloc.Shapes.after, cell.Inside.Good, BoxSteps.Steps.box_out, BoxSteps.Steps.box_in}
use Rattle.std.proofs.{raw_atomic.Walks.proved_at, raw_atomic.Walks.leaves, boxed.Box.from_raw.Met.met, impls.GlobalAllocator.TheImpl.Met.passed}
use Rattle.dma_ffi.proofs.Values.{alone, alone_typed, box_good, heap, raw_out, some_of}
use Rattle.dma_ffi.proofs.heap_pointer.HeapPointer.into_box.Statement.{statement}
use Rattle.dma_ffi.specs.contracts.heap_pointer.HeapPointer.into_box.{ended, clauses}
use Rattle.std.specs.Prelude.{Some, IsSome}
use mir.Syntax.{a_type, dcons, dnil}
use mir.Val.{Val, vptr}
use mir.MapTy.{inst_fn}
use base.Logic.{SProp, ent, emp, id⊢}
use base.Fml.{ftrue, flft}
use prog.Wp.{WpFn}
use types.Kit.{‵, raw, ◌⊛◌, some, later, at_ret, ◌$◌, ◌∵◌, !, qed, by, move, keep, drop, split, split3, join, fsplit3, fjoin, pick, suffices, use0, use1, await, rewrite, feq_i}
use types.Run.{stop, fld, of_opd, no_more, and_then, first, blocks, exec, returns, enter}
use types.ByLocal.{alloc_all, pass_all, free_all, look_at, get, get_in, sets, lands_last, env}
use types.Part.{sub, whole}
use contract.Monad.{fact, fact_i}
use contract.BorrowLft.{◌⊑◌, ⊑_static}
use contract.Running.{tables}
use denote.Exit.{yes, no}
use denote.RattleType.{RattleType, owns}
use denote.Signature.{types_at, plain}
use denote.RawPtr.{block_ptr}
use denote.Steps.{nothing, only, heard}
use denote.Param.{param, layout, bounded}
use denote.Triple.Clauses.{Lasts, lasts}
use denote.Triple.Spec.{triple_of}
use denote.Triple.Call.{calls_at_last}
use denote.Triple.Walked.{Stays, stay_dropped, walk_of}
use denote.Triple.Table.{framed}
use Rattle.std.proofs.BoxSteps.Form as box
use Rattle.std.specs.contracts.boxed.Box.from_raw as callee
use Rattle.dma_ffi.specs.contracts.heap_pointer.HeapPointer.into_box.Key.{name as #self}
use Rattle.dma_ffi.proofs.heap_pointer.HeapPointer.into_box.Code as code
use Rattle.std.specs.contracts.alloc.Global.{the_row as GlobalRow}
use Rattle.std.specs.contracts.impls.GlobalAllocator.TheImpl.{ghosts as g, dict as d}
use denote.Param.NoDrop.{glues}
use base.Fraction.{full_share}
use types.Tokens.{lft_new}
use Rattle.dma_ffi.proofs.Heap.{heap_row as A, heap_laws as LA, heap_drop as dd}
use Rattle.dma_ffi.specs.contracts.heap_pointer.HeapPointer.{the_row as Row}

pub into_box_spec : {M : Type 1} → statement M
unfolding Rattle.dma_ffi.proofs.Destruct++none.drop.Code.code
into_box_spec {M} 𝓤 𝓛 𝓜 𝓡 wired T L dx glue =
    let H = 𝓛.H in let 𝓣 = tables 𝓤 H 𝓜 𝓡 𝓡.env in let R : RattleType = param 0 T in let En = ended T dx in let c = clauses T dx 𝓛 𝓜.mem 𝓡.returns in
    let E : box.Bx = record { row = T; laws = L; al = record { row = A; laws = LA; g = g; d = d; drops = dd } } in let inst =
    bounded (a_type ∷ []) (T, tt) (dcons dx dnil) in let fn = inst_fn inst code.function in
    let allocator = passed 𝓡.env (code.calls-std_heap::GlobalAllocator::allocate 𝓡.env wired) (code.calls-std_heap::GlobalAllocator::deallocate 𝓡.env wired)
    (code.calls-std_heap::GlobalAllocator::grow 𝓡.env wired) (code.calls-std_heap::GlobalAllocator::shrink 𝓡.env wired) M 𝓤 𝓛 𝓜 𝓡 in
    let glued = glues "dma_ffi::Destruct++none::drop" 𝓡.env (code.calls-dma_ffi::Destruct++none::drop 𝓡.env wired) A LA M 𝓤 𝓛 𝓜 𝓡 in
    let hs : Stays En.signature.params En.kept = (stay_dropped (plain (λ _. Row R)) no, (stay_dropped (plain (λ _. GlobalRow)) yes, tt)) in
    proved_at 𝓛 En hs c 𝓜 𝓡 (Goes-blank 𝓛 1 (plain (λ _. Row R)) no (λ κs x f. tt), (Goes-blank 𝓛 1 (plain (λ _. GlobalRow)) yes (λ κs x f. tt), tt))
    (#self inst) fn (code.unfolded 𝓤 H 𝓜 𝓡 wired (T, tt) dx) (λ z are.
    let κs = z.0.0 in let qs = z.0.1 in let v = z.0.3.0 in let a = z.0.3.1.0 in let Post : Val → SProp 𝓤 = (walk_of 𝓛 En hs c).post z in let Run : List Val
    → SProp 𝓤 = λ ws. WpFn 𝓤 H 𝓣.C 𝓣.Λ fn ws Post in
    qed 𝓛 (((‵ (flft κs.0 qs.0) ⊛ ‵ ftrue) ⊛ ‵ (owns (types_at En.signature.params κs) z.0.3 z.0.4)) ∷ raw (fact 𝓤 (κs.0 ⊑ T.lives)) ∷ raw
    (fact 𝓤 (IsSome v.value)) ∷ []) ∵ move ! (2 ∷ []) $ heard ! (IsSome v.value) (λ is.
    let x = (some_of v.value is).0 in let some_is : v.value ≡ Some x = (some_of v.value is).1 in
    split ! $ move ! (1 ∷ []) $ fsplit3 ! $ raw_out R ! v.at v.value x some_is z.0.4.0
    (λ b o e ws. move ! (1 ∷ []) $ handle_tells heap ! a z.0.4.1.0 (λ h ea fits.
    let us : List Val = alone (vptr b o) ∷ h ∷ [] in let B : RattleType = box.B E in
    suffices ! (Run us) (subst (λ (rs : List Val). ent 𝓤 (Run us) (Run rs)) (sym (λ i. ws i ++ (ea i ++ []))) (id⊢ 𝓤 (Run us))) $
    enter ! 𝓣.C 𝓣.Λ fn us Post $ alloc_all ! (λ l. pass_all ! refl (alone_typed (block_ptr b o), (fits, tt)) $ let Ev = env fn.locals l in
    sets ! (of_opd ! (get_in ! (fld ! refl (stop !)) (sub ! 0 refl (whole !)))) refl (tt, tt) $
    let k = triple_of 𝓛 (callee.signature T A g d dd) (callee.spec T A g d dd 𝓛 𝓜.mem 𝓡.returns) in let Ce = callee.ended T A g d dd in
    lft_new ! tt (λ α. let y : k.Ghost = (((κs.0, (α ∷ [], tt)), (qs.0, (full_share, tt)), tt, (a, (block_ptr b o, tt)), (h ∷ [], (vptr b o ∷ [], tt))), x) in
    let toks = ‵ (flft κs.0 qs.0) ⊛ (‵ (flft (α ∷ []) full_share) ⊛ ‵ ftrue) in
    -- [the new token; the handle; the box; nothing; the token; the fact]
    move ! (4 ∷ []) $ split ! $ move ! (2 ∷ 1 ∷ []) $ join ! $ move ! (1 ∷ 0 ∷ []) $ join ! $
    use0 𝓛 (raw (fact 𝓤 ((α ∷ []) ⊑ A.lives))) (fact_i 𝓤 ((α ∷ []) ⊑ A.lives) (emp 𝓤) (⊑_static (α ∷ []))) $ move ! (0 ∷ 3 ∷ []) $ join ! $ move ! (4 ∷ 0 ∷ [])
    $ join ! $
    move ! (3 ∷ []) $ feq_i ! (List Val) (vptr b o ∷ []) (vptr b o ∷ []) refl $ fjoin ! $ move ! (3 ∷ 0 ∷ []) $ fjoin ! $ move ! (2 ∷ 0 ∷ []) $ join ! $ join !
    $ use1 𝓛 (raw (k.pre y)) (id⊢ 𝓤 _) $
    first ! $ blocks ! $ calls_at_last ! (framed 𝓤 H 𝓜 𝓣) k
    (met 𝓤 𝓛 𝓜 𝓡 (code.calls-std_alloc::boxed::Box::from_raw 𝓡.env wired) T A L LA g d dd allocator glued) y
    (and_then ! (get ! refl) (and_then ! (get ! refl) (no_more !))) (λ u.
    use1 𝓛 (later (some (λ (r : B.Denot). (toks ⊛ ‵ (B.own_val r (u ∷ []))) ⊛ some
    (λ (ls : Lasts Ce y.0.0 y.0.3). ‵ (lasts Ce y.0.0 y.0.3 ls) ⊛ (raw (fact 𝓤 (r.value ≡ x)) ⊛ raw (fact 𝓤 (r.alloc ≡ a))))))) (id⊢ 𝓤 (k.post y u)) $
    await ! tt $ pick ! (λ r. split ! $ move ! (1 ∷ []) $ pick ! (λ _. split3 ! $ drop ! $ heard ! (r.value ≡ x) (λ same. drop ! $ split ! $ move ! (1 ∷ []) $
    box_out E ! r (u ∷ []) (λ b' o' h' e' us' fits'. box_in E ! r b' o' r.value e' refl $ rewrite ! 0 (λ (xs : List Val). ‵ (B.own_val r xs)) (sym us') refl $
    let good : Good (layout B) u = subst (Good (layout B)) (sym (ap only us')) (box_good b' o' h' fits') in
    lands_last ! refl good $ exec ! 𝓣.C 𝓣.Λ Ev (after 2 fn.body) (at_ret Ev Post) $ sets ! (of_opd ! (get ! refl)) refl good $
    move ! (1 ∷ []) $ split ! $ nothing ! $ move ! (1 ∷ 0 ∷ []) $ join ! $
    use0 𝓛 (raw (fact 𝓤 (Some r.value ≡ v.value))) (fact_i 𝓤 (Some r.value ≡ v.value) (emp 𝓤) (ap (λ (w : T.Denot). Some w) same ∙ sym some_is)) $ nothing ! $
    nothing ! $ fjoin ! $ nothing ! $ fjoin ! $
    -- [what is left of the arguments; the fact; the tokens; the other token; the box]
    returns ! (look_at ! 0 refl) $ free_all ! refl $ keep ! (2 ∷ 0 ∷ 4 ∷ 1 ∷ []) $ by ! (leaves 𝓛 En hs c z u r (_, (_, tt)) (tt, (tt, tt))))))))))))))
