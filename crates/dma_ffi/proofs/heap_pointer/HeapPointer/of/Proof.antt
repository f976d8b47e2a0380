-- `of` splits the box.
use Rattle.std.proofs.Common.{◌≡◌, List, [], ◌∷◌, ◌++◌, refl, sym, ap, ◌∙◌, subst}
use Rattle.std.proofs.{alloc.Calls.Goes-blank, alloc.Calls.handle_tells, impls.GlobalAllocator.TheImpl.Met.passed, BoxSteps.Steps.box_out}
use Rattle.std.proofs.{BoxSteps.Steps.box_in, raw_atomic.Walks.proved_at, raw_atomic.Walks.leaves, boxed.Box.into_raw_with_allocator.Met.met}
use Rattle.std.specs.{Box.Ownership.box_owns, Prelude.Some}
use Rattle.dma_ffi.proofs.{Values.alone, Values.alone_typed, Values.box_good, Values.raw_in, heap_pointer.HeapPointer.of.Statement.statement}
use Rattle.dma_ffi.specs.contracts.heap_pointer.HeapPointer.of.{ended, clauses}
use mir.Syntax.{a_type, dcons, dnil}
use mir.Raw.{raw as bare}
use mir.Val.{Val, vptr, vstruct, of_list}
use mir.MapTy.{inst_fn}
use base.Logic.{SProp, ent, emp, never, id⊢, fst∗}
use base.Fml.{ftrue, fsep, flft}
use prog.Wp.{WpFn}
use types.Logic.{sem}
use types.Kit.{‵, raw, ◌⊛◌, some, later, ◌$◌, ◌∵◌, !, qed, by, move, keep, drop, split, split3, join, fsplit, fjoin, fpick, pick, suffices, use0, use1, await, rewrite, feq_l}
use types.Run.{stop, fld, of_opd, no_more, and_then, returns, enter}
use types.ByLocal.{alloc_all, pass_all, free_all, look_at, get, get_in, sets, lands_as}
use types.Part.{agg, sub, whole}
use contract.Monad.{fact, fact_i}
use contract.Running.{tables}
use denote.Exit.{no}
use denote.RattleType.{RattleType, owns}
use denote.Signature.{types_at, plain}
use denote.Builtin.{RawPtr}
use denote.RawPtr.{Ptr, block_ptr, null_ptr, ptr_val, in_a_block}
use denote.Steps.{nothing, only, heard}
use denote.Param.{param, layout, bounded}
use denote.Struct.Tuple.{Tuple}
use denote.Triple.Spec.{triple_of}
use denote.Triple.Call.{calls_at}
use denote.Triple.Walked.{Stays, stay_dropped, walk_of}
use denote.Triple.Table.{framed}
use Rattle.std.specs.contracts.alloc.Global.{the_row as GlobalRow}
use Rattle.std.specs.contracts.impls.GlobalAllocator.TheImpl.{ghosts as g, dict as d}
use denote.Param.NoDrop.{glues}
use base.Fraction.{full_share}
use types.Tokens.{lft_new}
use contract.BorrowLft.{◌⊑◌, ⊑_static}
use Rattle.std.specs.contracts.boxed.Box.{the_row as BoxRow}
use Rattle.dma_ffi.proofs.Heap.{heap_row as A, heap_laws as LA, heap_drop as dd}
use Rattle.std.proofs.BoxSteps.Form as box
use Rattle.std.specs.contracts.boxed.Box.into_raw_with_allocator as callee
use Rattle.dma_ffi.specs.contracts.heap_pointer.HeapPointer.of.Key.{name as #self}
use Rattle.dma_ffi.proofs.heap_pointer.HeapPointer.of.Code as code

pub of_spec : {M : Type 1} → statement M
unfolding Rattle.dma_ffi.proofs.Destruct++none.drop.Code.code
of_spec {M} 𝓤 𝓛 𝓜 𝓡 wired T L dx glue =
    let H = 𝓛.H in let 𝓣 = tables 𝓤 H 𝓜 𝓡 𝓡.env in let R : RattleType = param 0 T in let En = ended T dx in let c = clauses T dx 𝓛 𝓜.mem 𝓡.returns in
    let E : box.Bx = record { row = T; laws = L; al = record { row = A; laws = LA; g = g; d = d; drops = dd } } in let inst =
    bounded (a_type ∷ []) (T, tt) (dcons dx dnil) in let fn = inst_fn inst code.function in
    let allocator = passed 𝓡.env (code.calls-std_heap::GlobalAllocator::allocate 𝓡.env wired) (code.calls-std_heap::GlobalAllocator::deallocate 𝓡.env wired)
    (code.calls-std_heap::GlobalAllocator::grow 𝓡.env wired) (code.calls-std_heap::GlobalAllocator::shrink 𝓡.env wired) M 𝓤 𝓛 𝓜 𝓡 in
    let glued = glues "dma_ffi::Destruct++none::drop" 𝓡.env (code.calls-dma_ffi::Destruct++none::drop 𝓡.env wired) A LA M 𝓤 𝓛 𝓜 𝓡 in
    let hs : Stays En.signature.params En.kept = (stay_dropped (plain (λ _. BoxRow R GlobalRow g)) no, tt) in
    proved_at 𝓛 En hs c 𝓜 𝓡 (Goes-blank 𝓛 1 (plain (λ _. BoxRow R GlobalRow g)) no (λ κs x f. tt), tt) (#self inst) fn (code.unfolded 𝓤 H 𝓜 𝓡 wired (T, tt) dx)
    (λ z are.
    let κs = z.0.0 in let qs = z.0.1 in let v = z.0.3.0 in let a = v.alloc in let Post : Val → SProp 𝓤 = (walk_of 𝓛 En hs c).post z in let Run : List Val
    → SProp 𝓤 = λ ws. WpFn 𝓤 H 𝓣.C 𝓣.Λ fn ws Post in
    qed 𝓛 (((‵ (flft κs.0 qs.0) ⊛ ‵ ftrue) ⊛ ‵ (owns (types_at En.signature.params κs) z.0.3 z.0.4)) ∷ raw (fact 𝓤 (κs.0 ⊑ T.lives)) ∷ ‵ ftrue ∷ []) ∵ split ! $
    move ! (1 ∷ []) $ fsplit ! $ use1 𝓛 (‵ ((box.B E).own_val v z.0.4.0)) (id⊢ 𝓤 _) $ box_out E ! v z.0.4.0
    (λ b o h e ws fits. box_in E ! v b o v.value e refl $
    let w : Val = box.word E h b o in let typed = box_good b o h fits in
    suffices ! (Run (w ∷ [])) (subst (λ (us : List Val). ent 𝓤 (Run (w ∷ [])) (Run us)) (sym (λ i. ws i ++ [])) (id⊢ 𝓤 (Run (w ∷ [])))) $
    enter ! 𝓣.C 𝓣.Λ fn (w ∷ []) Post $ alloc_all ! (λ l. pass_all ! refl (typed, tt) $ sets ! (of_opd ! (get ! refl)) refl typed $
    let k = triple_of 𝓛 (callee.signature T A g d dd dx) (callee.spec T A g d dd dx 𝓛 𝓜.mem 𝓡.returns) in let Pair = Tuple (RawPtr ∷ param 1 A ∷ []) in
    lft_new ! tt (λ α. let y : k.Ghost = (((κs.0, (α ∷ [], tt)), (qs.0, (full_share, tt)), tt, (v, tt), (w ∷ [], tt)), tt) in
    let toks = ‵ (flft κs.0 qs.0) ⊛ (‵ (flft (α ∷ []) full_share) ⊛ ‵ ftrue) in
    use0 𝓛 (raw (fact 𝓤 ((α ∷ []) ⊑ A.lives))) (fact_i 𝓤 ((α ∷ []) ⊑ A.lives) (emp 𝓤) (⊑_static (α ∷ []))) $ nothing ! $ move ! (1 ∷ 0 ∷ []) $ join ! $ move !
    (5 ∷ 0 ∷ []) $ join ! $
    move ! (4 ∷ []) $ split ! $ move ! (3 ∷ 1 ∷ []) $ join ! $ move ! (1 ∷ 0 ∷ []) $ join ! $ move ! (2 ∷ 3 ∷ []) $ fjoin ! $ move ! (1 ∷ 0 ∷ []) $ join ! $
    join ! $ use1 𝓛 (raw (k.pre y)) (id⊢ 𝓤 _) $
    calls_at ! (framed 𝓤 H 𝓜 𝓣) k (met 𝓤 𝓛 𝓜 𝓡 (code.calls-std_alloc::boxed::Box::into_raw_with_allocator 𝓡.env wired) T A L LA g d dd dx allocator glued glue)
    y (and_then ! (get ! refl) (no_more !)) (λ u.
    use1 𝓛 (later (some (λ (r : Ptr × A.Denot). (toks ⊛ ‵ (Pair.own_val r (u ∷ []))) ⊛ some
    (λ (_ : (Unit {0} × (Unit {0} × Unit {0})) × Unit {0}). ‵ (fsep (fsep ftrue (fsep ftrue ftrue)) ftrue) ⊛
    (raw (fact 𝓤 (r.1 ≡ a)) ⊛ ‵ (box_owns (g.dealloc_token a) R r.0 v.value)))))) (id⊢ 𝓤 _) $
    await ! tt $ pick ! (λ r. split ! $ move ! (1 ∷ []) $ pick ! (λ _. split3 ! $ drop ! $ heard ! (r.1 ≡ a) (λ ea.
    in_a_block ! r.0 (λ p. box_owns (g.dealloc_token a) R p v.value) (fst∗ 𝓤 (never 𝓤) (sem 𝓛 (g.dealloc_token a (bare (layout T)) null_ptr))) (λ b' o' e'.
    move ! (1 ∷ []) $ split ! $ move ! (1 ∷ []) $ fpick !
    (λ vss. fsplit ! $ feq_l !
    (λ eu. fsplit ! $ feq_l !
    (λ ep. fsplit ! $ rewrite ! 0 (λ (s : A.Denot). ‵ (A.own_val s vss.1.0)) ea refl $ handle_tells E.al ! a vss.1.0 (λ h' eh fits'.
    lands_as ! (ap only (eu ∙ (λ j. vstruct (of_list ((ep ∙ ap (λ (p : Ptr). ptr_val p ∷ []) e') j ++ (eh j ++ []))) ∷ []))) refl (box_good b' o' h' fits') $
    sets ! (of_opd ! (get_in ! (fld ! refl (stop !)) (sub ! 0 refl (whole !)))) refl (tt, tt) $
    sets ! (agg ! (and_then ! (get ! refl) (no_more !))) refl (alone_typed (block_ptr b' o')) $ move ! (3 ∷ []) $ raw_in R ! b' o' v.value $
    -- [the pointer; the handle; nothing; the tokens]
    move ! (3 ∷ []) $ split ! $ nothing ! $ move ! (1 ∷ 0 ∷ []) $ join ! $
    use0 𝓛 (raw (fact 𝓤 (Some v.value ≡ Some v.value))) (fact_i 𝓤 (Some v.value ≡ Some v.value) (emp 𝓤) refl) $ nothing ! $ nothing ! $ fjoin ! $
    -- [what is left of the box; the fact; the tokens; the other token; the pointer]
    returns ! (look_at ! 0 refl) $ free_all ! refl $ keep ! (2 ∷ 0 ∷ 4 ∷ 1 ∷ []) $ by !
    (leaves 𝓛 En hs c z (alone (vptr b' o')) (record { at = block_ptr b' o'; value = Some v.value }) (_, tt) (tt, tt)))))))))))))))
