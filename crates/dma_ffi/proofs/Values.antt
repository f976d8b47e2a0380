-- The machine values of boxes and of the pointers that C keeps, at the type R of what they own.
use Rattle.std.proofs.Common.{◌≡◌, ℕ, List, [], ◌∷◌, ◌++◌, refl, sym, subst, lit<}
use Rattle.std.specs.{Prelude.Option, Prelude.None, Prelude.Some, Prelude.IsSome, Box.Ownership.box_owns}
use Rattle.std.proofs.{ResultValues.and_tt, alloc.Calls.Al, cell.Inside.Good}
use Rattle.dma_ffi.specs.inner.Owned.{owned, may_free}
use mathlib.Core.Bool.{true, ◌&&◌, true≢false}
use lib.Dec.{T}
use denote.Param.{layout}
use seplogic.Ra.Ura.{Ura}
use mir.Syntax.{impl, tnil, dnil, tcons, ty_ptr, ty_struct}
use mir.Raw.{raw as bare}
use mir.Val.{Val, vptr, vstruct, vcons, vnil, of_list, has_ty, WT}
use base.Fml.{Fml, fex, fsep}
use base.Logic.{never, fst∗}
use types.Logic.{Logic, sem}
use types.Kit.{Item, Goal, Seq, Step, step, ‵, ◌$◌, drop, fsplit, fjoin, fpick, fpack, rewrite, feq_i, feq_l}
use denote.RattleType.{RattleType, Valss}
use denote.Builtin.{RawPtr}
use denote.Memory.{lone}
use denote.RawPtr.{Ptr, block_ptr, null_ptr, ptr_val, in_a_block}
use denote.Steps.{nothing}
use denote.Struct.Struct.{Shape, within}
use Rattle.std.specs.contracts.alloc.Global.{the_row as Z}
use Rattle.std.proofs.alloc.Global.TheLaws.{the_row_laws as LZ}
use Rattle.std.specs.contracts.impls.GlobalAllocator.TheImpl.{ghosts as g}

abbrev pub heap : Al
heap = record { row = Z; laws = LZ; g = g; d = impl [] tnil dnil; drops = impl [] tnil dnil }

-- a struct of one field
abbrev pub alone : Val → Val
alone v = vstruct (vcons v vnil)

pub alone_typed : (p : Ptr) → Good (ty_struct [] (tcons ty_ptr tnil)) (alone (ptr_val p))
alone_typed (block_ptr b o) = (tt, (tt, tt))
alone_typed null_ptr = (tt, (record { fits = lit< tt }, tt))

-- a box is a pointer and the handle of the heap
pub box_good : (b o : ℕ) (h : Val) → Good (layout Z) h
    → T (has_ty (layout Z) h && true) × WT (vstruct (vcons (vptr b o) (vcons h vnil)))
box_good b o h fits = (and_tt (has_ty (layout Z) h) fits.0, (tt, (fits.1, tt)))

pub some_of : {A : Type 0} (w : Option A) → IsSome w → (x : A) × (w ≡ Some x)
some_of (Some x) h = (x, refl)
some_of None h = absurd (true≢false (sym h))

-- a struct of one pointer
abbrev shape : Shape
shape = record { name = []; args = []; types = []; fields = RawPtr ∷ [] }

module _ (R : RattleType) where
  -- what a struct of one pointer that owns such a value owns
  abbrev Owns : Ptr → Option R.Denot → List Val → Fml
  Owns p w vs = fsep (fex (Valss (RawPtr ∷ [])) (within shape (p, tt) vs)) (owned R p w)

  module _ {M : Type 1} {𝓤 : Ura M} {𝓛 : Logic 𝓤} {K : Type 0} {Γ : List (Item 𝓤)} {G : Goal 𝓤 𝓛.H} where
    pub raw_out : K → (at : Ptr) (value : Option R.Denot) (x : R.Denot) → value ≡ Some x → (vs : List Val)
        → ((b o : ℕ) → at ≡ block_ptr b o → vs ≡ alone (vptr b o) ∷ [] → Seq K 𝓛 (‵ (box_owns may_free R (block_ptr b o) x) ∷ Γ) G)
        → Seq K 𝓛 (‵ (Owns at value vs) ∷ Γ) G
    raw_out t at value x is vs k =
        fsplit t $ fpick t (λ vss. fsplit t $ feq_l t (λ ev. fsplit t $ feq_l t (λ ep. drop t $
        rewrite t 0 (λ (w : Option R.Denot). ‵ (owned R at w)) is refl $
        in_a_block t at (λ p. box_owns may_free R p x) (fst∗ 𝓤 (never 𝓤) (sem 𝓛 (may_free (bare (lone R.mir)) null_ptr))) (λ b o e. k b o e
        (subst (λ (p : Ptr). vs ≡ vstruct (of_list (ptr_val p ∷ [])) ∷ []) e
        (subst (λ (ps : List Val). vs ≡ vstruct (of_list (ps ++ [])) ∷ []) ep ev))))))

    pub raw_in : K → (b o : ℕ) (x : R.Denot)
        → Step K 𝓛 (‵ (Owns (block_ptr b o) (Some x) (alone (vptr b o) ∷ [])) ∷ Γ) G (‵ (box_owns may_free R (block_ptr b o) x) ∷ Γ) G
    raw_in t b o x = step (λ s. let v : Val = alone (vptr b o) in
        nothing t $ feq_i t (List Val) (vptr b o ∷ []) (vptr b o ∷ []) refl $ fjoin t $ feq_i t (List Val) (v ∷ []) (v ∷ []) refl $ fjoin t $
        fpack t (Valss (RawPtr ∷ [])) (within shape (block_ptr b o, tt) (v ∷ [])) (vptr b o ∷ [], tt) $ fjoin t $ s)

    pub raw_none : K → Step K 𝓛 (‵ (Owns null_ptr None (alone (ptr_val null_ptr) ∷ [])) ∷ Γ) G Γ G
    raw_none t = step (λ s. let v : Val = alone (ptr_val null_ptr) in
        nothing t $ nothing t $ feq_i t (List Val) (ptr_val null_ptr ∷ []) (ptr_val null_ptr ∷ []) refl $ fjoin t $ feq_i t (List Val) (v ∷ []) (v ∷ []) refl $
        fjoin t $
        fpack t (Valss (RawPtr ∷ [])) (within shape (null_ptr, tt) (v ∷ [])) (ptr_val null_ptr ∷ [], tt) $ fjoin t $ s)
