-- Steps that keep the rule of what is published.
use Rattle.std.proofs.Common.{◌≡◌, ◌≢◌, ℕ, Option, Some, None, List, [], ◌∷◌, set, refl, sym, ◌∙◌, subst, ⊎_elim}
use mathlib.Core.Option.{some, some-ne-none}
use lib.ListN.{get_elem?}
use base.Growing.{prefix_refl, prefix_trans}
use Rattle.crossbeam_utils.specs.Register.{Admits, TurnsAt, Forks, Merges}
use Rattle.atomic_table.proofs.Lists.{at_set, at_snoc}
use Rattle.dma_engine.specs.Ticks.{Tick}
use Rattle.dma_work.specs.inner.Published.{PublishedList, IsSeen, Keeps, IsLaterList, Sees, list_with}

pub later_self : (p : PublishedList) → IsLaterList p p
later_self p = record { base = refl; log = refl; ticks = prefix_refl p.ticks }

-- a list with one more tick is a later one
pub later_with : (p : PublishedList) (t : Tick) → IsLaterList p (list_with p t)
later_with p t = record { base = refl; log = refl; ticks = (t ∷ [], refl) }

pub later_trans : (p q r : PublishedList) → IsLaterList p q → IsLaterList q r → IsLaterList p r
later_trans p q r a b = record { base = b.base ∙ a.base; log = b.log ∙ a.log; ticks = prefix_trans p.ticks q.ticks r.ticks a.ticks b.ticks }

seen_later : (x y : PublishedList) (view : Option PublishedList) → IsSeen x view → IsLaterList x y → IsSeen y view
seen_later x y None h l = tt
seen_later x y (Some p) h l = later_trans p x y h l

-- one view is replaced
set_keeps : (x : PublishedList) (views : List (Option PublishedList)) (seat : ℕ) (view : Option PublishedList) → Keeps x views → IsSeen x view → Keeps x (set views seat view)
set_keeps x views seat view h ok j u e =
    ⊎_elim (λ (t : (j ≡ seat) × (view ≡ u)). subst (IsSeen x) t.1 ok) (λ (t : (j ≢ seat) × (get_elem? views j ≡ some u)). h j u t.1) (at_set views seat j view u e)

-- a new reader may come at any time
pub admits : Admits Keeps None
admits x views h seat view at = ⊎_elim (h seat view) (λ (e : None ≡ view). subst (IsSeen x) e tt) (at_snoc views None view seat at)

-- a later list is published, or a list is looked at
pub grows : (seat : ℕ) (view : Option PublishedList) (x y : PublishedList) → IsLaterList x y → TurnsAt Keeps seat view x y Sees
grows seat view x y l views h at = (
  Some y,
  set_keeps y views seat (Some y) (λ j u e. seen_later x y u (h j u e) l) (later_self y),
  (seen_later x y view (h seat view at) l, refl),
)

-- the first list, which the writer has not seen
pub begins : (p : PublishedList) → Keeps p (None ∷ [])
begins p = admits p [] (λ j u e. absurd (some-ne-none u (sym e)))

-- the writer shares what it has seen
pub forks : (seat : ℕ) (view : Option PublishedList) → Forks Keeps seat view view view
forks seat view x views h at j u e =
    ⊎_elim (set_keeps x views seat view h (h seat view at) j u) (λ (same : view ≡ u). subst (IsSeen x) same (h seat view at)) (at_snoc (set views seat view) view u j e)

-- and a reader takes it over
pub merges : (seat : ℕ) (view : Option PublishedList) (other : ℕ) (seen : Option PublishedList) → Merges Keeps seat view other seen seen None
merges seat view other seen x views h at apart there =
    let ok : IsSeen x seen = ⊎_elim (λ (t : (other ≡ seat) × (seen ≡ seen)). absurd (apart t.0)) (λ (t : (other ≢ seat) × (get_elem? views other ≡ some seen)). h other seen t.1) (at_set views seat other seen seen there) in
    set_keeps x (set views seat seen) other None (set_keeps x views seat seen h ok) tt
