-- Beginnings of lists.
use Rattle.std.proofs.Common.{◌≡◌, ◌+◌, ◌≤◌, List, [], ◌∷◌, ◌++◌, length, take, drop, refl, ap, sym, ◌∙◌, arith, length-append}
use Rattle.std.proofs.{Math.Seq.take-append_seam, lemmas.List.take-append-drop, lemmas.List.take-append-le}
use Rattle.std.specs.List.{slice_get}
use mathlib.Core.List.{IsPrefix}
use base.Growing.{prefix_anti, prefix_refl}
use Rattle.dma_engine.specs.Ticks.{Tick}
use Rattle.dma_engine.proofs.Queues.{slice_get_push_last}
use Rattle.dma_work.specs.inner.TickForms.{ticks_of_option}

-- of two beginnings of one list the shorter begins the longer
pub prefix_shorter : {A : Type 0} (xs ys zs : List A) → IsPrefix xs zs → IsPrefix ys zs → length xs ≤ length ys → IsPrefix xs ys
prefix_shorter xs ys zs p q le =
    let front : xs ≡ take (length xs) ys =
    sym (take-append_seam xs p.0) ∙ ap (take (length xs)) (p.1 ∙ sym q.1) ∙ take-append-le (length xs) ys q.0 le in
    (drop (length xs) ys, ap (λ l. l ++ drop (length xs) ys) front ∙ take-append-drop (length xs) ys)

-- a beginning as long as the whole is the whole
pub prefix_whole : {A : Type 0} (xs ys : List A) → IsPrefix xs ys → length ys ≤ length xs → xs ≡ ys
prefix_whole xs ys p le = prefix_anti xs ys p (prefix_shorter ys xs ys (prefix_refl ys) p le)

-- a list that has one more tick than one of its beginnings
pub one_longer : (xs ys : List Tick) → IsPrefix xs ys → length ys ≡ length xs + 1 → xs ++ ticks_of_option (slice_get ys (length xs)) ≡ ys
one_longer xs ys (t ∷ [], is) n =
    ap (λ o. xs ++ ticks_of_option o) (ap (λ l. slice_get l (length xs)) (sym is) ∙ slice_get_push_last xs t (length xs) refl) ∙ is
one_longer xs ys ([], is) n = absurd (omega (arith, n, ap length is, length-append xs []))
one_longer xs ys (t ∷ u ∷ more, is) n = absurd (omega (arith, n, ap length is, length-append xs (t ∷ u ∷ more)))
