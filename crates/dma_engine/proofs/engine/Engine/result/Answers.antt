use Rattle.std.proofs.Common.{◌≡◌, ◌∙◌, ◌<◌, ◌≤◌, ◌-◌, ℕ, List, Option, Some, None, false, true, ap, sym, refl, length}
use Rattle.std.specs.Prelude.{slice_get, slice_index_or, nat_le, if◌then◌else◌}
use Rattle.std.specs.Option.{MatchOption, option_copied}
use Rattle.std.proofs.lemmas.{Bool.lt-leb, Bool.le-leb, Option.slice_get_past, Option.slice_get_read}
use denote.Bor.{Bor}
use Rattle.dma_engine.specs.{Answer.result_of, View.object_of, View.EngineState, declared.outcome.Outcome.Outcome}
use Rattle.dma_engine.specs.{inner.Inside.parts_of, inner.Holds.view_of, inner.Holds.state_in}
use Rattle.dma_engine.proofs.{Queues.HoldsAt, Queues.holds_at}
use Rattle.dma_engine.proofs.engine.Engine.result.Goals as goal

copied_at : (xs : List Outcome) (i : ℕ) (o : Option (Bor Outcome))
    → MatchOption o (length xs ≤ i) (λ x. (i < length xs) × ((d : Outcome) → x.now ≡ slice_index_or xs i d)) → option_copied o ≡ slice_get xs i
copied_at xs i None h = sym (slice_get_past xs i h)
copied_at xs i (Some x) h = sym (slice_get_read xs (length xs) i x.now refl h.0 (h.1 x.now))

-- the outcome that is known of a cookie, by how many are forgotten, and that of a forgotten one
late : (cookie a b : ℕ) (xs ys : List Outcome) → a ≡ b → xs ≡ ys → a < cookie
    → slice_get xs (cookie - a - 1) ≡ (if nat_le cookie b then None else slice_get ys (cookie - b - 1))
late cookie a b xs ys f o less = let e : nat_le cookie a ≡ false = lt-leb _ _ less in rw (← f, ← o, e) refl

early : (cookie a b : ℕ) (ys : List Outcome) → a ≡ b → cookie ≤ a → None ≡ (if nat_le cookie b then None else slice_get ys (cookie - b - 1))
early cookie a b ys f few = let e : nat_le cookie a ≡ true = le-leb _ _ few in rw (← f, e) refl

pub returns : goal.returns
returns c =
    let p = parts_of c.self.inside in
    let i = c.from.result in
    let q = c.in_ok-queue.queue.now in
    let s = state_in p i in
    let found = rw c.deref.ensures.value at c.in_ok-queue.ensures.lookup in
    let at : HoldsAt p i q = holds_at p c.self.invariant i q found.3.0 found.1 in
    let k = c.args.cookie - q.forgotten - 1 in
    c.copied.ensures ∙ copied_at c.outcomes.result.now k c.get-2.result c.get-2.ensures.lookup.3 ∙ ap (λ l. slice_get l k) c.outcomes.ensures
    ∙ late c.args.cookie q.forgotten s.forgotten q.outcomes.items s.outcomes at.tied.forgotten at.tied.outcomes c.if-cookie-queue.false
    ∙ ap (λ n. result_of (object_of (view_of p)) n c.args.cookie) c.from.ensures
    ∙ ap (λ (e : EngineState). result_of (object_of e.view) c.args.ch c.args.cookie) c.self.view_is

pub returns-then-cookie-queue : goal.returns-then-cookie-queue
returns-then-cookie-queue c =
    let p = parts_of c.self.inside in
    let i = c.from.result in
    let q = c.in_ok-queue.queue.now in
    let s = state_in p i in
    let found = rw c.deref.ensures.value at c.in_ok-queue.ensures.lookup in
    let at : HoldsAt p i q = holds_at p c.self.invariant i q found.3.0 found.1 in
    early c.args.cookie q.forgotten s.forgotten s.outcomes at.tied.forgotten c.if-cookie-queue.true
    ∙ ap (λ n. result_of (object_of (view_of p)) n c.args.cookie) c.from.ensures
    ∙ ap (λ (e : EngineState). result_of (object_of e.view) c.args.ch c.args.cookie) c.self.view_is
