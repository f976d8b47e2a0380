-- The turns of a step that executes no instruction.
use Rattle.std.proofs.Common.{◌≡◌, ℕ, ◌<◌, ◌≤◌, true, false, refl, ap, sym, ◌∙◌}
use Rattle.std.specs.Prelude.{nat_le, is_some, Ok, Err}
use Rattle.std.proofs.lemmas.Bool.{le-leb, lt-leb}
use Rattle.dma_engine.specs.declared.{turn.Turn.TheVariants.Halted, turn.Turn.TheVariants.Paused, fault.EngineFault.TheVariants.NoChannel, queue.Queue.Queue}
use Rattle.dma_engine.specs.{Turn.turn, View.View, View.channels, View.state_at, View.schedule_at, inner.Due.MayStart, inner.Holds.Parts, inner.Holds.view_of}
use Rattle.dma_engine.proofs.Queues.{HoldsAt, taken_none}

pub gone_turn : (v : View) (ch : ℕ) → channels v ≤ ch → turn v ch ≡ (Err NoChannel, v)
gone_turn v ch h = let e : nat_le (channels v) ch ≡ true = le-leb _ _ h in rw e refl

halted_turn : (v : View) (ch : ℕ) → ch < channels v → (state_at v ch).halted ≡ true → turn v ch ≡ (Ok Halted, v)
halted_turn v ch h halted = let e : nat_le (channels v) ch ≡ false = lt-leb _ _ h in rw (e, halted) refl

paused_turn : (v : View) (ch : ℕ) → ch < channels v → (state_at v ch).halted ≡ false → (schedule_at v ch).paused ≡ true → turn v ch ≡ (Ok Paused, v)
paused_turn v ch h goes paused = let e : nat_le (channels v) ch ≡ false = lt-leb _ _ h in rw (e, goes, paused) refl

pub halted_at : {p : Parts} {ch : ℕ} {q : Queue} → HoldsAt p ch q → q.halted ≡ true → turn (view_of p) ch ≡ (Ok Halted, view_of p)
halted_at {p} {ch} at halted = halted_turn (view_of p) ch at.there (sym at.tied.halted ∙ halted)

pub paused_at : {p : Parts} {ch : ℕ} {q : Queue} → HoldsAt p ch q → q.halted ≡ false → q.paused ≡ true → turn (view_of p) ch ≡ (Ok Paused, view_of p)
paused_at {p} {ch} at goes paused = paused_turn (view_of p) ch at.there (sym at.tied.halted ∙ goes) (ap (λ x. x.paused) at.schedule_is ∙ paused)

pub may_start : {p : Parts} {ch : ℕ} {q : Queue} → HoldsAt p ch q → q.halted ≡ false → q.paused ≡ false → is_some q.channel.program ≡ false
    → MayStart (view_of p) ch
may_start {q = q} at goes on unloaded =
    (at.there, sym at.tied.halted ∙ goes, ap (λ x. x.paused) at.schedule_is ∙ on, ap (λ x. x.taken) at.schedule_is ∙ taken_none q.channel unloaded)
