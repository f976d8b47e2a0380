use Rattle.std.proofs.Common.{◌≡◌, ◌∙◌, ◌<◌, ◌≤◌, ◌++◌, ℕ, List, [], ◌∷◌, add-one, ap, append-nil, arith, drop, get_or, inl, inr, length, subst, suc, sym, take}
use Rattle.std.proofs.Math.Seq.{take-add, take-suc}
use Rattle.std.proofs.lemmas.List.{get_or-set_other, get_or-set_same, length-set, length-take, take_more_set}
use Rattle.std.proofs.{lemmas.Grind.common_steps, lemmas.Bool.cases_eq, lemmas.List.Concat.flat_map-append, lemmas.List.Elements.All-set}
use Rattle.std.specs.{Prelude.slice_set, List.flat_map}
use Rattle.dma_device.specs.{Snapshot.IsThreadValue, Snapshot.saved_thread, Thread.IsOn, Thread.IsSound, declared.thread.Thread.Thread}
use Rattle.dma_device.proofs.SavedDevices.{part_at, tail_is}
use Rattle.dma_device.proofs.save.threads.restore_threads.Goals as goal

-- what is left to read begins with the save of thread n
here : (ts threads : List Thread) (n at : ℕ) (bytes : List ℕ) (x : Thread) → n < length ts → at ≤ length bytes
    → take at bytes ≡ flat_map saved_thread (take n threads) → take n threads ≡ take n ts → bytes ≡ flat_map saved_thread ts
    → drop at bytes ≡ saved_thread (get_or ts n x) ++ flat_map saved_thread (drop (suc n) ts)
here ts threads n at bytes x less fits before same is = grind (arith, common_steps, length-take, part_at)

pub loop-n-preserved : goal.loop-n-preserved
loop-n-preserved c =
    let bytes = c.args.bytes.now in
    let threads = c.loop-n.threads in
    let n = c.loop-n.n in
    let at = c.loop-n.at in
    let len = c.in-Some.len in
    let new = c.restore.new.self in
    let set = take_more_set threads n new (omega arith) in
    record {
      at = omega (arith, c.in-Some.ensures.long, ap length (tail_is at bytes), c.loop-n.invariant.at);
      bytes = simp (take-add at len bytes, set, flat_map-append, append-nil, c.loop-n.invariant.bytes, rw (tail_is at bytes) at c.in-Some.ensures.found);
      values = λ k d below. elim (cases_eq k n) [
        | inl here ↦
            let there : get_or (slice_set threads n new) k d ≡ new = ap (λ (j : ℕ). get_or (slice_set threads n new) j d) here
            ∙ get_or-set_same threads n new d (omega arith) in
            subst (IsThreadValue c.args.config.events) (sym there) c.in-Some.ensures.value
        | inr other ↦
            subst (IsThreadValue c.args.config.events) (sym (get_or-set_other threads n k new d other)) (c.loop-n.invariant.values k d (omega arith))
      ];
      sound = All-set (IsSound c.args.config.events) threads n new c.in-Some.ensures.sound c.loop-n.invariant.sound;
      on = All-set (IsOn c.args.config.bus) threads n new c.in-Some.ensures.on c.loop-n.invariant.on;
      all = λ ts count values on is.
          let same : length ts ≡ length threads = count ∙ length-set threads n new in
          let less : n < length ts = omega arith in
          let before = c.loop-n.invariant.all ts same values on is in
          let behind = here ts threads n at bytes new less c.loop-n.invariant.at c.loop-n.invariant.bytes before is in
          let w = c.in-Some.ensures.all (get_or ts n new) (flat_map saved_thread (drop (suc n) ts)) (values n new less) (on n new less)
          (tail_is at bytes ∙ behind) in
          set ∙ ap (λ (us : List Thread). us ++ new ∷ []) before ∙ ap (λ (u : Thread). take n ts ++ u ∷ []) w.1
          ∙ sym (take-suc ts n new less) ∙ ap (λ (m : ℕ). take m ts) (sym (add-one n));
    }

pub returns-in_default-clause-all : goal.returns-in_default-clause-all
returns-in_default-clause-all c ts count values on is =
    let threads = c.loop-n.threads in
    let n = c.loop-n.n in
    let new = c.restore.new.self in
    let same : length ts ≡ length threads = omega arith in
    let less : n < length ts = omega arith in
    let before = c.loop-n.invariant.all ts same values on is in
    let behind = here ts threads n c.loop-n.at c.args.bytes.now new less c.loop-n.invariant.at c.loop-n.invariant.bytes before is in
    let w = c.in_default.ensures.all (get_or ts n new) (flat_map saved_thread (drop (suc n) ts)) (values n new less) (on n new less)
    (tail_is c.loop-n.at c.args.bytes.now ∙ behind) in
    absurd (cc w.0)

pub returns-in_default-clause-sound : goal.returns-in_default-clause-sound
returns-in_default-clause-sound c =
    All-set (IsSound c.args.config.events) c.loop-n.threads c.loop-n.n c.restore.new.self c.in_default.ensures.sound c.loop-n.invariant.sound

pub returns-clause-values : goal.returns-clause-values
returns-clause-values c = λ _ k d less. c.loop-n.invariant.values k d (omega arith)

pub returns-clause-ok : goal.returns-clause-ok
returns-clause-ok c = grind (arith, common_steps)

pub returns-clause-sound : goal.returns-clause-sound
returns-clause-sound c = c.loop-n.invariant.sound

pub returns-clause-on : goal.returns-clause-on
returns-clause-on c = c.loop-n.invariant.on

pub returns-clause-all : goal.returns-clause-all
returns-clause-all c = grind (arith, common_steps)
