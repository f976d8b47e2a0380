-- The waveform of a run, step after step.
use Rattle.std.proofs.Common.{◌≡◌, ℕ, suc, ◌+◌, Bool, List, [], ◌++◌, Option, refl, sym, ap, arith, append_assoc, append-nil}
use Rattle.std.specs.Prelude.{if◌then◌else◌}
use Rattle.dma_mem.specs.Marking.{MarkList}
use Rattle.dma_chan.specs.{declared.turn.ChanTurn.ChanTurn, Stepping.Machine, Stepping.after_steps}
use Rattle.dma_trace.specs.{declared.options.TraceOptions.TraceOptions, declared.wave.Moment.Moment, Traced.if_wave, Traced.last_answer}
use Rattle.dma_trace.specs.{Traced.moment_in, Traced.waveform, Wave.change_text, Wave.first_text, Wave.last_text, inner.Running.Waves}

by_flag : (b : Bool) (x y : List ℕ) → (if b then x else []) ++ (if b then y else []) ≡ (if b then x ++ y else [])
by_flag x0 x1 x2 = grind (arith, refl)

-- one more part
more : (o : TraceOptions) (old mid new x y : List ℕ) → mid ≡ old ++ if_wave o x → new ≡ mid ++ if_wave o y → new ≡ old ++ if_wave o (x ++ y)
more o old mid new x y e f = grind (arith, ap, append_assoc, by_flag)

-- before the first step
pub wave_begins : (o : TraceOptions) (marks : MarkList) (s : Machine) (m : Moment) (old new : List ℕ) → m ≡ moment_in 0 s
    → new ≡ old ++ if_wave o (first_text m) → Waves o marks s 0 old new
wave_begins o marks s m old new at e = grind (arith, ap, sym, append-nil)

-- after one more step
pub wave_on : (o : TraceOptions) (marks : MarkList) (s : Machine) (n : ℕ) (m k : Moment) (old mid new : List ℕ) → Waves o marks s n old mid
    → m ≡ moment_in n (after_steps marks s n) → k ≡ moment_in (n + 1) (after_steps marks s (n + 1)) → new ≡ mid ++ if_wave o (change_text m k)
    → Waves o marks s (n + 1) old new
wave_on o marks s n m k old mid new w at to e = grind (arith, suc, arith, ap, more, append_assoc, sym)

-- the whole
pub wave_ends : (o : TraceOptions) (marks : MarkList) (s : Machine) (n : ℕ) (m : Moment) (answer : Option ChanTurn) (old mid new : List ℕ)
    → Waves o marks s n old mid → m ≡ moment_in n (after_steps marks s n) → answer ≡ last_answer marks s o.limit n → new ≡ mid ++ if_wave o (last_text m answer)
    → new ≡ old ++ if_wave o (waveform marks s n (last_answer marks s o.limit n))
wave_ends o marks s n m answer old mid new w at is e = grind (arith, more, ap)
