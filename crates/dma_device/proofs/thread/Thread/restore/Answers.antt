use Rattle.std.proofs.Common.{◌≡◌, ◌∙◌, ◌+◌, ◌-◌, ◌/◌, ◌%◌, ◌^◌, ◌≤◌, ◌++◌, ℕ, List, Some, ap, arith, drop, length, refl, subst, sym, take, true≢false}
use Rattle.std.proofs.lemmas.List.{length-drop, length-take-le}
use Rattle.std.proofs.{Math.Seq.take-add, lemmas.Bool.Decides.Decides-eqb, lemmas.Slice.Eq.slice_eq-Decides}
use Rattle.std.specs.Prelude.{nat_eq}
use Rattle.dma_insn.specs.ControlWord.{flag}
use Rattle.dma_chan.specs.Channel.{ChannelValue, on_bus}
use Rattle.dma_chan.specs.{declared.bus.Bus.Bus, declared.bus.Bus.TheVariants.Chip, declared.bus.BusWidth.BusWidth, Saved.saved}
use Rattle.dma_device.specs.Snapshot.{IsThreadValue, saved_thread, thread_bytes}
use Rattle.dma_device.specs.{Thread.IsOn, Thread.IsSound, declared.thread.Status.Status, declared.thread.Thread.Thread}
use Rattle.dma_device.proofs.SavedDevices.{bit_back, tail_is, thread_found, thread_length}
use Rattle.dma_device.proofs.{Sound.reset_is_on, Sound.reset_is_sound, thread.Thread.restore.Goals.After-is_possible}
use Rattle.dma_device.proofs.thread.Thread.restore.Goals as goal

-- a thread of what is read
abbrev read : ChannelValue → Status → ℕ → ℕ → ℕ → ℕ → Thread
read channel status fault word base pc = record {
  channel = channel;
  status = status;
  fault = fault;
  nonsecure = nat_eq (word / 2 ^ 21 % 2) 1;
  base = base;
  pc = pc;
}

read_is : (t : Thread) (channel : ChannelValue) (status : Status) (fault word base pc : ℕ) → channel ≡ t.channel → status ≡ t.status → fault ≡ t.fault
    → word / 2 ^ 21 % 2 ≡ flag t.nonsecure → base ≡ t.base → pc ≡ t.pc → read channel status fault word base pc ≡ t
read_is t channel status fault word base pc a b d n e f =
    let bit : nat_eq (word / 2 ^ 21 % 2) 1 ≡ t.nonsecure = ap (λ (m : ℕ). nat_eq m 1) n ∙ bit_back t.nonsecure in
    rw (a, b, d, bit, e, f) refl

-- a channel on this bus already
on_bus_same : (bus : BusWidth) (t : Thread) → IsOn bus t → on_bus (Chip bus) t.channel ≡ t.channel
on_bus_same bus t on = ap (λ (b : Bus). on_bus b t.channel) (sym on.width)

pub returns-then-bytes-lt-THREAD_LEN-clause-all : goal.returns-then-bytes-lt-THREAD_LEN-clause-all
returns-then-bytes-lt-THREAD_LEN-clause-all c t rest v on e =
    absurd (omega (arith, (thread_found c.args.config.events t rest c.args.bytes.now c.requires.few v e).long))

pub returns-in_default-clause-all : goal.returns-in_default-clause-all
returns-in_default-clause-all c t rest v on e =
    let found = thread_found c.args.config.events t rest c.args.bytes.now c.requires.few v e in
    let some = c.in_default.ensures t.status (ap (λ (n : ℕ). n % 512) c.u32_at-csr.ensures ∙ found.fields.status) in
    absurd cc

pub returns-then-rest-len-clause-all : goal.returns-then-rest-len-clause-all
returns-then-rest-len-clause-all c t rest v on e =
    let found = thread_found c.args.config.events t rest c.args.bytes.now c.requires.few v e in
    let len = c.u32_at-len.ensures ∙ found.fields.len in
    absurd (omega (arith, found.long, len, ap length (tail_is 20 c.args.bytes.now), length-drop 20 c.args.bytes.now))

pub returns-in_default-restore-clause-all : goal.returns-in_default-restore-clause-all
returns-in_default-restore-clause-all c t rest v on e =
    let bytes = c.args.bytes.now in
    let found = thread_found c.args.config.events t rest bytes c.requires.few v e in
    let len = c.u32_at-len.ensures ∙ found.fields.len in
    let channel = c.in_default-restore.ensures.all t.channel v.channel
    (ap (λ (n : ℕ). take n (take (length bytes - 20) (drop 20 bytes))) len ∙ ap (take (length (saved t.channel))) (tail_is 20 bytes) ∙ found.channel) in
    absurd (true≢false (sym channel.0))

-- the thread that is read is the saved one
was_saved : (c : After-is_possible) (t : Thread) (rest : List ℕ) → IsThreadValue c.args.config.events t → IsOn c.args.config.bus t
    → c.args.bytes.now ≡ saved_thread t ++ rest → (c.u32_at-len.result ≡ length (saved t.channel))
    × (read c.restore.new.self c.in-Some.status c.u32_at-self.result c.u32_at-csr.result c.u32_at-self-2.result c.u32_at-self-3.result ≡ t)
was_saved c t rest v on e =
    let bytes = c.args.bytes.now in
    let found = thread_found c.args.config.events t rest bytes c.requires.few v e in
    let len = c.u32_at-len.ensures ∙ found.fields.len in
    let channel = c.in-Ok.ensures.all t.channel v.channel
    (ap (λ (n : ℕ). take n (take (length bytes - 20) (drop 20 bytes))) len ∙ ap (take (length (saved t.channel))) (tail_is 20 bytes) ∙ found.channel) in
    let status : c.in-Some.status ≡ t.status = cc (c.in-Some.ensures t.status (ap (λ (n : ℕ). n % 512) c.u32_at-csr.ensures ∙ found.fields.status)) in
    let word = ap (λ (n : ℕ). n / 2 ^ 21 % 2) c.u32_at-csr.ensures ∙ found.fields.nonsecure in (
      len,
      read_is t c.restore.new.self c.in-Some.status c.u32_at-self.result c.u32_at-csr.result c.u32_at-self-2.result c.u32_at-self-3.result
          (channel.1 ∙ on_bus_same c.args.config.bus t on) status (c.u32_at-self.ensures ∙ found.fields.fault) word
          (c.u32_at-self-2.ensures ∙ found.fields.base) (c.u32_at-self-3.ensures ∙ found.fields.pc),
    )

pub returns-then-not-is_possible-clause-all : goal.returns-then-not-is_possible-clause-all
returns-then-not-is_possible-clause-all c t rest v on e =
    let same = (was_saved (goal.at.returns-then-not-is_possible-clause-all c).After-is_possible t rest v on e).1 in
    let possible = c.is_possible.ensures.1 (subst (IsSound c.args.config.events) (sym same) v.sound, subst (IsOn c.args.config.bus) (sym same) on) in
    absurd (cc (possible, c.if-not-is_possible.true))

pub returns-then-not-is_possible-clause-on : goal.returns-then-not-is_possible-clause-on
returns-then-not-is_possible-clause-on c = subst (IsOn c.args.config.bus) (sym c.reset.ensures) (reset_is_on c.args.config.bus)

pub returns-then-eq-clause-found : goal.returns-then-eq-clause-found
unfolding saved_thread
returns-then-eq-clause-found c =
    let bytes = c.args.bytes.now in
    let len = c.u32_at-len.result in
    let channel : take len (drop 20 bytes) ≡ saved c.restore.new.self = ap (take len) (sym (tail_is 20 bytes)) ∙ c.in-Ok.ensures.ok in
    let new = read c.restore.new.self c.in-Some.status c.u32_at-self.result c.u32_at-csr.result c.u32_at-self-2.result c.u32_at-self-3.result in
    let same = (slice_eq-Decides Decides-eqb _ _ _ c.eq.ensures).0 c.if-eq.true in
    let head : take 20 bytes ≡ thread_bytes new len = sym same ∙ c.as_slice.ensures.value ∙ c.head_bytes-again.ensures.bytes in
    let fits : len ≤ length (drop 20 bytes) = subst (λ (l : List ℕ). len ≤ length l) (tail_is 20 bytes) c.if-rest-len.false in
    let count = sym (length-take-le len (drop 20 bytes) fits) ∙ ap length channel in
    take-add 20 len bytes ∙ ap (λ (l : List ℕ). l ++ take len (drop 20 bytes)) head
    ∙ ap (λ (l : List ℕ). thread_bytes new len ++ l) channel
    ∙ ap (λ (n : ℕ). thread_bytes new n ++ saved new.channel) count

pub returns-then-eq-clause-all : goal.returns-then-eq-clause-all
returns-then-eq-clause-all c t rest v on e =
    let was = was_saved (goal.at.returns-then-eq-clause-all c).After-is_possible t rest v on e in
    let total : 20 + c.u32_at-len.result ≡ length (saved_thread t) = omega (arith, was.0, thread_length t) in
    (ap (λ (n : ℕ). Some n) total, was.1)

pub returns-else-eq-clause-all : goal.returns-else-eq-clause-all
returns-else-eq-clause-all c t rest v on e =
    let was = was_saved (goal.at.returns-else-eq-clause-all c).After-is_possible t rest v on e in
    let again : c.as_slice.result.now ≡ take 20 c.args.bytes.now =
    c.as_slice.ensures.value ∙ c.head_bytes-again.ensures.bytes ∙ ap (λ (u : Thread). thread_bytes u c.u32_at-len.result) was.1
    ∙ ap (λ (n : ℕ). thread_bytes t n) was.0 ∙ sym (thread_found c.args.config.events t rest c.args.bytes.now c.requires.few v e).head in
    absurd (cc ((slice_eq-Decides Decides-eqb _ _ _ c.eq.ensures).1 again, c.if-eq.false))

pub is_possible-requires : goal.is_possible-requires
is_possible-requires c = c.in-Ok.ensures.bus

pub returns-in_default-restore-clause-sound : goal.returns-in_default-restore-clause-sound
returns-in_default-restore-clause-sound c =
    subst (λ (h : ChannelValue). IsSound c.args.config.events (record (c.args.self.now) { channel = h })) (sym c.in_default-restore.ensures.unchanged)
    c.requires.sound

pub returns-in_default-restore-clause-on : goal.returns-in_default-restore-clause-on
returns-in_default-restore-clause-on c =
    subst (λ (h : ChannelValue). IsOn c.args.config.bus (record (c.args.self.now) { channel = h })) (sym c.in_default-restore.ensures.unchanged) c.requires.on

pub returns-then-not-is_possible-clause-sound : goal.returns-then-not-is_possible-clause-sound
returns-then-not-is_possible-clause-sound c = subst (IsSound c.args.config.events) (sym c.reset.ensures) (reset_is_sound c.args.config.events c.args.config.bus)

pub returns-then-eq-clause-value : goal.returns-then-eq-clause-value
returns-then-eq-clause-value c = record {
  sound = (c.is_possible.ensures.0 c.if-not-is_possible.false).0;
  fault = c.u32_at-self.type_inv;
  base = c.u32_at-self-2.type_inv;
  pc = c.u32_at-self-3.type_inv;
  channel = c.in-Ok.ensures.channel;
}

pub returns-then-eq-clause-sound : goal.returns-then-eq-clause-sound
returns-then-eq-clause-sound c = (c.is_possible.ensures.0 c.if-not-is_possible.false).0

pub returns-then-eq-clause-on : goal.returns-then-eq-clause-on
returns-then-eq-clause-on c = (c.is_possible.ensures.0 c.if-not-is_possible.false).1

pub returns-else-eq-clause-sound : goal.returns-else-eq-clause-sound
returns-else-eq-clause-sound c = (c.is_possible.ensures.0 c.if-not-is_possible.false).0

pub returns-else-eq-clause-on : goal.returns-else-eq-clause-on
returns-else-eq-clause-on c = (c.is_possible.ensures.0 c.if-not-is_possible.false).1
