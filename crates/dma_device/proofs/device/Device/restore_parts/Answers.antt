use Rattle.std.proofs.Common.{◌≡◌, ◌∙◌, List, ap, arith, drop, length, refl, subst, sym, true≢false, true}
use Rattle.std.proofs.lemmas.List.{take-append-drop, with_items_is}
use Rattle.std.specs.{List.All, List.flat_map}
use Rattle.dma_device.specs.Snapshot.{IsSoundHead, IsDeviceValue, device_parts, head_of, saved_thread}
use Rattle.dma_device.specs.{Device.DeviceValue, Thread.IsOn, declared.config.Config.Config, declared.save.head.Head.Head}
use Rattle.dma_device.specs.{declared.thread.Thread.Thread}
use Rattle.dma_device.proofs.SavedDevices.{tail_is, device_ranges, device_value_is, from_head, known_of, threads_behind}
use Rattle.dma_device.proofs.{Sound.are_on, Sound.on_of, Sound.with_parts, device.Device.restore_parts.Goals.After-restore_threads}
use Rattle.dma_device.proofs.device.Device.restore_parts.Goals as goal

-- a head's events are known to a device of its configuration
known_on : (h : Head) (g : Config) → h.config ≡ g → IsSoundHead h → IsSoundHead (record h { config = g })
known_on h g same known = subst (λ (f : Config). IsSoundHead (record h { config = f })) same known

pub returns-in_default-clause-all : goal.returns-in_default-clause-all
unfolding device_parts
returns-in_default-clause-all c d v config e =
    let same = config ∙ sym (ap (λ (x : DeviceValue). x.config) c.self.view_is) in
    let found = c.in_default.ensures.only (head_of d) (flat_map saved_thread d.threads) (device_ranges d v)
    (known_of d v) same e in
    absurd (cc found)

pub restore_threads-requires-clause-on : goal.restore_threads-requires-clause-on
restore_threads-requires-clause-on c =
    let d = c.self.inside in
    subst (All (IsOn d.config.bus)) (sym c.deref_mut.ensures.value) (on_of d.config.bus d.threads.items c.self.invariant.on)

-- there are as many threads
same_length : (c : After-restore_threads) → length c.restore_threads.new.threads ≡ c.self.inside.threads.len
same_length c = omega (arith, c.restore_threads.auto.threads, c.deref_mut.ensures.len)

pub invariant_of-self : goal.invariant_of-self
invariant_of-self c =
    let d = c.self.inside in
    let new = c.restore_threads.new.threads in
    with_parts d _ new c.self.invariant refl refl refl (same_length (goal.at.invariant_of-self c).After-restore_threads)
    (c.restore_threads.auto.threads ∙ ap length c.deref_mut.ensures.value) c.restore_threads.ensures.sound
    (are_on d.config.bus new c.restore_threads.ensures.on) c.self.invariant.sound.known

-- the threads of the device whose parts these are
restored : (c : After-restore_threads) (d : DeviceValue) → IsDeviceValue d → d.config ≡ c.args.self.now.config → c.args.save.now ≡ device_parts d
    → (c.restore_threads.result ≡ true) × (c.restore_threads.new.threads ≡ d.threads)
restored c d v config e = grind (arith, threads_behind)

pub returns-then-not-restore_threads-clause-all : goal.returns-then-not-restore_threads-clause-all
returns-then-not-restore_threads-clause-all c d v config e =
    absurd (true≢false (sym (restored (goal.at.returns-then-not-restore_threads-clause-all c).After-restore_threads d v config e).0
    ∙ c.if-not-restore_threads.true))

pub invariant_of-self-2 : goal.invariant_of-self-2
invariant_of-self-2 c =
    let d = c.self.inside in
    let new = c.restore_threads.new.threads in
    let len : length new ≡ d.threads.len = omega (arith, c.restore_threads.auto.threads, c.deref_mut.ensures.len) in
    let known = known_on c.in-Some.head d.config c.in-Some.ensures.config c.in-Some.ensures.known in
    with_parts d _ new c.self.invariant refl refl refl len (c.restore_threads.auto.threads ∙ ap length c.deref_mut.ensures.value)
    c.restore_threads.ensures.sound (are_on d.config.bus new c.restore_threads.ensures.on)
    (record { events = known.events; interrupts = known.interrupts; inten = known.inten; manager = known.manager })

pub returns-clause-ok : goal.returns-clause-ok
unfolding device_parts
returns-clause-ok c =
    λ _. (let d = c.self.inside in
    let save = c.args.save.now in
    let h = c.in-Some.head in
    let new = c.restore_threads.new.threads in
    let len : length new ≡ d.threads.len = omega (arith, c.restore_threads.auto.threads, c.deref_mut.ensures.len) in
    let back : drop 40 save ≡ flat_map saved_thread new = sym (tail_is 40 save) ∙ c.restore_threads.ensures.ok c.if-not-restore_threads.false in
    sym (take-append-drop 40 save)
    ∙ simp (c.in-Some.ensures.found, back, sym c.in-Some.ensures.config, with_items_is d.threads new len))

pub returns-clause-all : goal.returns-clause-all
unfolding device_parts
returns-clause-all c e v config is =
    let d = c.self.inside in
    let save = c.args.save.now in
    let h = c.in-Some.head in
    let new = c.restore_threads.new.threads in
    let len : length new ≡ d.threads.len = omega (arith, c.restore_threads.auto.threads, c.deref_mut.ensures.len) in
    let same = config ∙ sym (ap (λ (x : DeviceValue). x.config) c.self.view_is) in
    let found = c.in-Some.ensures.only (head_of e) (flat_map saved_thread e.threads) (device_ranges e v)
    (known_of e v) same is in
    let head : h ≡ head_of e = cc found in
    let w = restored (goal.at.returns-clause-all c).After-restore_threads e v config is in (
      refl,
      ap (λ (ts : List Thread). from_head d.config h ts) (with_items_is d.threads new len ∙ w.1)
          ∙ ap (λ (k : Head). from_head d.config k e.threads) head
          ∙ ap (λ (g : Config). from_head g (head_of e) e.threads) (sym same),
    )

pub returns-clause-value : goal.returns-clause-value
returns-clause-value c = grind (arith, known_on, with_parts, are_on, with_items_is, device_value_is, on_of)
