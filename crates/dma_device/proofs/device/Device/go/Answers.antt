use Rattle.std.proofs.Common.{◌≡◌, ◌∙◌, ◌⊎◌, Bool, true, false, not, ◌&&◌, ap, arith, sym, refl}
use Rattle.dma_device.specs.{Device.DeviceValue}
use Rattle.dma_device.proofs.Found.{found_at, none_at}
use Rattle.dma_device.proofs.device.Device.go.Goals as goal

pub returns-in_default : goal.returns-in_default
returns-in_default c =
    let d = c.args.self.now in
    let same = c.deref.ensures.value ∙ ap (λ (e : DeviceValue). e.threads) c.self.view_is in
    rw (none_at d.threads c.deref.result.now c.args.n same c.in_default.ensures.lookup.0) c.fail_manager.ensures

pub returns-then-not-nonsecure : goal.returns-then-not-nonsecure
returns-then-not-nonsecure c =
    let d = c.args.self.now in
    let same = c.deref.ensures.value ∙ ap (λ (e : DeviceValue). e.threads) c.self.view_is in
    let lookup = c.in-Some.ensures.lookup in
    let found = (found_at d.threads c.deref.result.now c.args.n c.in-Some.thread.now same lookup.0 lookup.1).1 in
    let denied : (c.self.inside.config.nonsecure && not c.args.nonsecure) ≡ true = rw (c.if-self.true, c.if-not-nonsecure.true) refl in
    let here = ap (λ (e : DeviceValue). e.config.nonsecure && not c.args.nonsecure) (sym c.self.view_is) ∙ denied in
    rw (found, here) c.fail_manager-then-not-nonsecure.ensures

-- no secure channel is started by a non-secure manager
allowed : (a b : Bool) → ((a ≡ true) × (b ≡ true)) ⊎ (a ≡ false) → (a && not b) ≡ false
allowed a b why = grind arith

pub returns-then-is_stopped : goal.returns-then-is_stopped
returns-then-is_stopped c =
    let d = c.args.self.now in
    let same = c.deref.ensures.value ∙ ap (λ (e : DeviceValue). e.threads) c.self.view_is in
    let lookup = c.in-Some.ensures.lookup in
    let found = (found_at d.threads c.deref.result.now c.args.n c.in-Some.thread.now same lookup.0 lookup.1).1 in
    let calm = ap (λ (e : DeviceValue). e.config.nonsecure && not c.args.nonsecure) (sym c.self.view_is)
    ∙ allowed c.self.inside.config.nonsecure c.args.nonsecure c.else-self.either in
    rw (found, calm, sym c.if-is_stopped.ensures) (c.start.ensures c.in-Some.thread.now found)

pub returns-else-is_stopped : goal.returns-else-is_stopped
returns-else-is_stopped c =
    let d = c.args.self.now in
    let same = c.deref.ensures.value ∙ ap (λ (e : DeviceValue). e.threads) c.self.view_is in
    let lookup = c.in-Some.ensures.lookup in
    let found = (found_at d.threads c.deref.result.now c.args.n c.in-Some.thread.now same lookup.0 lookup.1).1 in
    let calm = ap (λ (e : DeviceValue). e.config.nonsecure && not c.args.nonsecure) (sym c.self.view_is)
    ∙ allowed c.self.inside.config.nonsecure c.args.nonsecure c.else-self.either in
    rw (found, calm, sym c.if-is_stopped.ensures) refl
