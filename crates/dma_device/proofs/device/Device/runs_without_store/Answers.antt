use Rattle.std.proofs.Common.{◌∙◌, ap, not, refl, sym}
use Rattle.dma_device.specs.{Device.DeviceValue}
use Rattle.dma_device.proofs.Found.{found_at, none_at}
use Rattle.dma_device.proofs.device.Device.runs_without_store.Goals as goal

pub returns-then-runs : goal.returns-then-runs
returns-then-runs c =
    let d = c.args.self.now in
    let same = c.deref.ensures.value ∙ ap (λ (e : DeviceValue). e.threads) c.self.view_is in
    let lookup = c.in-Some.ensures.lookup in
    let found = (found_at d.threads c.deref.result.now c.args.n c.in-Some.thread.now same lookup.0 lookup.1).1 in
    rw (found, sym c.if-runs.ensures) (ap not c.is_before_store.ensures)

pub returns-else-runs : goal.returns-else-runs
returns-else-runs c =
    let d = c.args.self.now in
    let same = c.deref.ensures.value ∙ ap (λ (e : DeviceValue). e.threads) c.self.view_is in
    let lookup = c.in-Some.ensures.lookup in
    let found = (found_at d.threads c.deref.result.now c.args.n c.in-Some.thread.now same lookup.0 lookup.1).1 in
    rw (found, sym c.if-runs.ensures) c.if-runs.false

pub returns-in-None : goal.returns-in-None
returns-in-None c =
    let d = c.args.self.now in
    let same = c.deref.ensures.value ∙ ap (λ (e : DeviceValue). e.threads) c.self.view_is in
    rw (none_at d.threads c.deref.result.now c.args.n same c.in-None.ensures.lookup.0) refl
