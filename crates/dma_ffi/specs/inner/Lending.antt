-- What a value that C keeps is once a borrow of it has ended: it has the last value that was written.
use Rattle.std.specs.{Prelude.Option, Prelude.Some, Prelude.true, Prelude.refl, Borrow.Lends, Borrow.LendsIf, Borrow.MutBor, Borrow.Fml}
use Rattle.dma_device.specs.Device.{DeviceValue}
use Rattle.dma_engine.specs.View.{EngineState}
use Rattle.dma_ffi.specs.{declared.heap_pointer.HeapPointer.HeapPointer, declared.kept.Kept.Kept, declared.controller.Controller.Controller}
use Rattle.dma_ffi.specs.{declared.kept_channel.KeptChannel.KeptChannel, declared.kept_device.KeptDevice.KeptDevice}
use Rattle.dma_ffi.specs.{declared.marked_channel.MarkedChannel.MarkedChannel}
use denote.RattleType.{RattleType}
use Rattle.dma_device.specs.contracts.device.Device.{the_row as device_row}
use Rattle.dma_engine.specs.contracts.engine.Engine.{the_row as engine_row}
use Rattle.dma_ffi.specs.contracts.heap_pointer.HeapPointer.{the_row as heap_pointer_row}
use Rattle.dma_ffi.specs.contracts.kept.Kept.{the_row as kept_row}
use Rattle.dma_ffi.specs.contracts.controller.Controller.{the_row as controller_row}
use Rattle.dma_ffi.specs.contracts.kept_channel.KeptChannel.{the_row as kept_channel_row}
use Rattle.dma_ffi.specs.contracts.kept_device.KeptDevice.{the_row as kept_device_row}
use Rattle.dma_ffi.specs.contracts.marked_channel.MarkedChannel.{the_row as channel_row}

-- a pointer lends its value, of the type R
abbrev pub LendsValue : (R : RattleType) → MutBor (HeapPointer R.Denot) → MutBor R.Denot → Fml
LendsValue R s r = Lends (heap_pointer_row R) R s r (λ w. record (s.now) { value = Some w })

-- a kept value that is open and has the value `w`
abbrev pub holding : (R : RattleType) → Kept R.Denot → R.Denot → Kept R.Denot
holding R k w = record { at = record (k.at) { value = Some w }; is_open = true; holds = (λ _. refl, λ _. refl) }

-- a kept value lends itself, if any
abbrev pub LendsKept : (R : RattleType) → MutBor (Kept R.Denot) → Option (MutBor R.Denot) → Fml
LendsKept R s r = LendsIf (kept_row R) R s r (holding R (s.now)) (s.now)

-- a kept engine as a controller
abbrev pub as_controller : Kept EngineState → Controller
as_controller k = record { engine = record { at = k.at.at; value = k.at.value }; is_open = k.is_open; holds = k.holds }

-- a controller as a kept engine
abbrev pub of_controller : Controller → Kept EngineState
of_controller c =
    record { at = record { at = c.engine.at; value = c.engine.value }; is_open = c.is_open; holds = c.holds }

-- a controller lends itself as a kept engine
abbrev pub LendsController : MutBor Controller → MutBor (Kept EngineState) → Fml
LendsController s r = Lends controller_row (kept_row engine_row) s r as_controller

-- a controller lends its engine, if it has one
abbrev pub LendsEngine : MutBor Controller → Option (MutBor EngineState) → Fml
LendsEngine s r =
    LendsIf controller_row engine_row s r (λ w. as_controller (holding engine_row (of_controller (s.now)) w)) (s.now)

-- a kept channel in the form for C
abbrev pub as_channel : Kept MarkedChannel → KeptChannel
as_channel k = record { channel = record { at = k.at.at; value = k.at.value }; is_open = k.is_open; holds = k.holds }

-- a channel in the form for C as a kept one
abbrev pub of_channel : KeptChannel → Kept MarkedChannel
of_channel c =
    record { at = record { at = c.channel.at; value = c.channel.value }; is_open = c.is_open; holds = c.holds }

-- a channel lends itself as a kept one
abbrev pub LendsKeptChannel : MutBor KeptChannel → MutBor (Kept MarkedChannel) → Fml
LendsKeptChannel s r = Lends kept_channel_row (kept_row channel_row) s r as_channel

-- a channel in the form for C lends its channel, if it has one
abbrev pub LendsChannel : MutBor KeptChannel → Option (MutBor MarkedChannel) → Fml
LendsChannel s r =
    LendsIf kept_channel_row channel_row s r (λ w. as_channel (holding channel_row (of_channel (s.now)) w)) (s.now)

-- a kept device in the form for C
abbrev pub as_device : Kept DeviceValue → KeptDevice
as_device k = record { device = record { at = k.at.at; value = k.at.value }; is_open = k.is_open; holds = k.holds }

-- a device in the form for C as a kept one
abbrev pub of_device : KeptDevice → Kept DeviceValue
of_device c =
    record { at = record { at = c.device.at; value = c.device.value }; is_open = c.is_open; holds = c.holds }

-- a device lends itself as a kept one
abbrev pub LendsKeptDevice : MutBor KeptDevice → MutBor (Kept DeviceValue) → Fml
LendsKeptDevice s r = Lends kept_device_row (kept_row device_row) s r as_device

-- a device in the form for C lends its device, if it has one
abbrev pub LendsDevice : MutBor KeptDevice → Option (MutBor DeviceValue) → Fml
LendsDevice s r =
    LendsIf kept_device_row device_row s r (λ w. as_device (holding device_row (of_device (s.now)) w)) (s.now)
