-- The invariant of a device's fields, and the value that contracts see.
use Rattle.std.specs.{Prelude.◌≡◌, Prelude.true, Prelude.List, Prelude.[], Prelude.length, List.All}
use Rattle.dma_chan.specs.declared.bus.BusWidth.{BusWidth}
use Rattle.dma_device.specs.{declared.device.Device.TheInside.Inside, declared.thread.Thread.Thread, Config.is_valid, Device.DeviceValue, Idle.IsSoundDevice}
use Rattle.dma_device.specs.{Thread.IsOn}

-- the value of a device with these fields
abbrev pub device_value : Inside → DeviceValue
device_value d = record {
  config = d.config;
  events = d.events;
  interrupts = d.interrupts;
  inten = d.inten;
  dbginst0 = d.dbginst0;
  dbginst1 = d.dbginst1;
  manager = d.manager;
  threads = d.threads.items;
}

-- each thread is on a bus of this width, which its control word fits
unfoldable pub AreOn : BusWidth → List Thread → Type 0
AreOn bus ts = All (IsOn bus) ts

-- The configuration is valid, each channel has a thread on the device's bus, the device's value is sound, and it has no
-- marks.
pub record IsDevice (d : Inside) : Type 0 where
  pub config : is_valid d.config ≡ true
  pub count : length d.threads.items ≡ d.config.channels
  pub sound : IsSoundDevice (device_value d)
  pub on : AreOn d.config.bus d.threads.items
  pub marks : d.no_marks ≡ []
