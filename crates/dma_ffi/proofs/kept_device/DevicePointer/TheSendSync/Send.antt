use denote.Param.Send.{IsSend}
use Rattle.dma_device.specs.contracts.device.Device.{the_row as R}
use Rattle.dma_device.proofs.device.Device.TheSendSync.{the_send as sends}
use Rattle.dma_ffi.specs.contracts.kept_device.DevicePointer.{the_row}
use Rattle.dma_ffi.proofs.Sends.{owned_keyless}

pub send : IsSend the_row
send = record { owned = λ d vs. ((λ vss. (tt, (tt, tt))), owned_keyless R sends d.at d.value); leaving = λ k d w. tt }
