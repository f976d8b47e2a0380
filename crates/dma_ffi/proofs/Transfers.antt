-- Transfers that may not have been made, and what calls from C that load or plan one return and write.
use Rattle.std.proofs.Common.{◌≡◌, ℕ, List, Option, Some, None, Result, Ok, Err, arith}
use Rattle.std.specs.Prelude.{ℤ, IfOk, IfErr, unwrap_or}
use Rattle.dma_mem.specs.{Places.Descriptor, Refusals.refusal_of, declared.transfer.TransferFault.TransferFault}
use Rattle.dma_chan.specs.{declared.bus.Bus.Bus, Channel.ChannelValue}
use Rattle.dma_ffi.specs.{declared.marked_channel.MarkedChannel.MarkedChannel, Channels.LoadsTransfer, Channels.OnChannel, inner.Loads.LoadsMade}
use Rattle.dma_ffi.specs.{Programs.PlansTransfer, inner.Plans.PlansMade}
use Rattle.dma_mem.specs.declared.transfer.TransferFault.TheVariants as transfers

-- the transfer was made, or not because of its refusal or because memory ran out
abbrev pub IsMadeTransfer : Descriptor → Result Descriptor TransferFault → Type 0
IsMadeTransfer t (Ok x) = (x ≡ t) × (refusal_of t ≡ None)
IsMadeTransfer t (Err fault) = fault ≡ unwrap_or (refusal_of t) transfers.NoMemory

-- a transfer with the events that two numbers of C name
pub is_made : (f : Option ℕ → Option ℕ → Descriptor) {w w' s s' : Option ℕ} (made : Result Descriptor TransferFault) → w ≡ w' → s ≡ s'
    → IfOk made (λ x. x ≡ f w s) → IfOk made (λ x. refusal_of x ≡ None) → IfErr made (λ fault. fault ≡ unwrap_or (refusal_of (f w s)) transfers.NoMemory)
    → IsMadeTransfer (f w' s') made
is_made f made wait signal is none err = grind arith

-- the load of a transfer
loads : (t : Descriptor) (c d : ChannelValue) (code : ℤ) (made : Result Descriptor TransferFault) → IsMadeTransfer t made → LoadsMade made c code d
    → LoadsTransfer t c code d
loads t c d code made h1 h2 = grind arith

pub loads_transfer : (old : Option MarkedChannel) (code : ℤ) (m : MarkedChannel) (d : ChannelValue) (t : Descriptor) (made : Result Descriptor TransferFault)
    → IsMadeTransfer t made → Some m ≡ old → LoadsMade made m.channel code d → OnChannel (LoadsTransfer t) old code (Some (record m { channel = d }))
loads_transfer old code m d t made is was h = grind (arith, loads)

-- the plan of a transfer
plans : (t : Descriptor) (bus : Bus) (code : ℤ) (buffer out : List ℕ) (len written : ℕ) (made : Result Descriptor TransferFault) → IsMadeTransfer t made
    → PlansMade made bus code buffer out len written → PlansTransfer t (Some bus) code buffer out len written
plans t bus code buffer out len written made h1 h2 = grind arith

pub plans_transfer : (t : Descriptor) (bus : Bus) (given : Option Bus) (code : ℤ) (buffer out : List ℕ) (len written : ℕ)
    (made : Result Descriptor TransferFault) → IsMadeTransfer t made → Some bus ≡ given → PlansMade made bus code buffer out len written
    → PlansTransfer t given code buffer out len written
plans_transfer t bus given code buffer out len written made is bus_is h = grind (arith, plans)
