-- What programs copy and set to 0, and what channels that execute them do.
pub mod Items
pub mod Explains
pub mod Uses
pub mod Known
pub mod Late
pub mod OnBuses
pub mod Works
pub mod Alone
pub mod CallStays
pub mod CallReads
pub mod Changes
pub mod RegionsHave
pub mod Refusals
pub mod AnyRegisters
pub mod inner
