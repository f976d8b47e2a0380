-- The machine values of boxes and of the pointers that C keeps, and the heap's allocator; what those pointers own on
-- any thread; the cast of a reference to a struct for C; what calls from C return and write, from the engine's answers;
-- which calls of the engine one call from C makes, that they can be made, and which calls many make; which accesses of a
-- device one call makes, and which history many make.
pub mod Values
pub mod Heap
pub mod Sends
pub mod Casts
pub mod Transfers
pub mod Returns
pub mod ChannelCalls
pub mod DeviceTurns
pub mod CallsMade
pub mod CanBeMade
pub mod Exchanges
pub mod DeviceCalls
pub mod JoinedHistories
pub mod DeviceSessions
pub mod ProgramCalls
