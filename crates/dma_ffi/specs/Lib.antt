-- What calls from C return and write: on controllers, channels and devices, for programs and texts, and by which
-- numbers and structs.
pub mod Codes
pub mod Reports
pub mod Requests
pub mod Programs
pub mod Calls
pub mod Channels
pub mod Devices
pub mod DeviceSessions
pub mod Laws
pub mod ChannelLaws
pub mod Explaining
pub mod inner
