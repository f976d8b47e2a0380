-- Definitions for what the pointers that C keeps own and lend, and for the steps of proofs. The contracts of the calls
-- from C don't use them.
pub mod Owned
pub mod Lending
pub mod Loads
pub mod Submits
pub mod Found
pub mod Plans
