-- Definitions that the promises of mending are made of.
pub mod Calls
pub mod Cuts
pub mod Promises
