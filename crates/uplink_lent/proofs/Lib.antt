pub mod Standing
pub mod Octets
pub mod Calls
pub mod Runs
pub mod Given
pub mod Promises
