pub mod Uplink
pub mod History
pub mod Promises
