pub mod Yard
pub mod Octets
pub mod History
pub mod Promises
pub mod Inner
