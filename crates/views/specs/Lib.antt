pub mod Held
pub mod Inner
pub mod Promises
