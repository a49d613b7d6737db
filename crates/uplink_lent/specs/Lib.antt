pub mod State
pub mod Inner
pub mod Promises
