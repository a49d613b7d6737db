pub mod Events
pub mod Promises
pub mod Inner
