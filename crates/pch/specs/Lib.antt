pub mod Entry
pub mod Inner
pub mod Promises
