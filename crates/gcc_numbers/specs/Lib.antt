pub mod ElementNumbers
pub mod Promises
pub mod Inner
