pub mod Words
pub mod Inner
pub mod Promises
