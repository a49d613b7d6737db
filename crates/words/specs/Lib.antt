pub mod Unasked
pub mod Taking
pub mod Array
pub mod Inner
pub mod Promises
