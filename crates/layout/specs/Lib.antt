pub mod Octets
pub mod Layout
pub mod Sweep
pub mod Setup
pub mod Parts
pub mod Promises
pub mod Inner
