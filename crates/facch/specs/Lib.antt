pub mod Message
pub mod Told
pub mod Parts
pub mod Inner
pub mod Back
pub mod Promises
