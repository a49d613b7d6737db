pub mod Windows
pub mod Unasked
pub mod Taken
pub mod Promises
