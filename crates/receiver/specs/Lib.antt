pub mod Channels
pub mod Count
pub mod Halving
pub mod Model
pub mod Entries
pub mod Step
pub mod Promises
