pub mod Limits
pub mod Runs
pub mod Inner
