-- The definitions that the contracts cite, and what is promised of them.
pub mod Lines
pub mod Digits
pub mod Inner
pub mod Promises
