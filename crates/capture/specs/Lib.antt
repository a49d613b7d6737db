-- The definitions that the contracts cite, and what is promised of them.
pub mod Capture
pub mod Replay
pub mod Machine
pub mod Mend
pub mod Mending
pub mod Calls
pub mod Inner
pub mod Promises
