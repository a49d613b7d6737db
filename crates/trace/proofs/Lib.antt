-- Laws that belong to no one function, and the promises.
pub mod Fair
pub mod Promises
pub mod Steps
pub mod Tracing
pub mod Entries
pub mod Rows
pub mod Leading
pub mod Channels
pub mod Messages
pub mod Broad
