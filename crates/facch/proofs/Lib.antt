pub mod Numbering
pub mod Notices
pub mod Callees
pub mod Taken
pub mod Clips
pub mod Promises
pub mod Back
