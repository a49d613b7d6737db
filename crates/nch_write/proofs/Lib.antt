pub mod Testing
pub mod InRange
pub mod Counting
pub mod Putting
