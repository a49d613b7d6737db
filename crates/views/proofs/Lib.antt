pub mod Holding
pub mod Lines
pub mod Marks
pub mod Promises
