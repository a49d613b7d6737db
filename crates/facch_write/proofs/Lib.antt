pub mod Widths
pub mod Records
pub mod Placing
pub mod Round
pub mod Promises
