pub mod Tests
pub mod Sums
pub mod Fates
pub mod Splits
pub mod Promises
