pub mod Sweeping
pub mod EntriesMade
pub mod Entering
