-- Laws that belong to no one function, and the promises.
pub mod CallReferences
pub mod CauseTrips
pub mod Causes
pub mod Lists
pub mod Numerals
pub mod Otdi
pub mod Tables
pub mod Tests
