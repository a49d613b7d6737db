-- Laws that belong to no one function, and the promises.
pub mod Found
pub mod Lines
pub mod Numerals
pub mod Pairs
pub mod Powers
pub mod Promises
