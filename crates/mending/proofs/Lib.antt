-- Laws that belong to no one function, and the promises.
pub mod Mends
pub mod Runs
pub mod Wholes
pub mod Calling
pub mod Promises
