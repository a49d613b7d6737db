pub mod Laws
pub mod Octets
pub mod Answers
pub mod Promises
