pub mod Numbers
pub mod Digits
pub mod Adding
pub mod CallBits
pub mod Promises
