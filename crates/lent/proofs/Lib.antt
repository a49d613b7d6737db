pub mod Tellings
pub mod Outcomes
pub mod Messages
pub mod FromNumbers
pub mod Feeding
pub mod Promises
