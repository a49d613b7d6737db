pub mod Fields
pub mod Test
pub mod Whole
pub mod Promises
