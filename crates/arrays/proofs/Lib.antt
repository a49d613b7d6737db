pub mod Running
pub mod Filling
pub mod Within
pub mod Zeroed
pub mod Seen
