pub mod Puts
pub mod OneCall
pub mod Listing
pub mod Adding
