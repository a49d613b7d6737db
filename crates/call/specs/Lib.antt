pub mod Call
pub mod Told
pub mod Write
pub mod Inner
