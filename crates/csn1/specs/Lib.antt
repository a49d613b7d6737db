pub mod Format
pub mod Grammar
pub mod Clip
pub mod Promises
pub mod Told
pub mod Write
