pub mod Numbering
pub mod Reading
pub mod Laws
pub mod Put
pub mod Record
