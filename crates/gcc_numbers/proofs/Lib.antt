pub mod Refusals
pub mod Octets
pub mod CauseNumbers
pub mod Zeros
pub mod Backs
