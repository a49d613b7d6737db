pub mod Fields
pub mod Names
pub mod CallKinds
pub mod NchKinds
pub mod FacchKinds
pub mod Inner
pub mod Promises
