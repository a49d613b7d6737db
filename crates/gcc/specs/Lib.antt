-- The definitions that the contracts cite, a file for each element.
pub mod Octet
pub mod Numeral
pub mod MessageType
pub mod CallReference
pub mod CallState
pub mod Cause
pub mod Originator
pub mod StateAttributes
pub mod Digits
pub mod Talker
pub mod Sms
pub mod Promises
pub mod Inner
