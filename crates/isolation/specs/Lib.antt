pub mod One
pub mod Calls
pub mod History
pub mod Kept
pub mod Subscriptions
pub mod Promises
