-- The definitions that the contracts cite, and what is promised beside them.
pub mod FacchPlaces
pub mod FacchNumbers
pub mod Promises
