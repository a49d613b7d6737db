-- Laws that belong to no one function, and the promises.
pub mod FacchRuns
pub mod Listed
pub mod Promises
pub mod FacchBack
pub mod FacchFits
pub mod FacchInLimits
pub mod FacchAgain
