pub mod Verdicts
pub mod Promises
pub mod Cases
