pub mod Reached
pub mod Found
pub mod Cases
