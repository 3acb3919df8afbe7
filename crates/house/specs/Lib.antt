pub mod Stored
pub mod Means
