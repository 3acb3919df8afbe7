pub mod Rows
pub mod Copies
pub mod Sounds
