pub mod Masks
pub mod Tables
pub mod Refusals
pub mod Sounds
