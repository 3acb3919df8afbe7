pub mod Masks
pub mod Initials
pub mod Tabled
pub mod Told
