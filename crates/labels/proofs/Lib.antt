pub mod Bits
pub mod Directions
pub mod Taking
pub mod Listed
