pub mod Tests
pub mod Halves
pub mod Copied
