pub mod Visiting
pub mod Searching
pub mod Finding
pub mod Worked
