pub mod Rounds
pub mod Filled
pub mod Steps
pub mod Boards
pub mod Marks
