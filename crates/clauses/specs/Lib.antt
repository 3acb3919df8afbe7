pub mod Ranks
pub mod Candidates
pub mod Workspaces
pub mod Uncovered
