pub mod Decimals
pub mod Gaps
pub mod Fields
pub mod Lengths
pub mod Bounds
pub mod Entered
pub mod Promised
pub mod Computed
