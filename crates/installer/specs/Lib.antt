pub mod Figures
pub mod Texts
pub mod Outcomes
pub mod Lines
pub mod Inputs
pub mod Calls
pub mod Cases
