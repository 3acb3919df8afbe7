pub mod Taking
pub mod Histories
