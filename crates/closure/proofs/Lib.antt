pub mod Parts
pub mod Silent
pub mod Sheets
