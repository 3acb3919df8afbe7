pub mod Fault
pub mod Text
pub mod Table
pub mod Lines
pub mod Write
pub mod Faults
