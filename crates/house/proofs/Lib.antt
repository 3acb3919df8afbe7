pub mod Tables
pub mod Seated
pub mod Lawful
pub mod Fitting
pub mod Entering
