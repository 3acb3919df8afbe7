pub mod Seats
pub mod Refusals
pub mod Contents
pub mod Calls
pub mod Histories
pub mod Promises
pub mod Requests
