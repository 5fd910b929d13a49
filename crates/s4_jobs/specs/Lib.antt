pub mod Log
pub mod Rule
pub mod Seats
pub mod Work
