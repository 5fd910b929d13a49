pub mod Arrivals
pub mod Sent
pub mod Determined
pub mod Answered
pub mod Halls
