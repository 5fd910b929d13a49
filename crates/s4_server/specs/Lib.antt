pub mod Desks
pub mod Faults
pub mod Places
pub mod Setup
pub mod Ends
