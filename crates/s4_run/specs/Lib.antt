pub mod Texts
pub mod Faults
pub mod Arrivals
pub mod Scripts
pub mod Struck
pub mod Opened
