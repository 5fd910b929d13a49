pub mod Faults
pub mod Logins
