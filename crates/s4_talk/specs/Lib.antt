pub mod Calls
pub mod Turning
