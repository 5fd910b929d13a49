pub mod Texts
pub mod Lines
pub mod Requests
pub mod Readings
pub mod Scripted
