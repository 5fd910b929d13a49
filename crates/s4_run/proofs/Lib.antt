pub mod Arriving
pub mod Reading
pub mod Striking
