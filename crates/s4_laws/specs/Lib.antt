pub mod Agree
pub mod Bases
pub mod Applied
pub mod InForce
pub mod Later
pub mod Kept
pub mod Windows
