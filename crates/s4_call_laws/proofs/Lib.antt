pub mod Moments
pub mod Joined
