pub mod Counts
pub mod Many
pub mod Played
