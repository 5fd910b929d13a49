pub mod Steps
pub mod Left
pub mod Ascending
pub mod Settling
pub mod Counting
pub mod Closing
