pub mod Lists
pub mod Answered
pub mod Changes
pub mod Tables
pub mod Through
