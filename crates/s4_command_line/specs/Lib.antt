pub mod Asking
pub mod Durations
pub mod Words
