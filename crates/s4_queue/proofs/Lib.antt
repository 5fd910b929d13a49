pub mod Placing
pub mod Filling
pub mod Laying
pub mod Searching
pub mod Moving
