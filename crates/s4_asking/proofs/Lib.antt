pub mod Arrows
pub mod Asked
pub mod Carried
pub mod Known
pub mod Lines
pub mod Turns
