pub mod Stands
pub mod Step
pub mod Alike
pub mod Near
