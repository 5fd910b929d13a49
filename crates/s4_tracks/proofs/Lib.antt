pub mod Ending
pub mod Erasing
pub mod EndErasing
pub mod Walking
pub mod Sweeping
pub mod Expiring
pub mod Beginning
