pub mod Faults
pub mod Commands
pub mod Calling
pub mod Serving
