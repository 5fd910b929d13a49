pub mod Serving
pub mod Fronts
pub mod Numbers
pub mod Closings
