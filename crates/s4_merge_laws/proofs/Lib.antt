pub mod OfCell
pub mod Plain
