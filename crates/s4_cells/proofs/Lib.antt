pub mod CuttingAll
pub mod Playing
pub mod SameAnswer
pub mod Whole
pub mod Counting
