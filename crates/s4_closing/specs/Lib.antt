pub mod Merged
pub mod Kept
pub mod Closing
pub mod Reconciled
