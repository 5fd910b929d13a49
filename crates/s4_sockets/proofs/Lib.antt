pub mod Drained
pub mod Families
pub mod Owned
