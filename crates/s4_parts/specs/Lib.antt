pub mod Table
pub mod Ends
pub mod Waiting
pub mod Shelf
pub mod Page
pub mod Telling
pub mod Laws
