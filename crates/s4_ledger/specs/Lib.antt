pub mod Accounts
pub mod Balance
pub mod Books
pub mod Queue
pub mod Laws
