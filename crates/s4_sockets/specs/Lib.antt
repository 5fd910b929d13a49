pub mod Accepted
pub mod Drains
pub mod Guesses
pub mod Holds
pub mod ProxyLines
pub mod Records
pub mod Staying
