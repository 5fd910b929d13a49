pub mod Keys
pub mod Chains
pub mod Flushes
pub mod Erasing
pub mod Ends
pub mod Opening
pub mod Table
pub mod Laws
