pub mod Placing
pub mod Accounting
pub mod Queueing
pub mod Balancing
