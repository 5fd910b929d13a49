pub mod Taken
pub mod Begun
pub mod Logins
pub mod Checked
