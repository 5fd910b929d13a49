pub mod Logins
pub mod LoginText
pub mod Hello
pub mod Rows
pub mod Stream
pub mod Feeding
pub mod Talk
