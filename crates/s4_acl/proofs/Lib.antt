pub mod Acls
