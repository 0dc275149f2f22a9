pub mod Roles
pub mod Units
pub mod Nesting
