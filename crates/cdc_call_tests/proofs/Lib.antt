pub mod Programs
pub mod Codes
