pub mod Along
pub mod Tasks
pub mod Sections
pub mod Sites
pub mod Programs
pub mod Laws
pub mod Examples
