pub mod Gone
pub mod Lines
pub mod Reached
pub mod Runs
pub mod Values
