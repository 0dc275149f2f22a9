pub mod Lines
pub mod Counted
pub mod Reached
pub mod Walks
