pub mod Bounds
pub mod Merging
pub mod Parts
pub mod Steps
pub mod Turns
pub mod Worth
