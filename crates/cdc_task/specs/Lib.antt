pub mod Held
pub mod Parts
pub mod Steps
pub mod Laws
pub mod Course
pub mod Running
pub mod Memory
pub mod Answers
