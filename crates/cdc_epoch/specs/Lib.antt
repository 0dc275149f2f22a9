pub mod Side
pub mod Taken
pub mod Faulting
pub mod Ties
pub mod EngineLaws
