pub mod Logical
pub mod Counts
pub mod Options
pub mod Order
