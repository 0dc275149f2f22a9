pub mod PathExpr
pub mod Courses
pub mod References
pub mod Covers
pub mod Marks
pub mod Laws
