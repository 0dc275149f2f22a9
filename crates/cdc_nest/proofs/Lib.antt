pub mod Puts
pub mod Grown
pub mod Taken
pub mod UnitLaws
