pub mod Targets
pub mod Renumbered
pub mod Coded
pub mod Arms
pub mod Filled
