pub mod Tags
pub mod TagsLaws
pub mod Phases
