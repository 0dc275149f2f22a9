pub mod Versions
pub mod VersionsLaws
pub mod Numbers
