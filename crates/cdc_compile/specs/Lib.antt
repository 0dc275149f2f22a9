pub mod Refusals
pub mod Texts
pub mod Unbuilt
pub mod Source
pub mod Laws
pub mod Compiled
