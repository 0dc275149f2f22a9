pub mod Calls
pub mod Counting
pub mod Made
pub mod Uncached
pub mod UncachedLaws
pub mod UncachedSteps
