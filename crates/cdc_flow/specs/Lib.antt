pub mod Flow
pub mod Built
