-- what the lines of a source are
pub mod Bytes
pub mod Symbols
pub mod Pieces
pub mod Tokens
pub mod Refusals
pub mod Lines
pub mod Logical
-- what the functions within give
pub mod Cutting
pub mod Values
pub mod Taking
