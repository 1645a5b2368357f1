pub mod Answers
pub mod Blocks
pub mod Codes
pub mod Bounds
pub mod Columns
pub mod Walk
pub mod Remaining
pub mod Rows
