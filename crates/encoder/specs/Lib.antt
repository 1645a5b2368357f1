pub mod Rotation
pub mod Rows
pub mod Sizes
pub mod Outcomes
