pub mod Words
pub mod Clear
pub mod Flips
