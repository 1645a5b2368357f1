pub mod Spelling
pub mod Values
