pub mod Scores
pub mod Casting
