pub mod Lengths
pub mod Confidence
