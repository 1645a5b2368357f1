pub mod Packed
pub mod Loops
