pub mod Glyphs
pub mod Decimals
pub mod Words
pub mod Hex
pub mod Turns
