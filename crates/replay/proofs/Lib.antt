pub mod Lent
pub mod Encoding
