pub mod Zeros
pub mod Digits
pub mod Plain
pub mod Lines
pub mod BothWays
pub mod Parts
pub mod Examples
