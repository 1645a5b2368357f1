pub mod Flip
pub mod Erasures
pub mod Outcome
pub mod Steps
