pub mod Runs
pub mod Padded
pub mod Sound
pub mod Meets
pub mod Steps
