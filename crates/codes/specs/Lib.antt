pub mod Answers
pub mod Codes
pub mod Blocks
pub mod Edges
pub mod Walk
pub mod Sound
pub mod Equations
pub mod Frames
