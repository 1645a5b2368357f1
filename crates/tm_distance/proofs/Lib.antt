pub mod Reduced
pub mod ReducedRows
pub mod Tests
pub mod Weights
pub mod Sent
pub mod Frames
pub mod Near
