pub mod Soft
pub mod Confidence
pub mod MinSum
pub mod Hard
pub mod Outcomes
pub mod Layouts
pub mod Working
pub mod Anywhere
