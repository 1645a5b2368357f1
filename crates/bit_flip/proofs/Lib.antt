pub mod Scores
pub mod Passing
pub mod Votes
pub mod Calls
pub mod Theorems
