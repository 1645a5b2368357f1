pub mod Scores
pub mod Votes
