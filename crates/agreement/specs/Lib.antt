pub mod Parties
pub mod Demands
pub mod Ours
pub mod Examples
pub mod Demand3
pub mod Idle
