pub mod Sheet
pub mod Refused
