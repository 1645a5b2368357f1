pub mod Circulants
pub mod Counts
pub mod Columns
pub mod Ccsds
pub mod Reading
pub mod Generators
