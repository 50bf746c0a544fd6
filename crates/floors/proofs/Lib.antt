pub mod Flags
pub mod Distances
