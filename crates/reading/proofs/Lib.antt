pub mod Steps
pub mod Measuring
pub mod Writing
