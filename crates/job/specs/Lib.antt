pub mod Faults
pub mod Questions
pub mod Floors
pub mod Kept
pub mod Job
