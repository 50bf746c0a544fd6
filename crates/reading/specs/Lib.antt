pub mod Back
pub mod Trails
