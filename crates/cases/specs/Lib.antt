pub mod Floors
pub mod Searches
pub mod Cases
pub mod Tables
pub mod Premises
