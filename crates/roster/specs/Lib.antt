pub mod Holds
pub mod Check
pub mod Update
