pub mod Lowests
pub mod Verdicts
pub mod Tags
pub mod Owners
pub mod Accepted
pub mod Checks
pub mod Chunks
