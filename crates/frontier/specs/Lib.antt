pub mod Sides
pub mod Frontier
pub mod Moves
pub mod Choose
pub mod Endings
pub mod Starting
