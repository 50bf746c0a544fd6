pub mod Seats
pub mod Table
pub mod Order
pub mod Asked
pub mod Law
pub mod Fresh
pub mod Rebound
