pub mod Positions
pub mod Offsets
pub mod Orders
pub mod Floats
pub mod Steps
