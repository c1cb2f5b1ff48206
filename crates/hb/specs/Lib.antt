pub mod Frames
pub mod Items
pub mod Pages
pub mod Checks
pub mod Advances
