pub mod Evaluates
pub mod Nearest
pub mod Unchanged
