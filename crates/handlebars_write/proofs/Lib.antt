mod Gains
mod Causes
pub mod Refinement
pub mod Puts
pub mod Sinks
pub mod Emits
pub mod Emitted
pub mod Shows
mod Locations
mod Unescaped
pub mod Elements
pub mod Iterations
pub mod UserSteps
pub mod Includes
pub mod Choices
