mod Executed
mod FoundValues
mod TargetChoices
mod Settling
mod Lists
pub mod Silent
mod Evaluated
mod RunChanges
pub mod InLayers
pub mod Iterations
pub mod Inclusions
pub mod Leaving
pub mod Trees
pub mod Parts
mod LoneElements
mod SectionCalls
mod SectionChoices
mod LoneCalls
pub mod InnerValues
