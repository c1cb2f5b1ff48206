pub mod Plans
mod Programs
mod Effects
mod Targets
mod Weaker
mod Calls
mod Inclusions
pub mod Walk
pub mod Demands
mod Data
mod Blanks
mod Urls
mod Covers
mod Pieces
mod SameStates
pub mod Safety
pub mod Sample
mod Examples
mod StateLists
mod CleanFindings
mod Adding
mod FoundSoFar
mod TextEnds
mod NamedEnds
mod TreeEnds
mod Searching
mod Appended
mod Listed
mod Accepts
mod Refuses
pub mod Rounds
pub mod CheckedAnswers
mod NeededRows
pub mod UsualParts
pub mod FunctionRegistries
mod CheckExamples
mod BlockExamples
