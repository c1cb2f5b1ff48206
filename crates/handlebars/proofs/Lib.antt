pub mod AnswerLaws
pub mod Asks
pub mod CallLaws
pub mod DevLaws
pub mod FileOrder
pub mod Loaded
pub mod Loads
pub mod OneOrder
pub mod OneReading
pub mod OneWalk
pub mod OverLaws
pub mod UserLaws
pub mod Paths
pub mod ReadFiles
pub mod Rendered
pub mod Stored
pub mod TakenBack
pub mod Emitting
pub mod Texts
pub mod Walks
pub mod WithoutFiles
pub mod WithoutDev
pub mod Writing
pub mod WritesRead
pub mod Agreement
mod Evaluated
mod HeldBytes
mod TakenWalks
mod MarkupFaults
mod MarkupNames
mod MarkupOrder
mod MarkupRead
mod HtmlTemplates
mod HtmlRead
mod NamesRead
mod MetPremises
