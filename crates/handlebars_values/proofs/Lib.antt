mod Pushed
mod ChangedData
mod NamedTargets
pub mod Dispatching
mod ByKey
mod MemberCounts
mod Decisions
mod Evaluated
mod TruthsOf
mod Merging
mod PassedInOrder
mod PathValues
mod PartialBases
mod BoundHash
