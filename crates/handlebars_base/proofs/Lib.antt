pub mod OptionBinds
pub mod Bytes
pub mod Runs
pub mod Prefixes
pub mod Ends
pub mod Digits
pub mod PathMarks
pub mod PathParts
pub mod PathLinks
pub mod PathShapes
pub mod ReferenceLength
pub mod References
pub mod PathPrefixes
pub mod Truths
pub mod Numerals
pub mod Equality
pub mod Orders
pub mod EscapedBytes
mod EscapedRuns
mod EscapeLaws
pub mod Writes
pub mod EscapedNumbers
pub mod ShownValues
