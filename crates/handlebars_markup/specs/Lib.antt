pub mod Alike
pub mod Blind
pub mod Faults
pub mod FaultsView
pub mod TwoRuns
