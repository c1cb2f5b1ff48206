pub mod ModeView
pub mod View
pub mod OutcomeView
pub mod LocationView
pub mod Writes
pub mod Shows
pub mod ModeClauses
