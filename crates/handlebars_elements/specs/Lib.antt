pub mod View
pub mod Chosen
pub mod Left
pub mod Judgement
pub mod Silent
pub mod Tags
pub mod Iterating
pub mod Located
