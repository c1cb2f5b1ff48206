mod Maps
mod Indexes
pub mod Lines
pub mod Resolutions
mod Prefixes
pub mod Indents
pub mod IndexNames
