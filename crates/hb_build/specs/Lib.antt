pub mod Name
pub mod Entries
pub mod Given
pub mod Items
pub mod Passes
pub mod NameErrors
pub mod Numbers
pub mod Build
