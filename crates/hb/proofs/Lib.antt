pub mod Reported
pub mod NamedPages
pub mod Statuses
