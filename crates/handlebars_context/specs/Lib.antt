pub mod View
pub mod Borrowing
