pub mod PiecesView
pub mod Received
pub mod View
pub mod Boxed
pub mod Targets
pub mod Bound
pub mod UserChoice
