pub mod Marks
pub mod Outcomes
pub mod Pieces
pub mod Replies
pub mod Expected
pub mod RenderCalls
