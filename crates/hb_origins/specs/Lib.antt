pub mod Line
pub mod Marks
pub mod Printed
pub mod Ends
