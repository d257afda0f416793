pub mod Rounding
pub mod Powers
pub mod Signs
pub mod Notation
pub mod Ranges
pub mod Counting
pub mod Estimates
