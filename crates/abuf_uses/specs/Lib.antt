pub mod Masks
pub mod Seen
pub mod Lowest
pub mod Running
