pub mod Rows
pub mod Placed
pub mod Above
mod Fullness
mod Stops
