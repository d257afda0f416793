pub mod Chunks
pub mod Growing
pub mod Taken
pub mod Serving
pub mod Halves
mod Counted
pub mod Ordered
