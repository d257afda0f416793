pub mod Chunks
pub mod Grows
pub mod Workers
pub mod Bound
pub mod Order
