pub mod Batches
pub mod Paths
pub mod Sequences
pub mod Single
