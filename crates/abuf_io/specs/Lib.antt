pub mod Causes
pub mod Fetching
pub mod Whole
pub mod Plans
pub mod Memory
pub mod Adapters
pub mod Appended
pub mod Sinks
