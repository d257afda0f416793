pub mod Turns
pub mod Pushing
pub mod Drawn
pub mod Lookups
pub mod Putting
