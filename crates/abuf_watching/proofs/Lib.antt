pub mod Around
pub mod LastLooks
pub mod Gathered
pub mod Zipped
pub mod Told
