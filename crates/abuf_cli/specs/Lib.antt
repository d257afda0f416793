pub mod Options
pub mod Commands
pub mod Splits
pub mod Values
pub mod Job
pub mod Jobs
pub mod Poses
pub mod Sound
