pub mod Next
pub mod Layers
pub mod Taking
pub mod Offers
pub mod Rewrites
pub mod Seen
pub mod Members
pub mod Rows
