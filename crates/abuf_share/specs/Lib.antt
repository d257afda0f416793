pub mod Desk
pub mod Numbered
