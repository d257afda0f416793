pub mod Picture
pub mod Drawn
pub mod Redrawing
pub mod Resolving
