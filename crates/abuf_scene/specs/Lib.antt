pub mod Triangles
pub mod Lookup
pub mod Demo
pub mod Drawing
