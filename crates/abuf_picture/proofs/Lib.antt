pub mod Credit
pub mod Sights
