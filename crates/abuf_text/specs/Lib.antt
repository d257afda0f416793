pub mod Lines
pub mod Statement
pub mod Rest
pub mod Split
pub mod Names
