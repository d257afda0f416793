pub mod DeskSteps
pub mod Numbers
