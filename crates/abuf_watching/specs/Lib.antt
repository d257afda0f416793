pub mod Grid
pub mod Looking
pub mod Watching
pub mod Report
pub mod Show
