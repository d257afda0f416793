mod Reading
mod Drawing
mod Joining
mod Continuing
