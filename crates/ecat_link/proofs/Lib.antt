mod Serving
mod Driving
mod Losses
mod Repeating
mod Trying
pub mod Exported
