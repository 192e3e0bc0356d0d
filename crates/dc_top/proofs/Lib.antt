mod Behind
pub mod Exported
mod Serving
mod Complete
mod Words
