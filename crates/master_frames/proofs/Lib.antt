mod Miscounts
mod Shapes
mod Told
mod Left
mod Judging
pub mod Exported
