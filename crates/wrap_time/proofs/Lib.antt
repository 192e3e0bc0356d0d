mod Near
mod Cuts
mod Extending
pub mod Exported
