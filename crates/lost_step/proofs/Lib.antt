mod Asking
mod Turns
mod Rows
mod Commission
pub mod Exported
