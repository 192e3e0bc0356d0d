pub mod ConfigRange
pub mod Known
pub mod Asking
