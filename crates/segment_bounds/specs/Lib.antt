pub mod Bounds
pub mod Window
pub mod Bounded
