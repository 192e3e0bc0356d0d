pub mod FrameText
pub mod Shown
pub mod FaultText
