mod LossLemmas
pub mod Exported
