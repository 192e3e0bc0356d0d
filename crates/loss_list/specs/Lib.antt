pub mod Losses
pub mod LossTable
pub mod InsideLosses
