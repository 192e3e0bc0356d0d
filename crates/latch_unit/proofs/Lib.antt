pub mod FirstTick
pub mod InTurn
