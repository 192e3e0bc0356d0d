pub mod Merging
pub mod Answering
pub mod InOrder
pub mod Through
pub mod Step
pub mod Starting
pub mod Spared
