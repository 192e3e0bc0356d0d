pub mod Standing
pub mod Mindful
pub mod Broadcasts
pub mod Addressed
pub mod Told
pub mod FileSlaves
pub mod OwnSignals
pub mod Planned
