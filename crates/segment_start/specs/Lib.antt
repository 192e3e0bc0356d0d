pub mod Start
pub mod Numbered
