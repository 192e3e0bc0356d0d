pub mod MasterOfFile
pub mod RunOfFile
pub mod AtEnd
pub mod Commissioned
