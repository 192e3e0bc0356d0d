pub mod Text
pub mod SlaveText
pub mod HeadText
pub mod Migrated
