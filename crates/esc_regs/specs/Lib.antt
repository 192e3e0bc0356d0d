pub mod Kinds
pub mod RegisterTable
pub mod RegisterBytes
pub mod RegisterAccess
pub mod RegisterFile
pub mod RegisterWrite
pub mod StartOfRegisters
pub mod ShownRegisters
