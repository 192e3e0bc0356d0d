pub mod Seen
pub mod InTime
pub mod Loses
