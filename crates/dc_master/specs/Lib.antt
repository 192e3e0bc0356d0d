pub mod Answered
pub mod Places
pub mod Made
pub mod Inside
