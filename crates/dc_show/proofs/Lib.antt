mod Texts
mod Passing
mod Continuing
mod Digits
mod OneLine
mod OneAnswer
pub mod Exported
