pub mod DlStatus
pub mod Listed
pub mod Refusals
pub mod Status
