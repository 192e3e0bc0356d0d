mod PlainLemmas
mod TextLemmas
mod RowLemmas
mod MigratedLemmas
mod LengthLemmas
mod FileLength
pub mod Exported
