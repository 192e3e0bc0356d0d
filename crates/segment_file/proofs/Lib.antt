mod CountLemmas
mod RunLemmas
mod RowLemmas
mod LegalLemmas
mod LossLaws
mod WrittenLemmas
mod ClockLaws
mod FaultLemmas
mod AnswerLemmas
pub mod Exported
