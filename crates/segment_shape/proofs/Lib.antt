mod EntryLemmas
mod FileLemmas
mod FileTextLemmas
mod ItemLemmas
mod LineFeedLemmas
mod PathLemmas
mod RangeLemmas
mod RateLemmas
mod ReadingLemmas
mod RowLemmas
mod TextLemmas
mod WrittenLemmas
pub mod Exported
