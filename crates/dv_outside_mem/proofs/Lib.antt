pub mod SourceLemmas
pub mod ClockLemmas
pub mod JournalLemmas
pub mod StationLemmas
pub mod ImageLemmas
