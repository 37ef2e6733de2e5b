mod BagLemmas
pub mod DocumentLemmas
mod EnteringLemmas
mod EntryFits
mod EntryLemmas
mod FitResults
mod FoundLemmas
pub mod Lengths
pub mod OneDraft
mod Positions
mod ResultLemmas
mod SignersLemmas
