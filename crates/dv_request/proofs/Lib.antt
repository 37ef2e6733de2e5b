pub mod ChainLemmas
pub mod DataLemmas
pub mod FitLemmas
pub mod MadeLemmas
pub mod MessageLemmas
pub mod StrictLemmas
pub mod TargetLemmas
pub mod WellLemmas
