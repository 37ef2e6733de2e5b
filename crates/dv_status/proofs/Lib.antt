pub mod FailLemmas
pub mod StatusLemmas
