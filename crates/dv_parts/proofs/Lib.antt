pub mod DraftLemmas
pub mod Elements
pub mod Flattened
pub mod MomentLemmas
pub mod RequestLemmas
