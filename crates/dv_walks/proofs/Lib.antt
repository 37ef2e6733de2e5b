pub mod GraphLemmas
pub mod OrderLemmas
pub mod LayerLemmas
pub mod WalkLemmas
pub mod FollowLemmas
pub mod FoundLemmas
pub mod AgreeLemmas
