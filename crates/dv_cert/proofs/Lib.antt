pub mod AttributeLemmas
pub mod LeaveLemmas
pub mod OrderLemmas
pub mod RoomLemmas
