pub mod CertInfoLemmas
mod CertificateLists
mod Copies
pub mod DraftLemmas
mod Imprints
pub mod LawLemmas
pub mod ListLemmas
pub mod MadeLemmas
mod Primitives
mod RecordLemmas
mod RecordSteps
mod RefusalPlaces
pub mod ServerLemmas
pub mod StatusLemmas
pub mod Statuses
mod Suches
mod Told
pub mod WellCertificates
