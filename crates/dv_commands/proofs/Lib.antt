pub mod SendingLemmas
pub mod CertificateLemmas
pub mod AnswerLemmas
pub mod LifeLemmas
pub mod ServingLemmas
