pub mod CertificateLemmas
pub mod ChainLemmas
pub mod LineLemmas
pub mod Putting
pub mod RequestLemmas
pub mod ValidateLemmas
