pub mod AttributeLists
pub mod CertificateIds
pub mod CertificateLemmas
pub mod OneFault
pub mod PlaceLemmas
pub mod Sameness
pub mod SetLemmas
pub mod SignerAttributes
