mod CertificateLists
mod Nexts
mod Seeds
