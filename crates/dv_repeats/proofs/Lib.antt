pub mod WindowLemmas
pub mod ApartLemmas
pub mod ScanLemmas
pub mod GoneLemmas
