pub mod Scans
pub mod ScansLaws
