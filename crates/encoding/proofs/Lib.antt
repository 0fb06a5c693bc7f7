pub mod CodePointLaws
pub mod ReadsLaws
pub mod RowLaws
pub mod Scans
pub mod TablesRight
pub mod Utf8At
pub mod Utf8Reads
pub mod WideRunLaws
