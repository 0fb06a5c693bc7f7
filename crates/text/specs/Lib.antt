pub mod Decimal
pub mod DecimalLaws
pub mod Put
pub mod PutLaws
pub mod DigitLaws
pub mod WritingLaws
