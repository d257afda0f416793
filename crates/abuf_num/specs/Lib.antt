pub mod Division
pub mod Decimal
pub mod Paints
pub mod DecimalParts
pub mod Size
pub mod Leading
pub mod Texts
pub mod Counting
