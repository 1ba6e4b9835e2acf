pub mod Decided
pub mod Members
pub mod CheckedRules
pub mod ReportLines
