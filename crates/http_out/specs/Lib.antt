-- what public clauses cite
pub mod Dates
pub mod Text
pub mod Calendar
-- internal: cited by private clauses alone
pub mod Segments
