-- the lines of a report, and what a line has to say to check
pub mod Reports
pub mod Checked
-- internal: cited by private clauses alone
pub mod Decisions
pub mod Subjects
