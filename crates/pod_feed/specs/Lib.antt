-- what public clauses cite: what a feed tells, and how it ends
pub mod Feeds
pub mod EachChange
-- What a version has to report, and the texts of notices.
pub mod Notices
pub mod News
-- internal: cited by private clauses alone
pub mod Turns
