-- the lines of a table, and who makes a request
pub mod TableLines
pub mod Credentials
-- internal: cited by private clauses alone
pub mod Places
pub mod Reading
