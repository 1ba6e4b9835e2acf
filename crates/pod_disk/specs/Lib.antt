pub mod Disk
pub mod NotedCalls
pub mod Tears
-- internal: cited by private clauses alone
pub mod Laws
