-- what the records of a journal hold, and what two disks represent by it
pub mod Records
pub mod PodStores
pub mod Readings
pub mod OpenedStores
-- internal: cited by private clauses alone
pub mod Made
pub mod Touched
pub mod LoneChanges
