pub mod SameKeys
pub mod AlikeAfter
pub mod PodsAtEnd
pub mod AlikeItems
pub mod SameItems
pub mod SameRuns
pub mod AlikeSessions
-- internal
mod Sessions
mod Makers
mod Histories
mod Acknowledged
mod Progress
mod Events
