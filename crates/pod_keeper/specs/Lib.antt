-- what holds a history
pub mod Stored
pub mod CrashedPods
-- what a keeper represents, and what its calls do to it
pub mod KeeperState
pub mod Kept
pub mod KeeperDisks
pub mod Commits
pub mod Plans
pub mod CommitEvents
pub mod KeeperRuns
pub mod RunMoments
pub mod OpenedPods
pub mod NewStores
-- what an opening gives after a crash, and what a crash leaves while it opens
pub mod Reopened
