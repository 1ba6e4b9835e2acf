-- the order of the refusals that come before all that depends on the pod
pub mod Order
-- the refusals of a granted request, as one table
pub mod RankConditions
pub mod RankTable
-- that requests have replies
pub mod SomeReplies
-- runs of two pods by several agents that one agent can't tell apart
pub mod PairedRuns
pub mod Laws
