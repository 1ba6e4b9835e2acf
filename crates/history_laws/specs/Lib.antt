-- sessions that ask the same
pub mod SameRequests
-- the entries of a history
pub mod Entries
-- which entries were acknowledged
pub mod Acknowledged
-- what a world may do next
pub mod Progress
-- one agent's session over two histories that the agent can't tell apart
pub mod Isolated
-- items that make the same requests
pub mod SameItems
