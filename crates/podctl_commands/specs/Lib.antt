-- how the commands end, and what they print
pub mod Ends
pub mod Making
pub mod Texts
pub mod Prints
pub mod CountedEnds
pub mod Laws
-- what a read is, what a follower makes of frames, how a run ends, and what it has read and written
-- then
pub mod Reads
pub mod Following
pub mod FollowEnds
pub mod FollowLaws
-- what `ship` writes, and what `report` prints
pub mod Ships
pub mod Lines
-- internal: cited by private clauses alone
pub mod Records
pub mod Heads
pub mod Steps
pub mod Endings
