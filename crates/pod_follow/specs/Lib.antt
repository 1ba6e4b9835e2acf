-- what a follower takes, how far it comes, and the frames in which records are sent
pub mod Followed
pub mod Prefixes
pub mod Frames
