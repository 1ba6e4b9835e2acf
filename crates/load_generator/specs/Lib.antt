-- the requests of a run, and the line that it prints
pub mod Streams
pub mod Summaries
