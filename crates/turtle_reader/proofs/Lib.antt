pub mod Sequences
pub mod Holding
pub mod Stepping
pub mod Handing
pub mod Words
pub mod OneLexeme
pub mod Firsts
pub mod OneFault
pub mod OneText
pub mod Walking
-- kept for the crates above
pub mod DocumentLemmas
