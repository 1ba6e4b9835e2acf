-- What public clauses cite, here and in the crates above.
pub mod Counts
pub mod Visible
pub mod Memory
pub mod Links
pub mod Gates
pub mod Wires
-- what a sink has after texts were written to it
pub mod Writing
