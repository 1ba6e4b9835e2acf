-- where a head ends, and what it parses to
pub mod HeadEnds
pub mod Heads
pub mod Fields
-- how its body is framed, and what it asks of its connection
pub mod Decimals
pub mod BodyFraming
pub mod Persistence
pub mod Expectation
-- what a search of a text that grows has scanned
pub mod HeadScan
