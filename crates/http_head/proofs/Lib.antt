-- kept for the crates above: laws of ends of heads, and of heads
pub mod HeadEndLaws
pub mod HeadLaws
-- internal
pub mod HeadEndSteps
pub mod LineFeeds
pub mod HeadScanLemmas
pub mod DecimalLemmas
pub mod BodyFramingLemmas
