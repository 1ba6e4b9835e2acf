pub mod CalendarLemmas
-- internal
pub mod SegmentLemmas
