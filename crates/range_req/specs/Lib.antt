-- numbers in digits, the ranges of a field, and the parts that they are
pub mod Numbers
pub mod ByteRanges
pub mod RangeSets
-- the body of a response with several parts
pub mod Multipart
-- internal: cited by private clauses alone
pub mod Boundaries
