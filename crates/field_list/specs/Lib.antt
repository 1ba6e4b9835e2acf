-- where a byte is outside of quotes, and the parts between separators there
pub mod Places
pub mod Parts
pub mod Pairs
pub mod QuotedString
-- the elements of a list, words in it, and the values of the fields of a name
pub mod Elements
pub mod Joined
pub mod Values
pub mod Words
