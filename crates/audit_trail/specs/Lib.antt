-- the two lines, and their words
pub mod Lines
