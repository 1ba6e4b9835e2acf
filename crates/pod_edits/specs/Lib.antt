-- where a new row goes, which tests refuse a change, and its edits
pub mod Places
pub mod Refusals
pub mod Edits
pub mod Allowed
pub mod Kinds
