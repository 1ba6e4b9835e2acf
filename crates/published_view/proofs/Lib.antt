pub mod Appending
pub mod FrontTests
