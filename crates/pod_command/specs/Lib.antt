pub mod Bare
pub mod Encodable
pub mod GraphTexts
