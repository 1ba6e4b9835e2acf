pub mod Classes
pub mod Pattern
pub mod Terminals
pub mod Tokens
pub mod LexerState
pub mod Laws
-- internal: cited by private clauses alone
pub mod ClassOf
pub mod Delimited
pub mod Groups
pub mod LexerInvariant
pub mod Names
pub mod Numbers
pub mod Runs
pub mod WithoutToken
