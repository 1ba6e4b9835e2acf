-- what public clauses cite
pub mod Messages
pub mod ParserStates
pub mod SingleRequest
-- internal: cited by private clauses alone
pub mod ParserSteps
