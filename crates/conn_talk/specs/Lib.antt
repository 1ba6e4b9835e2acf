-- What public clauses cite: how requests are authenticated, what one request comes to, what the
-- items of a connection are and write, and what they say of a pod that others change too.
pub mod Agents
pub mod Trails
pub mod Turns
pub mod Talks
pub mod Walks
-- internal: cited by private clauses alone
pub mod Steps
