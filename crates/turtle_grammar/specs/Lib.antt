pub mod Trees
pub mod TreeSymbols
pub mod Productions
pub mod Derivations
pub mod Names
pub mod Readings
pub mod Laws
-- internal: cited by private clauses alone
pub mod Stacks
pub mod Named
