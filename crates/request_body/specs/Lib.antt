-- in which syntax a body is read, what it means, how faults are answered, laws
pub mod Syntaxes
pub mod Bodies
pub mod Refusals
pub mod Laws
