-- the offers of a row and the choice among them, what a row is shown as, the verdict on
-- preconditions, the response to a GET or HEAD, and what all of these depend on
pub mod Offers
pub mod Representations
pub mod Preconditions
pub mod ReadResponses
pub mod Laws
