use Rattle.std.proofs.Common.{inl, inr, sym, ◌∙◌}
use Rattle.store_cases.proofs.KnownPairs.{doubt_of}
use Rattle.store_cases.proofs.store.Store.repair.Goals as goal

pub invariant_of-self : goal.invariant_of-self
invariant_of-self c =
    let doubt = doubt_of c.self.inside.first c.self.inside.second c.self.inside.pair (sym c.needs_repair.ensures ∙ c.if-not-needs_repair.false) c.self.invariant in
    inl (doubt.0, c.in-Ok.ensures.repaired doubt.0 doubt.1 doubt.2)

pub invariant_of-self-in-Err : goal.invariant_of-self-in-Err
invariant_of-self-in-Err c =
    let doubt = doubt_of c.self.inside.first c.self.inside.second c.self.inside.pair (sym c.needs_repair.ensures ∙ c.if-not-needs_repair.false) c.self.invariant in
    inr (doubt.0, doubt.1, c.in-Err.ensures.fault doubt.0 doubt.1 doubt.2)
