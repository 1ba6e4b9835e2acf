use Rattle.std.proofs.Common.{◌∷◌, [], ◌++◌, inl, sym, ◌∙◌}
use Rattle.store_cases.proofs.KnownPairs.{clean_of, known_append}
use Rattle.store_cases.proofs.store.Store.append.Goals as goal

pub invariant_of-self : goal.invariant_of-self
invariant_of-self c =
    let clean = clean_of c.self.inside.first c.self.inside.second c.self.inside.pair (sym c.needs_repair.ensures ∙ c.if-needs_repair.false) c.self.invariant in
    inl (clean.0 ++ c.args.framed.now ∷ [], c.in-Ok.ensures.appended clean.0 clean.1)

pub invariant_of-self-in-Err : goal.invariant_of-self-in-Err
invariant_of-self-in-Err c =
    let clean = clean_of c.self.inside.first c.self.inside.second c.self.inside.pair (sym c.needs_repair.ensures ∙ c.if-needs_repair.false) c.self.invariant in
    known_append _ _ _ clean.0 c.args.framed.now (c.in-Err.ensures.fault clean.0 clean.1)
