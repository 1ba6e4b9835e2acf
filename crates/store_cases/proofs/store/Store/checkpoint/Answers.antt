use Rattle.std.proofs.Common.{sym, ◌∙◌}
use Rattle.store_cases.proofs.KnownPairs.{clean_of, known_checkpoint}
use Rattle.store_cases.proofs.store.Store.checkpoint.Goals as goal

pub invariant_of-self-in-Err : goal.invariant_of-self-in-Err
invariant_of-self-in-Err c =
    let clean = clean_of c.self.inside.first c.self.inside.second c.self.inside.pair (sym c.needs_repair.ensures ∙ c.if-needs_repair.false) c.self.invariant in
    known_checkpoint _ _ _ clean.0 c.args.snapshot.now (c.in-Err.ensures.fault clean.0 clean.1)
