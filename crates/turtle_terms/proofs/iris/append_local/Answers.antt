use Rattle.std.proofs.Common.{◌≡◌, ◌++◌, ℕ, List, IfOk, sym, subst}
use Rattle.iri_ref.specs.Characters.{AllAllowed}
use Rattle.turtle_terms.proofs.Decoding.{kept_value}
use Rattle.turtle_terms.proofs.iris.append_local.Goals as goal

pub append-requires : goal.append-requires
append-requires c = subst AllAllowed (kept_value c.args.local.now (c.has_backslash.ensures c.if-not-has_backslash.true)) c.requires

pub returns-then-not-has_backslash : goal.returns-then-not-has_backslash
returns-then-not-has_backslash c =
    subst (λ (v : List ℕ). IfOk c.append.result (λ iri. iri ≡ c.args.prefix.now ++ v))
    (sym (kept_value c.args.local.now (c.has_backslash.ensures c.if-not-has_backslash.true))) c.append.ensures
