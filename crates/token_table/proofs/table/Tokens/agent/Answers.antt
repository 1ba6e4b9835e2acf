use Rattle.std.proofs.Common.{◌≡◌, Some, None, sym, ◌∙◌, ap, arith}
use Rattle.token_table.specs.TableLines.{agent_in}
use Rattle.token_table.specs.Places.{place_of}
use Rattle.token_table.proofs.TokenLemmas.{place_at, place_none, not_utf8}
use Rattle.token_table.proofs.table.Tokens.agent.Goals as goal

-- tokens are UTF-8
pub returns-in_default : goal.returns-in_default
returns-in_default c =
    sym (ap (λ table. agent_in table c.args.token.now) (sym c.self.view_is) ∙ not_utf8 c.args.token.now c.self.inside.entries.items c.self.invariant.texts c.in_default.ensures.cases.0)

pub index-requires : goal.index-requires
index-requires c =
    let at : place_of c.in-Ok.token.now c.self.inside.entries.items ≡ Some c.in-Some.at = sym (c.self.invariant.filed c.in-Ok.token.now) ∙ sym c.place.ensures ∙ c.in-Some.is in
    omega (arith, (place_at c.in-Ok.token.now c.self.inside.entries.items c.in-Some.at at).0, c.self.inside.entries.ok.0)

-- the agent at the token's place
pub returns-in-Some : goal.returns-in-Some
returns-in-Some c =
    let at : place_of c.in-Ok.token.now c.self.inside.entries.items ≡ Some c.in-Some.at = sym (c.self.invariant.filed c.in-Ok.token.now) ∙ sym c.place.ensures ∙ c.in-Some.is in
    ap (λ e. Some e.agent) c.index.ensures
    ∙ sym ((place_at c.in-Ok.token.now c.self.inside.entries.items c.in-Some.at at).1 c.index.result.now)
    ∙ ap (agent_in c.self.inside.entries.items) c.in-Ok.ensures.cases.0
    ∙ ap (λ table. agent_in table c.args.token.now) c.self.view_is

-- it has none
pub returns-in-None : goal.returns-in-None
returns-in-None c =
    let none : place_of c.in-Ok.token.now c.self.inside.entries.items ≡ None = sym (c.self.invariant.filed c.in-Ok.token.now) ∙ sym c.place.ensures ∙ c.in-None.is in
    sym (ap (agent_in c.args.self.now) (sym c.in-Ok.ensures.cases.0) ∙ ap (λ table. agent_in table c.in-Ok.token.now) (sym c.self.view_is) ∙ place_none c.in-Ok.token.now c.self.inside.entries.items none)
