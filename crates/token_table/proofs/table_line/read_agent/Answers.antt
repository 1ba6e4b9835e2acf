use Rattle.std.proofs.Common.{Some, None, Err, cond, sym, ◌∙◌, ap, subst}
use Rattle.iri_ref.specs.Components.{IsAbsolute}
use Rattle.token_table.proofs.CutLemmas.{agent_from, agent_is, agent_utf8, no_agent}
use Rattle.token_table.proofs.table_line.read_agent.Goals as goal

-- no UTF-8
pub returns-in_default : goal.returns-in_default
returns-in_default c = sym (ap (λ b. cond b (Some c.args.bytes.now) None) (no_agent c.args.bytes.now (λ h. c.in_default.ensures.cases.0 (agent_utf8 c.args.bytes.now h))))

-- an absolute IRI
pub returns-in_ok-agent-in-Ok-read : goal.returns-in_ok-agent-in-Ok-read
returns-in_ok-agent-in-Ok-read c =
    let same = c.in-Ok.ensures.cases.0 in
    let is = agent_from c.args.bytes.now c.in-Ok.ensures.cases.1 (subst IsAbsolute same c.in-Ok-read.ensures.absolute) in
    ap (λ t. Some t) (c.in_ok-agent-in-Ok-read.ensures ∙ c.as_str.ensures.text ∙ c.in-Ok-read.ensures.text ∙ same)
    ∙ sym (ap (λ b. cond b (Some c.args.bytes.now) None) is)

-- none
pub returns-in-Err-BadReference : goal.returns-in-Err-BadReference
returns-in-Err-BadReference c =
    let same = c.in-Ok.ensures.cases.0 in
    sym (ap (λ b. cond b (Some c.args.bytes.now) None) (no_agent c.args.bytes.now (λ h. c.in-Err-BadReference.ensures.bad_reference.0 (ap (λ f. Err f) c.in-Err-BadReference.field-0-is) (subst IsAbsolute (sym same) (agent_is c.args.bytes.now h)))))
