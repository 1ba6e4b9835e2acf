use Rattle.std.proofs.Common.{◌∙◌, ap, sym, subst}
use Rattle.http_payload.specs.PayloadState.{IsSoundPayload}
use Rattle.http_payload.proofs.Representation.{body_of, partial_of}
use Rattle.http_payload.proofs.payload.Payload.is_done.Goals as goal

pub returns-clause-whole : goal.returns-clause-whole
returns-clause-whole c known form text represents =
    body_of form c.args.self.now text represents (ap (λ h. h.stage) (sym c.self.view_is) ∙ c.is_end.ensures.yes known)

pub returns-clause-partial : goal.returns-clause-partial
returns-clause-partial c known form text represents =
    partial_of form c.args.self.now text represents (subst IsSoundPayload c.self.view_is c.self.invariant.0)
    (λ done. c.is_end.ensures.no known (ap (λ h. h.stage) c.self.view_is ∙ done))
