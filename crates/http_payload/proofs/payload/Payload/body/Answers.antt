use Rattle.std.proofs.Common.{◌∙◌, ap, sym, subst}
use Rattle.http_payload.specs.Bodies.{IsBody}
use Rattle.http_payload.proofs.Representation.{body_of}
use Rattle.http_payload.proofs.payload.Payload.body.Goals as goal

pub returns-clause-decodes : goal.returns-clause-decodes
returns-clause-decodes c form text represents =
    subst (λ body. IsBody form text body) (sym (c.into_bytes.ensures ∙ ap (λ h. h.body) c.self.view_is))
    (body_of form c.args.self text represents c.requires)
