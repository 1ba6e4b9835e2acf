use Rattle.std.proofs.Common.{◌++◌, ◌∷◌, [], codes}
use Rattle.pod_responses.specs.Allow.{allow_text}
use Rattle.pod_responses.specs.Links.{field, type_links, about_links}
use Rattle.pod_responses.specs.Responses.{resource_fields, allow, accept_patch}
use Rattle.pod_responses.proofs.Appending.{then}
use Rattle.pod_responses.proofs.read_responses.add_resource_fields.Goals as goal

pub returns : goal.returns
unfolding resource_fields
returns c = then c.add_accept_patch.result c.args.fields.now c.add_type_links.new.fields c.add_accept_patch.new.fields (type_links c.args.path.now) ((about_links c.args.base.now c.args.path.now) ++ ((field (codes "WAC-Allow") c.args.granted ∷ []) ++ ((allow (allow_text c.args.path.now) ∷ []) ++ (accept_patch ∷ []))))
    c.in_ok-add_type_links.ensures (then c.add_accept_patch.result c.add_type_links.new.fields c.add_about_links.new.fields c.add_accept_patch.new.fields (about_links c.args.base.now c.args.path.now) ((field (codes "WAC-Allow") c.args.granted ∷ []) ++ ((allow (allow_text c.args.path.now) ∷ []) ++ (accept_patch ∷ [])))
    c.in_ok-add_about_links.ensures (then c.add_accept_patch.result c.add_about_links.new.fields c.add.new.fields c.add_accept_patch.new.fields (field (codes "WAC-Allow") c.args.granted ∷ []) ((allow (allow_text c.args.path.now) ∷ []) ++ (accept_patch ∷ []))
    c.in_ok-add.ensures (then c.add_accept_patch.result c.add.new.fields c.add_allow.new.fields c.add_accept_patch.new.fields (allow (allow_text c.args.path.now) ∷ []) (accept_patch ∷ [])
    c.in_ok-add_allow.ensures (c.add_accept_patch.ensures))))
