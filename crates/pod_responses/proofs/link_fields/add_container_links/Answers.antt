use Rattle.std.proofs.Common.{◌++◌, ◌∷◌, [], codes}
use Rattle.pod_responses.specs.Links.{container_links, type_link}
use Rattle.pod_responses.proofs.Appending.{then}
use Rattle.pod_responses.proofs.link_fields.add_container_links.Goals as goal

pub returns : goal.returns
unfolding container_links
returns c = rw (c.if-not-container.false) (then c.add_static-2.result c.args.fields.now c.add_static.new.fields c.add_static-2.new.fields (type_link (codes "http://www.w3.org/ns/ldp#Container") ∷ []) (type_link (codes "http://www.w3.org/ns/ldp#BasicContainer") ∷ [])
    c.in_ok-add_static.ensures (c.add_static-2.ensures))
