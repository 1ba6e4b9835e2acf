use Rattle.std.proofs.Common.{◌++◌, ◌∷◌, [], codes}
use Rattle.pod_responses.specs.Links.{type_links, type_link, container_links, storage_links}
use Rattle.pod_responses.proofs.Appending.{then}
use Rattle.pod_responses.proofs.link_fields.add_type_links.Goals as goal

pub returns : goal.returns
unfolding type_links
returns c = rw (← c.is_container.ensures, ← c.is_root.ensures) (then c.add_storage_link.result c.args.fields.now c.add_static.new.fields c.add_storage_link.new.fields (type_link (codes "http://www.w3.org/ns/ldp#Resource") ∷ []) ((container_links c.is_container.result) ++ (storage_links c.is_root.result))
    c.in_ok-add_static.ensures (then c.add_storage_link.result c.add_static.new.fields c.add_container_links.new.fields c.add_storage_link.new.fields (container_links c.is_container.result) (storage_links c.is_root.result)
    c.in_ok-add_container_links.ensures (c.add_storage_link.ensures)))
