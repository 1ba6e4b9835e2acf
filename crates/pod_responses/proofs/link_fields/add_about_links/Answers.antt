use Rattle.std.proofs.Common.{◌++◌, ◌∷◌, [], codes}
use Rattle.pod_responses.specs.Links.{about_links, link_to}
use Rattle.pod_responses.proofs.Appending.{then}
use Rattle.pod_responses.proofs.link_fields.add_about_links.Goals as goal

pub returns : goal.returns
unfolding about_links
returns c = rw (← c.in_ok-list.ensures, ← c.in_ok-description.ensures.meta) (then c.add_link_to-2.result c.args.fields.now c.add_link_to.new.fields c.add_link_to-2.new.fields (link_to c.args.base.now (codes "acl") c.in_ok-list.list) (link_to c.args.base.now (codes "describedby") c.in_ok-description.description)
    c.in_ok-add_link_to.ensures (c.add_link_to-2.ensures))
