use Rattle.std.proofs.Common.{◌≡◌, List, ℕ, ap}
use Rattle.conditional_req.specs.declared.tag.Tag.{Tag}
use Rattle.pod_command.specs.GraphTexts.{type_name}
use Rattle.pod_representations.specs.Representations.{tag}
use Rattle.pod_representations.proofs.representation.tag_by_digest.Goals as goal

pub returns : goal.returns
unfolding tag
returns c = ap as_tag (c.tag_of.ensures (type_name c.args.media) c.args.shown.now.text c.requires)
  where
    as_tag : List ℕ → Tag
    as_tag text = record { 0 = text }
