use Rattle.std.proofs.Common.{◌∙◌, ap, subst, sym, List, ℕ}
use Rattle.std.specs.Prelude.{option_copied}
use Rattle.pod_path.specs.Hierarchy.{subject_of}
use Rattle.pod_path.specs.Norm.{IsPath}
use Rattle.pod_rows.specs.Access.{about}
use Rattle.access_index.proofs.Governance.{about_path}
use Rattle.access_index.proofs.Resolving.{never_none}
use Rattle.access_index.proofs.table_lookup.resolve.Goals as goal

pub unreachable-requires : goal.unreachable-requires
unreachable-requires c =
    never_none c.args.lists.now c.as_bytes-text.result.now
    (subst IsPath (sym (c.as_bytes-text.ensures.value ∙ c.about.ensures ∙ ap (λ (p : List ℕ). about p (subject_of p)) c.as_str.ensures.text)) (about_path c.args.path.now c.as_str.ensures.path))
    c.requires.root (sym c.entry_at.ensures ∙ ap option_copied c.in-None.is) (sym c.entry_above.ensures ∙ ap option_copied c.in-None-entry_above.is)
