-- The first pod: the root, and its access list, by which the owner has every mode on every
-- resource.
use Rattle.std.specs.Prelude.{ℕ, IsTrue, List, [], ◌∷◌, ◌++◌, codes}
use Rattle.acl_rules.specs.Statements.{statement}
use Rattle.acl_rules.specs.Vocabulary.{rdf_type, acl_authorization, acl_access_to, acl_agent}
use Rattle.acl_rules.specs.Vocabulary.{acl_default, acl_mode, acl_control, acl_read, acl_write}
use Rattle.pod_base.specs.declared.moment.Moment.{Moment}
use Rattle.pod_command.specs.declared.row.Content.TheVariants as contents
use Rattle.pod_command.specs.declared.row.Kind.TheVariants as kinds
use Rattle.pod_command.specs.declared.row.Row.{Row}
use Rattle.pod_path.specs.Hierarchy.{root}
use Rattle.pod_rows.specs.Base.{is_base}
use Rattle.pod_rows.specs.Pod.{Pod}
use Rattle.pod_rows.specs.WellFormed.{WellFormed}
use Rattle.rdf_graph.specs.declared.term.Term.TheVariants.{Iri}
use Rattle.rdf_graph.specs.declared.triple.Triple.{Triple}

-- the node of the owner's rule
abbrev pub rule_iri : List ℕ → List ℕ
rule_iri base = base ++ codes ".acl#owner"

-- what the rule is about, and whom it covers
abbrev pub subject_triples : List ℕ → List ℕ → List ℕ → List Triple
subject_triples base owner rule =
    statement (Iri rule) rdf_type acl_authorization
    ∷ statement (Iri rule) acl_access_to base
    ∷ statement (Iri rule) acl_agent owner
    ∷ statement (Iri rule) acl_default base
    ∷ []

-- the modes that it grants
abbrev pub mode_triples : List ℕ → List Triple
mode_triples rule =
    statement (Iri rule) acl_mode acl_control
    ∷ statement (Iri rule) acl_mode acl_read
    ∷ statement (Iri rule) acl_mode acl_write
    ∷ []

-- The owner's rule, in the order of graphs.
unfoldable pub owner_triples : List ℕ → List ℕ → List Triple
owner_triples base owner =
    subject_triples base owner (rule_iri base) ++ mode_triples (rule_iri base)

-- the root, a container without triples of its own
abbrev pub root_row : Moment → Row
root_row modified = record {
  path = root;
  kind = kinds.Container;
  content = contents.Graph [];
  modified = modified;
}

-- the access list of the root
abbrev pub list_row : List ℕ → List ℕ → Moment → Row
list_row base owner modified = record {
  path = codes "/.acl";
  kind = kinds.Acl;
  content = contents.Graph (owner_triples base owner);
  modified = modified;
}

-- The pod with that base and that owner, whose two rows have that moment.
abbrev pub first_pod : List ℕ → List ℕ → Moment → Pod
first_pod base owner modified = record {
  base = base;
  owner = owner;
  rows = root_row modified ∷ list_row base owner modified ∷ [];
}

-- Such a pod is well-formed, whoever its owner is, where its base has the form of a base.
abbrev pub FirstPodsAreWellFormed : Type 0
FirstPodsAreWellFormed = (base owner : List ℕ) (modified : Moment) → IsTrue (is_base base)
    → WellFormed (first_pod base owner modified)
