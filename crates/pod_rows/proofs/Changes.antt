-- Rows after a change, and members.
use Rattle.std.proofs.Common.{◌≡◌, ◌↔◌, ℕ, Bool, true, false, cond, List, Some, None, sym, ap, ◌∙◌}
use Rattle.std.specs.Prelude.{IsTrue}
use Rattle.std.specs.List.{All, Contains}
use Rattle.std.proofs.lemmas.Bool.{false_from_ne_true}
use Rattle.acl_rules.specs.Vocabulary.{vcard_has_member}
use Rattle.pod_base.specs.declared.moment.Moment.{Moment}
use Rattle.pod_command.specs.declared.row.Content.{Content}
use Rattle.pod_command.specs.declared.row.Content.TheVariants as contents
use Rattle.pod_command.specs.declared.row.Kind.TheVariants as kinds
use Rattle.pod_command.specs.declared.row.Row.{Row}
use Rattle.rdf_graph.specs.Triple.{iri_triple}
use Rattle.rdf_graph.specs.declared.change.Change.{Change}
use Rattle.rdf_graph.specs.declared.triple.Triple.{Triple}
use Rattle.pod_rows.specs.Apply.{changed_row, with_content}
use Rattle.pod_rows.specs.GraphSets.{changed_graph, has_triple, has_triples}
use Rattle.pod_rows.specs.Members.{states_member}
use Rattle.pod_rows.proofs.Sets.{has_to, has_from, have_to, have_from}
use Rattle.pod_rows.proofs.Tests.{same_test}

pub member_is : (group agent : List ℕ) (g : List Triple) (b : Bool) → IsTrue b ↔ Contains g (iri_triple group vcard_has_member agent) → b ≡ states_member group agent kinds.Graph (contents.Graph g)
member_is group agent g b h =
    let t = iri_triple group vcard_has_member agent in
    same_test b (has_triple g t) (λ e. has_from g t (h.0 e)) (λ e. h.1 (has_to g t e))

chosen_row : (change : Change) (modified : Moment) (row : Row) (g : List Triple) (b : Bool) → has_triples g change.removed ≡ b
    → changed_row change modified row (contents.Graph g) ≡ cond b (Some (with_content row (contents.Graph (changed_graph g change.removed change.added)) modified)) None
chosen_row change modified row g b e =
    ap (λ (x : Bool). cond x (Some (with_content row (contents.Graph (changed_graph g change.removed change.added)) modified)) None) e

pub unfit : (change : Change) (modified : Moment) (row : Row) (g : List Triple) → row.content ≡ contents.Graph g → (All (Contains g) change.removed → ⊥)
    → None ≡ changed_row change modified row row.content
unfit change modified row g e h =
    sym (ap (changed_row change modified row) e
    ∙ chosen_row change modified row g false (false_from_ne_true (has_triples g change.removed) (λ t. h (have_to g change.removed t))))

abbrev row_with : List ℕ → Row → Content → Moment → Row
row_with path row content modified = record { path = path; kind = row.kind; content = content; modified = modified }

pub fit : (change : Change) (modified : Moment) (row : Row) (g : List Triple) (path : List ℕ) (new : List Triple) → row.content ≡ contents.Graph g → All (Contains g) change.removed
    → path ≡ row.path → new ≡ changed_graph g change.removed change.added
    → Some (row_with path row (contents.Graph new) modified) ≡ changed_row change modified row row.content
fit change modified row g path new e h p n =
    ap (λ (x : List ℕ). Some (row_with x row (contents.Graph new) modified)) p
    ∙ ap (λ (x : List Triple). Some (row_with row.path row (contents.Graph x) modified)) n
    ∙ sym (ap (changed_row change modified row) e ∙ chosen_row change modified row g true (have_from g change.removed h))
