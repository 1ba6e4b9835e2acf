use Rattle.std.proofs.Common.{◌≡◌, ℕ, Bool, false, List, refl, sym, ap, ◌∙◌, subst}
use mathlib.Core.Path.{fun_ext}
use Rattle.std.specs.BTreeSet.{contains_text}
use Rattle.serde_json.specs.View.{view}
use Rattle.serde_json.specs.Data.{Data}
use Rattle.jsonld_expanded.specs.declared.walk_scope.Scope.{Scope as Kept}
use Rattle.jsonld_expanded.specs.Expands.{Scope, State, WalksDocument, scope_of, start}
use Rattle.jsonld_expanded.specs.Nodes.{has_label, labels_in}
use Rattle.jsonld_expanded.specs.Walks.{Advances, HasLabelsOf, Refuses, scope_view}
use Rattle.jsonld_expanded.proofs.Steps.{handed}
use Rattle.jsonld_expanded.proofs.document_reading.walk_of.Goals as goal

-- what the code keeps of a document is its scope
same_scope : (kept : Kept) (base : List ℕ) (value : Data) → kept.base.now ≡ base → HasLabelsOf kept value → scope_view kept ≡ scope_of base value
same_scope kept base value is labels =
    let taken : contains_text kept.labels ≡ has_label (labels_in false value) = fun_ext labels in
    ap (λ b. record { base = b; taken = contains_text kept.labels }) is ∙ ap (λ t. record { base = base; taken = t }) taken

pub returns-clause-walked : goal.returns-clause-walked
returns-clause-walked c =
    let value = view c.args.value.now in
    let same = same_scope c.in_ok-scope.scope c.args.base.now value c.in_ok-scope.ensures.base c.in_ok-scope.ensures.labels in
    let walked = c.in_ok-document.ensures.ok start c.new-walk.ensures in
    record {
      triples = walked.0.triples;
      expands = record { end = walked.0; walk = subst (λ (scope : Scope). WalksDocument scope value start walked.0) same walked.1; said = refl };
      size = walked.2.size;
      kept = walked.2.kept;
      rdf = walked.2.rdf;
    }

pub returns-in_err-document-clause-out : goal.returns-in_err-document-clause-out
returns-in_err-document-clause-out c = λ refused triples expands.
    let value = view c.args.value.now in
    let same = same_scope c.in_ok-scope.scope c.args.base.now value c.in_ok-scope.ensures.base c.in_ok-scope.ensures.labels in
    c.in_err-document.ensures.out (handed c.from_residual-in_err-document.result c.in_err-document.field-0.0 _ c.from_residual-in_err-document.ensures.1 refused) start c.new-walk.ensures expands.end
    (subst (λ (scope : Scope). WalksDocument scope value start expands.end) (sym same) expands.walk)
