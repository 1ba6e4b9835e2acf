use Rattle.std.proofs.Common.{ℕ, List, ◌||◌, false, true, refl, sym, ap, ◌∙◌, string_bytes}
use Rattle.std.specs.BTreeSet.{contains_text}
use Rattle.std.proofs.lemmas.Map.Text.{btree_set_updates_text}
use Rattle.jsonld_expanded.specs.Nodes.{has_label}
use Rattle.jsonld_expanded.proofs.LabelSets.{labels_of_text-none, one_label_more, or-false}
use Rattle.jsonld_expanded.proofs.used_labels.insert_text.Goals as goal

pub returns-in-None : goal.returns-in-None
returns-in-None c = λ l. sym (ap (λ ls. contains_text c.args.labels.now l || has_label ls l) (labels_of_text-none c.args.text.now c.in-None.ensures.none) ∙ or-false (contains_text c.args.labels.now l))

pub returns-in_ok-insert-in-Some : goal.returns-in_ok-insert-in-Some
returns-in_ok-insert-in-Some c =
    let key = string_bytes c.in_ok-label-in-Some.label in
    one_label_more (contains_text c.args.labels.now) (contains_text c.insert.new.self) c.args.text.now c.in-Some.label.now key c.in-Some.ensures.some c.in_ok-label-in-Some.ensures.ok
    (λ l. btree_set_updates_text key c.args.labels.now c.insert.new.self true c.in_ok-insert-in-Some.ensures.updates l)
