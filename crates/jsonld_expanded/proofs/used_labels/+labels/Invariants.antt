use Rattle.std.proofs.Common.{◌≡◌, ◌||◌, ℕ, List, drop}
use Rattle.std.specs.BTreeSet.{contains_text}
use Rattle.serde_json.specs.View.{items_view, members_view}
use Rattle.jsonld_expanded.specs.Nodes.{has_label, labels_in_items, labels_in_members}
use Rattle.jsonld_expanded.proofs.used_labels.+labels.Given as goal

-- with the labels of what is left the set has those of all
abbrev pub invariant-insert_item_labels-loop-item : goal.invariant-insert_item_labels-loop-item
invariant-insert_item_labels-loop-item l =
    (k : List ℕ) → (contains_text l.labels k || has_label (labels_in_items l.named (items_view (drop l.item-index l.item-items))) k) ≡ (contains_text l.initial.labels k || has_label (labels_in_items l.named (items_view l.item-items)) k)

abbrev pub invariant-insert_member_labels-loop-key : goal.invariant-insert_member_labels-loop-key
invariant-insert_member_labels-loop-key l =
    (k : List ℕ) → (contains_text l.labels k || has_label (labels_in_members (members_view l.key-iterator)) k) ≡ (contains_text l.initial.labels k || has_label (labels_in_members (members_view l.initial.key-iterator)) k)
