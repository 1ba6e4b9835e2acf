-- Changed parts, joined.
use Rattle.std.proofs.Common.{◌≡◌, ℕ, List, [], ◌∷◌, ◌++◌, Option, Some, None, sym, ap, ◌∙◌, append_assoc}
use Rattle.std.specs.Option.{option_to_list}
use Rattle.std.specs.List.{flat_map}
use Rattle.std.proofs.lemmas.List.{append-nil}
use Rattle.row_pages.specs.Borders.{AreBefore, AreAfter}
use Rattle.row_pages.specs.Items.{Placed, put_item, remove_item, items_below}
use Rattle.row_pages.specs.Parts.{items_if, items_of_both}
use Rattle.row_pages.proofs.Around.{put_around, removed_around}
use Rattle.row_pages.proofs.Below.{below_around}
use Rattle.row_pages.proofs.Joined.{joined_items}

pub put_done : {X : Type 0} (items : X → List Placed) (parts all before after : List X) (old part : X) (more : Option X) (i : Placed) → parts ≡ before ++ old ∷ after
    → all ≡ before ++ (option_to_list (Some part) ++ (option_to_list more ++ after)) → items_of_both items part more ≡ put_item (items old) i
    → AreBefore i.row.path (flat_map items before) → AreAfter i.row.path (flat_map items after) → flat_map items all ≡ put_item (flat_map items parts) i
put_done items parts all before after old part more i e j p a b =
    ap (flat_map items) j ∙ joined_items items before after (Some part) more ∙ ap (λ is. flat_map items before ++ (is ++ flat_map items after)) p ∙ sym (put_around items parts before after old i e a b)

pub removed_done : {X : Type 0} (items : X → List Placed) (parts all before after : List X) (old : X) (part : Option X) (p : List ℕ) → parts ≡ before ++ old ∷ after
    → all ≡ before ++ (option_to_list part ++ ([] ++ after)) → items_if items part ≡ remove_item (items old) p
    → AreBefore p (flat_map items before) → AreAfter p (flat_map items after) → flat_map items all ≡ remove_item (flat_map items parts) p
removed_done items parts all before after old part p e j r a b =
    ap (flat_map items) j ∙ joined_items items before after part None
    ∙ ap (λ is. flat_map items before ++ (is ++ flat_map items after)) (append-nil (items_if items part) ∙ r)
    ∙ sym (removed_around items parts before after old p e a b)

pub below_done : {X : Type 0} (items : X → List Placed) (parts before after : List X) (part : X) (p : List ℕ) (old mid new : List Placed) → parts ≡ before ++ part ∷ after → AreBefore p (flat_map items before)
    → mid ≡ old ++ items_below (items part) p → new ≡ mid ++ items_below (flat_map items after) p → new ≡ old ++ items_below (flat_map items parts) p
below_done items parts before after part p old mid new e a m n =
    n ∙ ap (λ is. is ++ items_below (flat_map items after) p) m ∙ append_assoc old (items_below (items part) p) (items_below (flat_map items after) p)
    ∙ ap (λ is. old ++ is) (sym (below_around items parts before after part p e a))
