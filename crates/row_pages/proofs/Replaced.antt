-- A part that is changed in its place.
use Rattle.std.proofs.Common.{subst, ◌≡◌, ◌+◌, ◌<◌, ◌≤◌, ℕ, List, ◌∷◌, ◌++◌, length, get_or, take, drop, set, take-append-drop, Option, Some, None, sym, ap, ◌∙◌, arith}
use Rattle.std.specs.Prelude.{IfNone, IfSome}
use Rattle.std.specs.List.{flat_map}
use Rattle.std.proofs.lemmas.List.{take-set, drop-set}
use Rattle.row_pages.specs.Borders.{AreBefore, AreAfter}
use Rattle.row_pages.specs.Items.{Placed, AreItemsInOrder, put_item}
use Rattle.row_pages.specs.Nodes.{HaveItems, IsNode}
use Rattle.row_pages.proofs.Changed.{order_put}
use Rattle.row_pages.proofs.Around.{items_around, order_part, put_around}
use Rattle.row_pages.proofs.Joined.{have_append, have_left, have_right, length_append}
use Rattle.row_pages.proofs.Taken.{taken_whole}

set_whole : {X : Type 0} (parts : List X) (place : ℕ) (part : X) → place < length parts → set parts place part ≡ take place parts ++ part ∷ drop (place + 1) parts
set_whole parts place part within =
    sym (take-append-drop place (set parts place part))
    ∙ ap (λ ys. ys ++ drop place (set parts place part)) (take-set parts place part)
    ∙ ap (λ ys. take place parts ++ ys) (drop-set parts place part within)

-- the parts before and after one, of which a change made another
pub record IsChangedAt {X : Type 0} (parts new : List X) (place : ℕ) (old part : X) : Type 0 where
  pub whole : parts ≡ take place parts ++ old ∷ drop (place + 1) parts
  pub after : new ≡ take place parts ++ part ∷ drop (place + 1) parts

pub changed_at : {X : Type 0} (parts slice : List X) (place : ℕ) (old part : X) → slice ≡ parts → place < length slice → old ≡ get_or parts place old → IsChangedAt parts (set parts place part) place old part
changed_at parts slice place old part e within value =
    let w : place < length parts = subst (λ ps. place < length ps) e within in
    record { whole = taken_whole parts place old w value; after = set_whole parts place part w }

pub changed_count : {X : Type 0} (items : X → List Placed) (parts new : List X) (place : ℕ) (old part : X) → IsChangedAt parts new place old part → length (items part) ≡ length (items old)
    → length (flat_map items new) ≡ length (flat_map items parts)
changed_count items parts new place old part c same =
    let before : List Placed = flat_map items (take place parts) in
    let after : List Placed = flat_map items (drop (place + 1) parts) in
    let was = ap (λ ps. length (flat_map items ps)) c.whole ∙ ap length (items_around items (take place parts) (drop (place + 1) parts) old) in
    let is = ap (λ ps. length (flat_map items ps)) c.after ∙ ap length (items_around items (take place parts) (drop (place + 1) parts) part) in
    let w1 = length_append before (items old ++ after) in
    let w2 = length_append (items old) after in
    let i1 = length_append before (items part ++ after) in
    let i2 = length_append (items part) after in
    omega (arith, same, was, is, w1, w2, i1, i2)

pub changed_few : {X : Type 0} (parts new : List X) (place : ℕ) (old part : X) → IsChangedAt parts new place old part → length new ≡ length parts
changed_few parts new place old part c =
    let was = ap length c.whole ∙ length_append (take place parts) (old ∷ drop (place + 1) parts) in
    let is = ap length c.after ∙ length_append (take place parts) (part ∷ drop (place + 1) parts) in
    omega (arith, was, is)

pub changed_have : {X : Type 0} (items : X → List Placed) (parts new : List X) (place : ℕ) (old part : X) → IsChangedAt parts new place old part → length (items part) ≡ length (items old)
    → HaveItems items parts → HaveItems items new
changed_have items parts new place old part c same h =
    let all : HaveItems items (take place parts ++ old ∷ drop (place + 1) parts) = subst (HaveItems items) c.whole h in
    let left : HaveItems items (take place parts) = have_left items (take place parts) (old ∷ drop (place + 1) parts) all in
    let right : HaveItems items (old ∷ drop (place + 1) parts) = have_right items (take place parts) (old ∷ drop (place + 1) parts) all in
    let some : 0 < length (items old) = right.0 in
    subst (HaveItems items) (sym c.after) (have_append items (take place parts) (part ∷ drop (place + 1) parts) left (omega (arith, same, some), right.1))

pub changed_kept : {X : Type 0} (parts new : List X) (place : ℕ) (old part : X) → IsChangedAt parts new place old part → part ≡ old → new ≡ parts
changed_kept parts new place old part c same = c.after ∙ ap (λ x. take place parts ++ x ∷ drop (place + 1) parts) same ∙ sym c.whole

pub changed_order : {X : Type 0} (items : X → List Placed) (parts new : List X) (place : ℕ) (old part : X) → IsChangedAt parts new place old part → AreItemsInOrder (flat_map items parts) → AreItemsInOrder (items old)
changed_order items parts new place old part c o = order_part items parts (take place parts) (drop (place + 1) parts) old c.whole o

pub changed_put : {X : Type 0} (items : X → List Placed) (parts new : List X) (place : ℕ) (old part : X) (i : Placed) → IsChangedAt parts new place old part → items part ≡ put_item (items old) i
    → AreBefore i.row.path (flat_map items (take place parts)) → AreAfter i.row.path (flat_map items (drop (place + 1) parts)) → flat_map items new ≡ put_item (flat_map items parts) i
changed_put items parts new place old part i c p a b =
    ap (flat_map items) c.after ∙ items_around items (take place parts) (drop (place + 1) parts) part
    ∙ ap (λ is. flat_map items (take place parts) ++ (is ++ flat_map items (drop (place + 1) parts))) p
    ∙ sym (put_around items parts (take place parts) (drop (place + 1) parts) old i c.whole a b)

pub node_kept : {X : Type 0} (items : X → List Placed) (was old new : List X) → old ≡ was → length new ≡ length old → (HaveItems items old → HaveItems items new) → IsNode items was → IsNode items new
node_kept items was old new e few each n =
    let same = ap length e in
    let some : 0 < length was = n.some in
    let most : length was ≤ 64 = n.few in
    record {
      some = omega (arith, few, same, some);
      few = omega (arith, few, same, most);
      each = each (subst (HaveItems items) (sym e) n.each);
    }

-- ---- what a call gives back

pub none_then : {Y : Type 0} (o : Option Y) {P Q : Type 0} → IfNone o P → (P → Q) → IfNone o Q
none_then None h f = f h
none_then (Some y) h f = tt

pub order_then : {Y : Type 0} (o : Option Y) (old new : List Placed) (i : Placed) → IfNone o (new ≡ put_item old i) → IfSome o (λ _. new ≡ old) → AreItemsInOrder old → AreItemsInOrder new
order_then None old new i p k h = subst AreItemsInOrder (sym p) (order_put old i h)
order_then (Some y) old new i p k h = subst AreItemsInOrder (sym k) h

pub some_then : {Y : Type 0} (o : Option Y) {P Q : Type 0} → IfSome o (λ _. P) → (P → Q) → IfSome o (λ _. Q)
some_then None h f = tt
some_then (Some y) h f = f h
