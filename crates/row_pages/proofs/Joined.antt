-- Parts that are joined, and parts that have items.
use Rattle.std.proofs.Common.{subst, ◌≡◌, ◌+◌, ◌<◌, ◌≤◌, ℕ, Bool, true, false, not, List, [], ◌∷◌, ◌++◌, length, Option, Some, None, refl, sym, ap, ◌∙◌, arith, append_assoc}
use Rattle.std.specs.Option.{option_to_list}
use Rattle.std.specs.List.{flat_map}
use Rattle.std.proofs.lemmas.List.Concat.{flat_map-append}
use Rattle.row_pages.specs.Borders.{first_begins, first_path, starts_by, starts_after}
use Rattle.row_pages.specs.Items.{Placed, first_of, is_before}
use Rattle.row_pages.specs.Nodes.{HaveItems, IsNode}
use Rattle.row_pages.specs.Parts.{items_if, page_items, all_items}

-- ---- joined parts

pub joined_items : {X : Type 0} (items : X → List Placed) (before after : List X) (part more : Option X)
    → flat_map items (before ++ (option_to_list part ++ (option_to_list more ++ after))) ≡ flat_map items before ++ ((items_if items part ++ items_if items more) ++ flat_map items after)
joined_items items before after part more =
    flat_map-append items before (option_to_list part ++ (option_to_list more ++ after)) ∙ ap (λ is. flat_map items before ++ is) (both items after part more)
  where
    both : {X : Type 0} (items : X → List Placed) (after : List X) (part more : Option X)
        → flat_map items (option_to_list part ++ (option_to_list more ++ after)) ≡ (items_if items part ++ items_if items more) ++ flat_map items after
    both items after None None = refl
    both items after None (Some m) = refl
    both items after (Some p) None = sym (append_assoc (items p) [] (flat_map items after))
    both items after (Some p) (Some m) = sym (append_assoc (items p) (items m) (flat_map items after))

pub length_append : {X : Type 0} (xs ys : List X) → length (xs ++ ys) ≡ length xs + length ys
length_append [] ys = omega arith
length_append (x ∷ xs) ys = let l = length_append xs ys in omega (arith, l)

at_most_one : {X : Type 0} (o : Option X) → length (option_to_list o) ≤ 1
at_most_one None = omega arith
at_most_one (Some x) = omega arith

length_joined : {X : Type 0} (before after : List X) (part more : Option X)
    → length (before ++ (option_to_list part ++ (option_to_list more ++ after))) ≡ length before + (length (option_to_list part) + (length (option_to_list more) + length after))
length_joined before after part more =
    length_append before (option_to_list part ++ (option_to_list more ++ after))
    ∙ ap (λ n. length before + n) (length_append (option_to_list part) (option_to_list more ++ after)
    ∙ ap (λ n. length (option_to_list part) + n) (length_append (option_to_list more) after))

pub joined_few : {X : Type 0} (parts all before after : List X) (old : X) (part more : Option X) → parts ≡ before ++ old ∷ after → all ≡ before ++ (option_to_list part ++ (option_to_list more ++ after))
    → length all ≤ length parts + 1
joined_few parts all before after old part more e j =
    let whole = ap length e ∙ length_append before (old ∷ after) in
    let joined = ap length j ∙ length_joined before after part more in
    let p = at_most_one part in
    let m = at_most_one more in
    omega (arith, whole, joined, p, m)

pub joined_fewer : {X : Type 0} (parts all before after : List X) (old : X) (part : Option X) → parts ≡ before ++ old ∷ after → all ≡ before ++ (option_to_list part ++ ([] ++ after))
    → length all ≤ length parts
joined_fewer parts all before after old part e j =
    let whole = ap length e ∙ length_append before (old ∷ after) in
    let joined = ap length j ∙ length_joined before after part None in
    let p = at_most_one part in
    omega (arith, whole, joined, p)

pub joined_some : {X : Type 0} (all before after : List X) (part : X) (more : Option X) → all ≡ before ++ (part ∷ (option_to_list more ++ after)) → 0 < length all
joined_some all before after part more j =
    let joined = ap length j ∙ length_joined before after (Some part) more in
    omega (arith, joined)

-- ---- parts that have items

pub have_append : {X : Type 0} (items : X → List Placed) (xs ys : List X) → HaveItems items xs → HaveItems items ys → HaveItems items (xs ++ ys)
have_append items [] ys h k = k
have_append items (x ∷ xs) ys h k = (h.0, have_append items xs ys h.1 k)

pub have_left : {X : Type 0} (items : X → List Placed) (xs ys : List X) → HaveItems items (xs ++ ys) → HaveItems items xs
have_left items [] ys h = tt
have_left items (x ∷ xs) ys h = (h.0, have_left items xs ys h.1)

pub have_right : {X : Type 0} (items : X → List Placed) (xs ys : List X) → HaveItems items (xs ++ ys) → HaveItems items ys
have_right items [] ys h = h
have_right items (x ∷ xs) ys h = have_right items xs ys h.1

pub joined_have : {X : Type 0} (items : X → List Placed) (parts all before after : List X) (old : X) (part more : Option X) → parts ≡ before ++ old ∷ after
    → all ≡ before ++ (option_to_list part ++ (option_to_list more ++ after)) → HaveItems items (option_to_list part) → HaveItems items (option_to_list more) → HaveItems items parts → HaveItems items all
joined_have items parts all before after old part more e j p m h =
    let whole : HaveItems items (before ++ old ∷ after) = subst (HaveItems items) e h in
    let left : HaveItems items before = have_left items before (old ∷ after) whole in
    let right : HaveItems items after = (have_right items before (old ∷ after) whole).1 in
    subst (HaveItems items) (sym j)
    (have_append items before (option_to_list part ++ (option_to_list more ++ after)) left
    (have_append items (option_to_list part) (option_to_list more ++ after) p
    (have_append items (option_to_list more) after m right)))

pub fewer_parts : {X : Type 0} (items : X → List Placed) (parts : List X) → HaveItems items parts → length parts ≤ length (flat_map items parts)
fewer_parts items [] h = omega arith
fewer_parts items (x ∷ xs) h =
    let more = fewer_parts items xs h.1 in
    let l = length_append (items x) (flat_map items xs) in
    let first = h.0 in
    omega (arith, more, l, first)

pub node_has : {X : Type 0} (items : X → List Placed) (parts : List X) → IsNode items parts → 0 < length (flat_map items parts)
node_has items parts n = let l = fewer_parts items parts n.each in let s = n.some in omega (arith, l, s)

pub each_has : (is : List Placed) → HaveItems (λ (i : Placed). i ∷ []) is
each_has [] = tt
each_has (i ∷ is) = (omega arith, each_has is)

first_append : (is zs : List Placed) → 0 < length is → first_path (is ++ zs) ≡ first_path is
first_append [] zs h = absurd (omega (arith, h))
first_append (i ∷ is) zs h = refl

begins_append : (p : List ℕ) (is zs : List Placed) → 0 < length is → first_begins p (is ++ zs) ≡ first_begins p is
begins_append p [] zs h = absurd (omega (arith, h))
begins_append p (i ∷ is) zs h = refl

pub first_whole : {X : Type 0} (items : X → List Placed) (parts more : List X) (part : X) → parts ≡ part ∷ more → HaveItems items parts → first_path (flat_map items parts) ≡ first_path (items part)
first_whole items parts more part e h =
    ap (λ ps. first_path (flat_map items ps)) e ∙ first_append (items part) (flat_map items more) ((subst (HaveItems items) e h).0)

pub begins_whole : {X : Type 0} (items : X → List Placed) (p : List ℕ) (parts more : List X) (part : X) → parts ≡ part ∷ more → HaveItems items parts
    → first_begins p (flat_map items parts) ≡ first_begins p (items part)
begins_whole items p parts more part e h =
    ap (λ ps. first_begins p (flat_map items ps)) e ∙ begins_append p (items part) (flat_map items more) ((subst (HaveItems items) e h).0)

-- a path before the key of a part, and one that isn't
pub after_key : (p : List ℕ) (is : List Placed) (key : List ℕ) (b : Bool) → 0 < length is → key ≡ first_path is → b ≡ is_before p key → b ≡ true → starts_after p (first_of is) ≡ true
after_key p [] key b h k e t = absurd (omega (arith, h))
after_key p (i ∷ is) key b h k e t = ap (is_before p) (sym k) ∙ sym e ∙ t

pub by_key : (p : List ℕ) (is : List Placed) (key : List ℕ) (b : Bool) → 0 < length is → key ≡ first_path is → b ≡ is_before p key → b ≡ false → starts_by p (first_of is) ≡ true
by_key p [] key b h k e t = absurd (omega (arith, h))
by_key p (i ∷ is) key b h k e t = ap not (ap (is_before p) (sym k) ∙ sym e ∙ t)

-- ---- the items of pages

pub page_is : (page : List Placed) → page_items page ≡ page
page_is [] = refl
page_is (i ∷ is) = ap (λ (js : List Placed). i ∷ js) (page_is is)

-- the items of pages of items, and of books of such pages
pub shelf_items : (items : List Placed) (pages : List (List Placed)) (books : List (List (List Placed))) → flat_map page_items pages ≡ [] ++ page_items items
    → all_items books ≡ [] ++ flat_map page_items pages → all_items books ≡ items
shelf_items items pages books p b = b ∙ p ∙ page_is items
