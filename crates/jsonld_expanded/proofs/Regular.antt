-- JSON values whose text is read back: their numbers aside, keys stand in strict order.
use Rattle.std.proofs.Common.{◌≡◌, ℕ, suc, ◌≤◌, List, [], Option, Some, option_map, option_and_then, refl, sym, ap, ◌∙◌, arith, subst, append-nil}
use Rattle.std.proofs.lemmas.Cmp.{nat_list_cmp_total}
use Rattle.std.specs.Cmp.Lexicographic.{slice_cmp}
use Rattle.std.specs.Ordering.{nat_cmp, match_ordering, ordering_reverse}
use Rattle.std.specs.declared.cmp.Ordering.{Ordering}
use Rattle.std.specs.declared.cmp.Ordering.TheVariants.{Less, Greater}
use Rattle.json.specs.Token.{Token}
use Rattle.json.specs.Lex.{tokens}
use Rattle.json.specs.Json as json
use Rattle.json.specs.Tree as tree
use Rattle.json.proofs.Printed.Trees.{value-json_tokens}
use Rattle.serde_json.specs.Data.{Data, null, boolean, number, string, array, object, Items, no_items, item, Members, no_members, member, put, depth, items_depth, members_depth}
use Rattle.serde_json.specs.Read.{of_json, of_items, of_members, read, max_depth}
use Rattle.serde_json.specs.Written.{outline, items_outline, members_outline}

abbrev bytes_cmp : List ℕ → List ℕ → Ordering
bytes_cmp = slice_cmp nat_cmp

-- the key is below the first of the members
abbrev pub IsBelowFirst : List ℕ → Members → Type 0
IsBelowFirst k no_members = Unit {0}
IsBelowFirst k (member l d ms) = bytes_cmp k l ≡ Less

-- each key is below the next
abbrev pub KeysAscend : Members → Type 0
KeysAscend no_members = Unit {0}
KeysAscend (member k d ms) = IsBelowFirst k ms × KeysAscend ms

abbrev mutual
  -- no numbers, and keys in strict order
  pub IsRegular : Data → Type 0
  IsRegular null = Unit {0}
  IsRegular (boolean b) = Unit {0}
  IsRegular (number n) = ⊥
  IsRegular (string s) = Unit {0}
  IsRegular (array ds) = AreRegular ds
  IsRegular (object ms) = KeysAscend ms × HasRegular ms

  pub AreRegular : Items → Type 0
  AreRegular no_items = Unit {0}
  AreRegular (item d ds) = IsRegular d × AreRegular ds

  pub HasRegular : Members → Type 0
  HasRegular no_members = Unit {0}
  HasRegular (member k d ms) = IsRegular d × HasRegular ms

-- ---- members that are put in one after another

abbrev joined : Members → Members → Members
joined no_members ms = ms
joined (member k d found) ms = member k d (joined found ms)

join_assoc : (found : Members) (k : List ℕ) (d : Data) (ms : Members) → joined (joined found (member k d no_members)) ms ≡ joined found (member k d ms)
join_assoc no_members k d ms = refl
join_assoc (member l e found) k d ms = ap (member l e) (join_assoc found k d ms)

join_nothing : (ms : Members) → joined ms no_members ≡ ms
join_nothing no_members = refl
join_nothing (member k d ms) = ap (member k d) (join_nothing ms)

rest_ascends : (l : List ℕ) (e : Data) (ms : Members) → KeysAscend (member l e ms) → KeysAscend ms
rest_ascends l e ms a = a.1

-- a key is below those after it
below_later : (l : List ℕ) (e : Data) (found : Members) (k : List ℕ) (d : Data) (ms : Members) → KeysAscend (member l e (joined found (member k d ms))) → bytes_cmp l k ≡ Less
below_later l e no_members k d ms a = a.0
below_later l e (member m f found) k d ms a = nat_list_cmp_total.trans l m k a.0 (below_later m f found k d ms a.1)

above : (k l : List ℕ) → bytes_cmp l k ≡ Less → bytes_cmp k l ≡ Greater
above k l e = nat_list_cmp_total.antisymm k l ∙ ap ordering_reverse e

put_last : (found : Members) (k : List ℕ) (d : Data) (ms : Members) → KeysAscend (joined found (member k d ms)) → put k d found ≡ joined found (member k d no_members)
put_last no_members k d ms a = refl
put_last (member l e found) k d ms a =
    ap (λ o. match_ordering o (member k d (member l e found)) (member l d found) (member l e (put k d found))) (above k l (below_later l e found k d ms a))
    ∙ ap (member l e) (put_last found k d ms a.1)

-- ---- a regular value is read from its outline

and_then_some : {A B : Type 0} (f : A → Option B) (o : Option A) (a : A) → o ≡ Some a → option_and_then f o ≡ f a
and_then_some f o a e = ap (option_and_then f) e

mutual
  pub of_outline : (d : Data) → IsRegular d → of_json (outline d) ≡ Some d
  of_outline null r = refl
  of_outline (boolean b) r = refl
  of_outline (number n) r = absurd r
  of_outline (string s) r = refl
  of_outline (array ds) r = ap (option_map array) (of_items_outline ds r)
  of_outline (object ms) r = ap (option_map object) (of_members_outline ms no_members r.0 r.1)

  of_items_outline : (ds : Items) → AreRegular ds → of_items (items_outline ds) ≡ Some ds
  of_items_outline no_items r = refl
  of_items_outline (item d ds) r = and_then_some (λ e. option_map (item e) (of_items (items_outline ds))) (of_json (outline d)) d (of_outline d r.0)
      ∙ ap (option_map (item d)) (of_items_outline ds r.1)

  of_members_outline : (ms found : Members) → KeysAscend (joined found ms) → HasRegular ms → of_members (members_outline ms) found ≡ Some (joined found ms)
  of_members_outline no_members found a r = ap (λ x. Some x) (sym (join_nothing found))
  of_members_outline (member k d ms) found a r =
      and_then_some (λ e. of_members (members_outline ms) (put k e found)) (of_json (outline d)) d (of_outline d r.0)
      ∙ ap (of_members (members_outline ms)) (put_last found k d ms a)
      ∙ of_members_outline ms (joined found (member k d no_members)) (subst KeysAscend (sym (join_assoc found k d ms)) a) r.1
      ∙ ap (λ x. Some x) (join_assoc found k d ms)

-- ---- depth

mutual
  outline_depth : (d : Data) → tree.depth (outline d) ≡ depth d
  outline_depth null = refl
  outline_depth (boolean b) = refl
  outline_depth (number n) = refl
  outline_depth (string s) = refl
  outline_depth (array ds) = ap (λ n. suc n) (items_outline_depth ds)
  outline_depth (object ms) = ap (λ n. suc n) (members_outline_depth ms)

  items_outline_depth : (ds : Items) → tree.items_depth (items_outline ds) ≡ items_depth ds
  items_outline_depth no_items = refl
  items_outline_depth (item d ds) = rw (outline_depth d) (rw (items_outline_depth ds) refl)

  members_outline_depth : (ms : Members) → tree.members_depth (members_outline ms) ≡ members_depth ms
  members_outline_depth no_members = refl
  members_outline_depth (member k d ms) = rw (outline_depth d) (rw (members_outline_depth ms) refl)

-- ---- the whole text

whole : Option (json.Json × List Token) → Option Data
whole o = option_and_then of_json (option_and_then (λ p. json.if_last p.0 p.1) o)

-- a text with the tokens of a regular value is read as it
pub read_tokens : (d : Data) (text : List ℕ) → tokens text ≡ tree.json_tokens (outline d) → IsRegular d → depth d ≤ max_depth → read text ≡ Some d
unfolding whole
read_tokens d text e r shallow =
    ap whole (ap (json.value max_depth) (e ∙ sym (append-nil (tree.json_tokens (outline d)))) ∙ value-json_tokens (outline d) max_depth [] (omega (arith, shallow, outline_depth d))) ∙ of_outline d r
