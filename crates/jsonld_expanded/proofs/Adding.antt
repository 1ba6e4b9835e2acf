-- Tokens that are appended one after another.
use Rattle.std.proofs.Common.{◌≡◌, ◌<◌, ◌≤◌, ◌+◌, ◌-◌, ℕ, Bool, true, false, take, drop, length-drop, List, [], ◌∷◌, ◌++◌, codes, map, get_or, length, Result, Ok, Err, OnOk, refl, sym, ap, ◌∙◌, subst, append_assoc, append-nil, arith}
use Rattle.std.proofs.lemmas.List.{drop_all, drop-drop, take_all}
use Rattle.std.specs.List.{flat_map}
use Rattle.json.specs.Token.{Token}
use Rattle.json.specs.Token as token
use Rattle.json.specs.Tree.{items_tokens, json_tokens, members_tokens}
use Rattle.json.specs.Written.{Written}
use Rattle.rdf_graph.specs.declared.triple.Triple.{Triple}
use Rattle.serde_json.specs.Data.{Data, array}
use Rattle.serde_json.specs.View.{items_of}
use Rattle.serde_json.specs.Written.{items_outline, members_outline, outline}
use Rattle.jsonld_expanded.specs.Document.{document, is_type, key_below, key_of, name_of, node_object, object_of, properties, same_key, same_subject, value_of}
use Rattle.jsonld_expanded.specs.Runs.{runs}
use Rattle.jsonld_expanded.specs.Sorted.{sorted}
use Rattle.jsonld_expanded.specs.Written.{Adds, nodes_tokens, object_tokens, properties_tokens, property_tokens, same_key_by_ref, tokens_of}
use Rattle.jsonld_expanded.proofs.Walking.{object_as_type, object_as_value}
use denote.Ref.{Bor}

pub on_ok : {T E : Type 0} (r : Result T E) (P Q : Type 0) → (P → Q) → OnOk r P → OnOk r Q
on_ok (Ok x) P Q f h = f h
on_ok (Err e) P Q f h = tt

pub adds_none : (a : Written) → Adds a a []
adds_none a = record { before = refl; tokens = sym (append-nil a.tokens) }

pub adds_both : (a b c : Written) (ts us : List Token) → Adds a b ts → Adds b c us → Adds a c (ts ++ us)
adds_both a b c ts us x y = record {
  before = y.before ∙ x.before;
  tokens = y.tokens ∙ ap (λ (l : List Token). l ++ us) x.tokens ∙ append_assoc a.tokens ts us;
}

pub adds_same : (a b : Written) (ts us : List Token) → ts ≡ us → Adds a b ts → Adds a b us
adds_same a b ts us e x = subst (Adds a b) e x

-- some tokens are appended, and of the whole these are left
pub record HasLeft (old new : Written) (left whole : List Token) : Type 0 where
  pub done : List Token
  pub adds : Adds old new done
  pub rest : done ++ left ≡ whole

pub all_left : (a : Written) (whole : List Token) → HasLeft a a whole whole
all_left a whole = record { done = []; adds = adds_none a; rest = refl }

pub less_left : (a b c : Written) (us left left' whole : List Token) → left ≡ us ++ left' → HasLeft a b left whole → Adds b c us → HasLeft a c left' whole
less_left a b c us left left' whole e h x = record {
  done = h.done ++ us;
  adds = adds_both a b c h.done us h.adds x;
  rest = append_assoc h.done us left' ∙ ap (λ (l : List Token). h.done ++ l) (sym e) ∙ h.rest;
}

pub none_left : (a b : Written) (left whole : List Token) → left ≡ [] → HasLeft a b left whole → Adds a b whole
none_left a b left whole e h = adds_same a b h.done whole (sym (append-nil h.done) ∙ ap (λ (l : List Token). h.done ++ l) (sym e) ∙ h.rest) h.adds

-- ---- the tokens of lists

items_tokens_of : {X : Type 0} (f : X → Data) (xs : List X) → items_tokens (items_outline (items_of (map f xs))) ≡ flat_map (λ x. tokens_of (f x)) xs ++ token.end_array ∷ []
unfolding tokens_of
items_tokens_of f [] = refl
items_tokens_of f (x ∷ xs) = ap (λ (l : List Token). json_tokens (outline (f x)) ++ l) (items_tokens_of f xs)
    ∙ sym (append_assoc (json_tokens (outline (f x))) (flat_map (λ x. json_tokens (outline (f x))) xs) (token.end_array ∷ []))

-- a key with its objects, and what follows
property_then : (t : Triple) (ts : List Triple) (more : List Token)
    → token.key (key_of t) ∷ (json_tokens (outline (array (items_of (map object_of (t ∷ ts))))) ++ more) ≡ property_tokens (t ∷ ts) ++ more
unfolding property_tokens object_tokens
property_then t ts more = ap (λ (l : List Token). token.key (key_of t) ∷ token.begin_array ∷ (l ++ more)) (items_tokens_of object_of (t ∷ ts))

members_tokens_of : (rs : List (List Triple)) → members_tokens (members_outline (properties rs)) ≡ properties_tokens rs ++ token.end_object ∷ []
unfolding properties_tokens property_tokens
members_tokens_of [] = refl
members_tokens_of ([] ∷ rs) = members_tokens_of rs
members_tokens_of ((t ∷ ts) ∷ rs) = property_then t ts (members_tokens (members_outline (properties rs)))
    ∙ ap (λ (l : List Token). property_tokens (t ∷ ts) ++ l) (members_tokens_of rs)
    ∙ sym (append_assoc (property_tokens (t ∷ ts)) (properties_tokens rs) (token.end_object ∷ []))

pub property_is : (ts : List Triple) (t : Triple) → 0 < length ts → t ≡ get_or ts 0 t → property_tokens ts ≡ (token.key (key_of t) ∷ token.begin_array ∷ []) ++ (object_tokens ts ++ token.end_array ∷ [])
unfolding property_tokens
property_is [] t some e = absurd (omega (arith, some))
property_is (u ∷ us) t some e = ap (λ (x : Triple). token.key (key_of x) ∷ token.begin_array ∷ (object_tokens (u ∷ us) ++ token.end_array ∷ [])) (sym e)

pub node_is : (ts : List Triple) (d : Triple) → 0 < length ts
    → tokens_of (node_object ts) ≡ (token.begin_object ∷ token.key (codes "@id") ∷ token.string (name_of (get_or ts 0 d).s) ∷ []) ++ (properties_tokens (runs same_key (sorted key_below ts)) ++ token.end_object ∷ [])
unfolding tokens_of
node_is [] d some = absurd (omega (arith, some))
node_is (u ∷ us) d some =
    ap (λ (l : List Token). token.begin_object ∷ token.key (codes "@id") ∷ token.string (name_of u.s) ∷ l) (members_tokens_of (runs same_key (sorted key_below (u ∷ us))))

pub document_is : (ts : List Triple) → tokens_of (document ts) ≡ (token.begin_array ∷ []) ++ (nodes_tokens (runs same_subject ts) ++ token.end_array ∷ [])
unfolding tokens_of nodes_tokens
document_is ts = ap (λ (l : List Token). token.begin_array ∷ l) (items_tokens_of node_object (runs same_subject ts))

pub properties_split : (rs : List (List Triple)) (r : List Triple) (more : List (List Triple)) → rs ≡ r ∷ more → properties_tokens rs ≡ property_tokens r ++ properties_tokens more
unfolding properties_tokens
properties_split rs r more e = ap (flat_map property_tokens) e

pub nodes_split : (rs : List (List Triple)) (r : List Triple) (more : List (List Triple)) → rs ≡ r ∷ more → nodes_tokens rs ≡ tokens_of (node_object r) ++ nodes_tokens more
unfolding nodes_tokens
nodes_split rs r more e = ap (flat_map (λ run. tokens_of (node_object run))) e

-- ---- objects

pub adds_object_as_type : (a b : Written) (t : Triple) → is_type t ≡ true → Adds a b (token.string (name_of t.o) ∷ []) → Adds a b (tokens_of (object_of t))
unfolding tokens_of
adds_object_as_type a b t e x = adds_same a b (token.string (name_of t.o) ∷ []) (json_tokens (outline (object_of t))) (ap (λ (d : Data). json_tokens (outline d)) (sym (object_as_type t e))) x

pub adds_object_as_value : (a b : Written) (t : Triple) → is_type t ≡ false → Adds a b (tokens_of (value_of t.o)) → Adds a b (tokens_of (object_of t))
adds_object_as_value a b t e x = adds_same a b (tokens_of (value_of t.o)) (tokens_of (object_of t)) (ap tokens_of (sym (object_as_value t e))) x

pub objects_by_ref : (rs : List (Bor Triple)) → flat_map (λ (r : Bor Triple). tokens_of (object_of r.now)) rs ≡ object_tokens (map (λ (r : Bor Triple). r.now) rs)
unfolding object_tokens
objects_by_ref [] = refl
objects_by_ref (r ∷ rs) = ap (λ (l : List Token). tokens_of (object_of r.now) ++ l) (objects_by_ref rs)

pub property_by_ref : (rs : List (Bor Triple)) (r : Bor Triple) → 0 < length rs → r ≡ get_or rs 0 r
    → property_tokens (map (λ (q : Bor Triple). q.now) rs) ≡ (token.key (key_of r.now) ∷ token.begin_array ∷ []) ++ (object_tokens (map (λ (q : Bor Triple). q.now) rs) ++ token.end_array ∷ [])
property_by_ref [] r some e = absurd (omega (arith, some))
property_by_ref (q ∷ qs) r some e = property_is (map (λ (q : Bor Triple). q.now) (q ∷ qs)) r.now (omega arith) (ap (λ (p : Bor Triple). p.now) e)

-- ---- the rest of a slice

pub rest_is : {X : Type 0} (xs : List X) (at : ℕ) → take (length xs - at) (drop at xs) ≡ drop at xs
rest_is xs at = take_all (length xs - at) (drop at xs) (omega (arith, length-drop at xs))

pub rest_within : {X : Type 0} (xs : List X) (at n : ℕ) → at ≤ length xs → n ≤ length (take (length xs - at) (drop at xs)) → at + n ≤ length xs
rest_within xs at n l h = omega (arith, l, h, ap length (rest_is xs at), length-drop at xs)

module _ {X : Type 0} (same : X → X → Bool) (xs : List X) where
  pub next_runs : (at n : ℕ) (rest : List X) → rest ≡ drop at xs → runs same rest ≡ take n rest ∷ runs same (drop n rest) → runs same (drop at xs) ≡ take n rest ∷ runs same (drop (at + n) xs)
  next_runs at n rest e h = ap (runs same) (sym e) ∙ h ∙ ap (λ (l : List X). take n rest ∷ runs same l) (ap (drop n) e ∙ drop-drop n at xs)

  pub no_runs : (at : ℕ) → length xs ≤ at → runs same (drop at xs) ≡ []
  unfolding runs
  no_runs at l = ap (runs same) (drop_all at xs l)

abbrev pub by_ref : List (List (Bor Triple)) → List (List Triple)
by_ref = map (map (λ (r : Bor Triple). r.now))

pub next_property : (xs : List (Bor Triple)) (at n : ℕ) (rest : List (Bor Triple)) → rest ≡ drop at xs → runs same_key_by_ref rest ≡ take n rest ∷ runs same_key_by_ref (drop n rest)
    → properties_tokens (by_ref (runs same_key_by_ref (drop at xs))) ≡ property_tokens (map (λ (r : Bor Triple). r.now) (take n rest)) ++ properties_tokens (by_ref (runs same_key_by_ref (drop (at + n) xs)))
next_property xs at n rest e h =
    properties_split _ (map (λ (r : Bor Triple). r.now) (take n rest)) (by_ref (runs same_key_by_ref (drop (at + n) xs))) (ap by_ref (next_runs same_key_by_ref xs at n rest e h))

pub no_property : (xs : List (Bor Triple)) (at : ℕ) → length xs ≤ at → properties_tokens (by_ref (runs same_key_by_ref (drop at xs))) ≡ []
unfolding properties_tokens
no_property xs at l = ap (λ (rs : List (List (Bor Triple))). flat_map property_tokens (by_ref rs)) (no_runs same_key_by_ref xs at l)

pub next_node : (xs : List Triple) (at n : ℕ) (rest : List Triple) → rest ≡ drop at xs → runs same_subject rest ≡ take n rest ∷ runs same_subject (drop n rest)
    → nodes_tokens (runs same_subject (drop at xs)) ≡ tokens_of (node_object (take n rest)) ++ nodes_tokens (runs same_subject (drop (at + n) xs))
next_node xs at n rest e h = nodes_split _ (take n rest) (runs same_subject (drop (at + n) xs)) (next_runs same_subject xs at n rest e h)

pub no_node : (xs : List Triple) (at : ℕ) → length xs ≤ at → nodes_tokens (runs same_subject (drop at xs)) ≡ []
unfolding nodes_tokens
no_node xs at l = ap (flat_map (λ run. tokens_of (node_object run))) (no_runs same_subject xs at l)
