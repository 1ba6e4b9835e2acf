-- The rules of a graph are those of its nodes of type `acl:Authorization`.
use Rattle.std.proofs.Common.{◌≡◌, ◌+◌, ◌<◌, ◌≤◌, ℕ, Bool, true, false, cond, List, [], ◌∷◌, ◌++◌, length, take, get_or, map, Option, Some, None, refl, sym, ap, subst, ◌∙◌, ⊎_elim, ◌&&◌}
use Rattle.std.specs.Prelude.{◌↔◌}
use Rattle.std.specs.List.{Contains, filter, filter_map, cons_option, AllByRecursion}
use Rattle.std.specs.List.Sorted.{IsStrictlySortedBy}
use Rattle.std.specs.Option.{option_to_list}
use Rattle.std.specs.declared.cmp.Ordering.{Ordering}
use Rattle.std.specs.declared.cmp.Ordering.TheVariants.{Less}
use Rattle.std.proofs.lemmas.Bool.{false≢true}
use Rattle.std.proofs.lemmas.List.{take_more}
use Rattle.std.proofs.lemmas.List.Elements.{filter_map-append}
use Rattle.std.proofs.lemmas.List.Kept.{IsStrictlySortedBy-filter}
use Rattle.rdf_graph.specs.Graph.{IsGraph, IsOrdered}
use Rattle.rdf_graph.specs.Term.{term_eq}
use Rattle.rdf_graph.specs.TermLaws.{term_eq_decides}
use Rattle.rdf_graph.specs.Triple.{triple_cmp}
use Rattle.rdf_graph.specs.TripleLaws.{triple_cmp_total}
use Rattle.rdf_graph.specs.declared.term.Term.{Term}
use Rattle.rdf_graph.specs.declared.term.Term.TheVariants.{Iri}
use Rattle.rdf_graph.specs.declared.triple.Triple.{Triple}
use Rattle.rdf_graph.proofs.Exact.{same_parts, triple_cmp_exact}
use Rattle.rdf_graph.proofs.Members.{contains_cases, contains_here, contains_there, contains_none, contains_filter}
use Rattle.rdf_graph.proofs.Sorted.{one_list}
use Rattle.acl_rules.specs.Building.{with_triple}
use Rattle.acl_rules.specs.Rules.{granted_mode, place_of, subject_of, rule_from, rule_of, rules_of, is_of, is_rule_statement, triples_of}
use Rattle.acl_rules.specs.Statements.{statement, States, IsRule, rule_cmp}
use Rattle.acl_rules.specs.Vocabulary.{rdf_type, acl_authorization, acl_access_to, acl_default}
use Rattle.acl_rules.specs.declared.rule.Rule.{Rule}
use Rattle.acl_rules.specs.declared.rule.Subject.{Subject}
use Rattle.pod_base.specs.declared.agent.Mode.{Mode}

-- ---- what a list of images contains

pub record IsImage {X Y : Type 0} (f : X → Y) (xs : List X) (y : Y) : Type 0 where
  pub at : X
  pub member : Contains xs at
  pub is : f at ≡ y

pub contains_image : {X Y : Type 0} (f : X → Y) (xs : List X) (y : Y) → Contains (map f xs) y → IsImage f xs y
contains_image f [] y h = absurd (contains_none y h)
contains_image f (x ∷ xs) y h =
    ⊎_elim
    (λ same. record { at = x; member = contains_here x xs; is = same })
    (λ there. let rest = contains_image f xs y there in
    record { at = rest.at; member = contains_there x xs rest.at rest.member; is = rest.is })
    (contains_cases (f x) (map f xs) y h)

pub image_contains : {X Y : Type 0} (f : X → Y) (xs : List X) (x : X) → Contains xs x → Contains (map f xs) (f x)
image_contains f [] x h = absurd (contains_none x h)
image_contains f (y ∷ ys) x h =
    ⊎_elim
    (λ same. subst (λ z. Contains (f y ∷ map f ys) (f z)) same (contains_here (f y) (map f ys)))
    (λ there. contains_there (f y) (map f ys) (f x) (image_contains f ys x there))
    (contains_cases y ys x h)

-- ---- nodes

both_true : (a b : Bool) → (a && b) ≡ true → (a ≡ true) × (b ≡ true)
both_true true b h = (refl, h)
both_true false b h = absurd (false≢true h)

-- a triple that says that its subject is a rule
says : (t : Triple) → is_rule_statement t ≡ true → t ≡ statement t.s rdf_type acl_authorization
says t h =
    let both = both_true (is_of rdf_type t) (term_eq t.o (Iri acl_authorization)) h in
    same_parts t.s t.p t.o t.s (Iri rdf_type) (Iri acl_authorization) refl
    ((term_eq_decides t.p (Iri rdf_type)).0 both.0) ((term_eq_decides t.o (Iri acl_authorization)).0 both.1)

statement_says : (node : Term) → is_rule_statement (statement node rdf_type acl_authorization) ≡ true
statement_says node =
    ap (λ (b : Bool). b && term_eq (Iri acl_authorization) (Iri acl_authorization)) ((term_eq_decides (Iri rdf_type) (Iri rdf_type)).1 refl)
    ∙ (term_eq_decides (Iri acl_authorization) (Iri acl_authorization)).1 refl

pub rule_nodes : (base : List ℕ) (g : List Triple) (node : Term) → Contains (map (λ rule. rule.node) (rules_of base g)) node ↔ IsRule g node
unfolding rules_of rule_of
rule_nodes base g node = (
  λ h. let rule = contains_image (λ (r : Rule). r.node) (rules_of base g) node h in
      let from = contains_image (λ (t : Triple). rule_of base g t.s) (filter is_rule_statement g) rule.at rule.member in
      let kept = (contains_filter is_rule_statement g from.at).0 from.member in
      let same : from.at.s ≡ node = ap (λ (r : Rule). r.node) from.is ∙ rule.is in
      subst (λ n. States g n rdf_type acl_authorization) same (subst (Contains g) (says from.at kept.1) kept.0),
  λ h. let kept = (contains_filter is_rule_statement g (statement node rdf_type acl_authorization)).1 (h, statement_says node) in
      image_contains (λ (r : Rule). r.node) (rules_of base g) (rule_of base g node)
      (image_contains (λ (t : Triple). rule_of base g t.s) (filter is_rule_statement g) (statement node rdf_type acl_authorization) kept),
)

pub own_rule : (base : List ℕ) (g : List Triple) (rule : Rule) → Contains (rules_of base g) rule → rule ≡ rule_of base g rule.node
unfolding rules_of rule_of
own_rule base g rule h =
    let from = contains_image (λ (t : Triple). rule_of base g t.s) (filter is_rule_statement g) rule h in
    sym from.is ∙ ap (rule_of base g) (ap (λ (r : Rule). r.node) from.is)

-- ---- their order

-- images stay in order where the order of each is that of its image
sorted_images : {X Y : Type 0} (c : X → X → Ordering) (d : Y → Y → Ordering) (f : X → Y) (xs : List X)
    → ((x y : X) → Contains xs x → Contains xs y → c x y ≡ Less → d (f x) (f y) ≡ Less) → IsStrictlySortedBy c xs → IsStrictlySortedBy d (map f xs)
unfolding IsStrictlySortedBy
sorted_images c d f [] keeps h = h
sorted_images c d f (x ∷ xs) keeps h = (
  below xs (λ y member. contains_there x xs y member) h.0,
  sorted_images c d f xs (λ y z my mz e. keeps y z (contains_there x xs y my) (contains_there x xs z mz) e) h.1,
)
  where
    below : (ys : List _) → ((y : _) → Contains ys y → Contains (x ∷ xs) y) → AllByRecursion (λ y. c x y ≡ Less) ys → AllByRecursion (λ y. d (f x) y ≡ Less) (map f ys)
    below [] within h = h
    below (y ∷ ys) within h = (
      keeps x y (contains_here x xs) (within y (contains_here y ys)) h.0,
      below ys (λ z member. within z (contains_there y ys z member)) h.1,
    )

pub rules_ordered : (base : List ℕ) (g : List Triple) → IsGraph g → IsStrictlySortedBy rule_cmp (rules_of base g)
unfolding rules_of rule_of
rules_ordered base g graph =
    sorted_images triple_cmp rule_cmp (λ (t : Triple). rule_of base g t.s) (filter is_rule_statement g)
    (λ t u mt mu e. let st = says t ((contains_filter is_rule_statement g t).0 mt).1 in
    let su = says u ((contains_filter is_rule_statement g u).0 mu).1 in
    subst (λ v. triple_cmp (statement t.s rdf_type acl_authorization) v ≡ Less) su (subst (λ v. triple_cmp v u ≡ Less) st e))
    (IsStrictlySortedBy-filter triple_cmp is_rule_statement g graph.ordered)

-- ---- the walk over the triples of a node

pub walked : (node : Term) (g found : List Triple) → IsOrdered g → IsOrdered found
    → ((x : Triple) → Contains found x ↔ (Contains g x × ((x.s ≡ node) × Unit {0} × Unit {0}))) → found ≡ triples_of node g
walked node g found ordered sorted members =
    one_list triple_cmp_total triple_cmp_exact found (triples_of node g) sorted
    (IsStrictlySortedBy-filter triple_cmp (λ t. term_eq t.s node) g ordered)
    (λ x. (
      λ h. let has = (members x).0 h in (contains_filter (λ t. term_eq t.s node) g x).1 (has.0, (term_eq_decides x.s node).1 has.1.0),
      λ h. let has = (contains_filter (λ t. term_eq t.s node) g x).0 h in (members x).1 (has.0, ((term_eq_decides x.s node).0 has.1, tt, tt)),
    ))

one_option : {Y : Type 0} (o : Option Y) → cons_option o [] ≡ option_to_list o
one_option None = refl
one_option (Some y) = refl

found_more : {X Y : Type 0} (f : X → Option Y) (xs : List X) (i : ℕ) (x : X) → i < length xs → x ≡ get_or xs i x
    → filter_map f (take i xs) ++ option_to_list (f x) ≡ filter_map f (take (i + 1) xs)
found_more f xs i x l is =
    sym (
    ap (filter_map f) (take_more xs i x l)
    ∙ filter_map-append f (take i xs) (get_or xs i x ∷ [])
    ∙ ap (λ z. filter_map f (take i xs) ++ filter_map f (z ∷ [])) (sym is)
    ∙ ap (λ z. filter_map f (take i xs) ++ z) (one_option (f x))
    )

abbrev rule_with : Term → List (List ℕ) → List (List ℕ) → List Mode → List Subject → Rule
rule_with node a b m s = record { node = node; access_to = a; defaults = b; modes = m; subjects = s }

same_rule : (node : Term) (a b a' b' : List (List ℕ)) (m m' : List Mode) (s s' : List Subject) → a ≡ a' → b ≡ b' → m ≡ m' → s ≡ s'
    → rule_with node a b m s ≡ rule_with node a' b' m' s'
same_rule node a b a' b' m m' s s' ea eb em es =
    ap (λ x. rule_with node x b m s) ea ∙ ap (λ x. rule_with node a' x m s) eb ∙ ap (λ x. rule_with node a' b' x s) em ∙ ap (λ x. rule_with node a' b' m' x) es

-- one more triple
pub rule_more : (base : List ℕ) (node : Term) (ts : List Triple) (i : ℕ) (t : Triple) → i < length ts → t ≡ get_or ts i t
    → with_triple base t (rule_from base node (take i ts)) ≡ rule_from base node (take (i + 1) ts)
rule_more base node ts i t l is =
    same_rule node _ _ _ _ _ _ _ _
    (found_more (place_of base acl_access_to) ts i t l is)
    (found_more (place_of base acl_default) ts i t l is)
    (found_more granted_mode ts i t l is)
    (found_more (subject_of base) ts i t l is)
