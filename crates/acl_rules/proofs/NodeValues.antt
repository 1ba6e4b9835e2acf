-- The values of a node's rule are those that its triples state.
use Rattle.std.proofs.Common.{◌≡◌, ◌⊎◌, ℕ, Bool, true, false, cond, List, [], ◌∷◌, Option, Some, None, refl, sym, ap, subst, ◌∙◌, inl, inr, ⊎_elim}
use Rattle.std.specs.Prelude.{◌↔◌, bytes_eq}
use Rattle.std.specs.List.{Contains, filter, filter_map, cons_option}
use Rattle.std.proofs.lemmas.Bool.{false≢true, true≢false}
use Rattle.std.proofs.lemmas.Slice.Eq.{bytes_eq-Decides}
use Rattle.pod_base.specs.declared.agent.Mode.{Mode}
use Rattle.pod_base.specs.declared.agent.Mode.TheVariants.{Read, Append, Write, Control}
use Rattle.rdf_graph.specs.Term.{term_eq}
use Rattle.rdf_graph.specs.TermLaws.{term_eq_decides}
use Rattle.rdf_graph.specs.declared.term.Term.{Term}
use Rattle.rdf_graph.specs.declared.term.Term.TheVariants.{Iri, Blank, Literal, Tagged}
use Rattle.rdf_graph.specs.declared.triple.Triple.{Triple}
use Rattle.rdf_graph.proofs.Exact.{same_parts}
use Rattle.rdf_graph.proofs.Members.{contains_cases, contains_here, contains_there, contains_none, contains_filter}
use Rattle.acl_rules.specs.declared.rule.Subject.{Subject}
use Rattle.acl_rules.specs.declared.rule.Subject.TheVariants.{Agent, Everyone, Authenticated, Group}
use Rattle.acl_rules.specs.Documents.{document_of, resource_of}
use Rattle.acl_rules.specs.Rules.{is_of, from_iri, value_of, mode_of, class_of, agent_of, group_of, subject_of, triples_of, rule_of}
use Rattle.acl_rules.specs.Statements.{statement, States, mode_iri}
use Rattle.acl_rules.specs.Vocabulary.{acl_access_to, acl_default, acl_mode, acl_read, acl_append, acl_write, acl_control, acl_agent, acl_agent_class, acl_agent_group, acl_authenticated_agent, foaf_agent}

-- ---- what a list of found values contains

-- x is in the list, and f finds y in it
record Finds {X Y : Type 0} (f : X → Option Y) (xs : List X) (y : Y) : Type 0 where
  at : X
  member : Contains xs at
  gives : f at ≡ Some y

finds_there : {X Y : Type 0} (f : X → Option Y) (x : X) (xs : List X) (y : Y) → Finds f xs y → Finds f (x ∷ xs) y
finds_there f x xs y h = record { at = h.at; member = contains_there x xs h.at h.member; gives = h.gives }

finds_cases : {X Y : Type 0} (f : X → Option Y) (x : X) (xs : List X) (y : Y) → Finds f (x ∷ xs) y → (f x ≡ Some y) ⊎ Finds f xs y
finds_cases f x xs y h =
    ⊎_elim
    (λ same. inl (subst (λ z. f z ≡ Some y) (sym same) h.gives))
    (λ there. inr (record { at = h.at; member = there; gives = h.gives }))
    (contains_cases x xs h.at h.member)

contains_finds : {X Y : Type 0} (f : X → Option Y) (xs : List X) (y : Y) → Contains (filter_map f xs) y → Finds f xs y
contains_finds f [] y h = absurd (contains_none y h)
contains_finds {X} {Y} f (x ∷ xs) y h = by_value (f x) refl (contains_finds f xs y) h
  where
    by_value : (o : Option Y) → f x ≡ o → (Contains (filter_map f xs) y → Finds f xs y) → Contains (cons_option o (filter_map f xs)) y → Finds f (x ∷ xs) y
    by_value None e rest h = finds_there f x xs y (rest h)
    by_value (Some z) e rest h =
        ⊎_elim
        (λ same. record { at = x; member = contains_here x xs; gives = e ∙ ap (λ (w : Y). Some w) same })
        (λ there. finds_there f x xs y (rest there))
        (contains_cases z (filter_map f xs) y h)

finds_contains : {X Y : Type 0} (f : X → Option Y) (xs : List X) (y : Y) → Finds f xs y → Contains (filter_map f xs) y
finds_contains f [] y h = absurd (contains_none h.at h.member)
finds_contains {X} {Y} f (x ∷ xs) y h = by_value (f x) refl (finds_contains f xs y) (finds_cases f x xs y h)
  where
    by_value : (o : Option Y) → f x ≡ o → (Finds f xs y → Contains (filter_map f xs) y) → (f x ≡ Some y) ⊎ Finds f xs y → Contains (cons_option o (filter_map f xs)) y
    by_value None e rest h = ⊎_elim (λ same. absurd cc) rest h
    by_value (Some z) e rest h =
        ⊎_elim
        (λ same. let is : z ≡ y = cc in subst (Contains (z ∷ filter_map f xs)) is (contains_here z (filter_map f xs)))
        (λ there. contains_there z (filter_map f xs) y (rest there))
        h

-- ---- a triple of a property whose object is an IRI

record IsValue {Y : Type 0} (property : List ℕ) (value : List ℕ → Option Y) (t : Triple) (y : Y) : Type 0 where
  iri : List ℕ
  predicate : t.p ≡ Iri property
  object : t.o ≡ Iri iri
  gives : value iri ≡ Some y

iri_gives : {Y : Type 0} (value : List ℕ → Option Y) (o : Term) (y : Y) → from_iri value o ≡ Some y → (iri : List ℕ) × (o ≡ Iri iri) × (value iri ≡ Some y)
iri_gives value (Iri iri) y h = (iri, refl, h)
iri_gives value (Blank label) y h = absurd cc
iri_gives value (Literal lexical datatype) y h = absurd cc
iri_gives value (Tagged lexical lang) y h = absurd cc

is_value : {Y : Type 0} (property : List ℕ) (value : List ℕ → Option Y) (t : Triple) (y : Y) → is_of property t ≡ true → from_iri value t.o ≡ Some y → IsValue property value t y
is_value property value t y e h =
    let found = iri_gives value t.o y h in
    record { iri = found.0; predicate = (term_eq_decides t.p (Iri property)).0 e; object = found.1; gives = found.2 }

value_gives : {Y : Type 0} (property : List ℕ) (value : List ℕ → Option Y) (t : Triple) (y : Y) → IsValue property value t y → from_iri value t.o ≡ Some y
value_gives property value t y h = ap (from_iri value) h.object ∙ h.gives

value_is_of : {Y : Type 0} (property : List ℕ) (value : List ℕ → Option Y) (t : Triple) (y : Y) → IsValue property value t y → is_of property t ≡ true
value_is_of property value t y h = (term_eq_decides t.p (Iri property)).1 h.predicate

of_value : {Y : Type 0} (property : List ℕ) (value : List ℕ → Option Y) (t : Triple) (y : Y) → value_of property value t ≡ Some y → IsValue property value t y
of_value property value t y h = by_test (is_of property t) refl h
  where
    by_test : (b : Bool) → is_of property t ≡ b → cond b (from_iri value t.o) None ≡ Some y → IsValue property value t y
    by_test true e h = is_value property value t y e h
    by_test false e h = absurd cc

to_value : {Y : Type 0} (property : List ℕ) (value : List ℕ → Option Y) (t : Triple) (y : Y) → IsValue property value t y → value_of property value t ≡ Some y
to_value property value t y h =
    ap (λ (b : Bool). cond b (from_iri value t.o) None) (value_is_of property value t y h) ∙ value_gives property value t y h

-- ---- the triples of a node

same_statement : (t : Triple) (node : Term) (property iri : List ℕ) → t.s ≡ node → t.p ≡ Iri property → t.o ≡ Iri iri → t ≡ statement node property iri
same_statement t node property iri a b c = same_parts t.s t.p t.o node (Iri property) (Iri iri) a b c

of_node : (g : List Triple) (node : Term) (t : Triple) → Contains (triples_of node g) t → Contains g t × (t.s ≡ node)
of_node g node t h =
    let both = (contains_filter (λ (x : Triple). term_eq x.s node) g t).0 h in
    (both.0, (term_eq_decides t.s node).0 both.1)

to_node : (g : List Triple) (node : Term) (property iri : List ℕ) → States g node property iri → Contains (triples_of node g) (statement node property iri)
to_node g node property iri h =
    (contains_filter (λ (x : Triple). term_eq x.s node) g (statement node property iri)).1 (h, (term_eq_decides node node).1 refl)

states : {Y : Type 0} (property : List ℕ) (value : List ℕ → Option Y) (g : List Triple) (node : Term) (t : Triple) (y : Y) → Contains (triples_of node g) t → (h : IsValue property value t y) → States g node property h.iri
states property value g node t y member h =
    let both = of_node g node t member in
    subst (Contains g) (same_statement t node property h.iri both.1 h.predicate h.object) both.0

pub value_members : {Y : Type 0} (property : List ℕ) (value : List ℕ → Option Y) (g : List Triple) (node : Term) (y : Y)
    → Contains (filter_map (value_of property value) (triples_of node g)) y ↔ ((iri : List ℕ) × States g node property iri × (value iri ≡ Some y))
value_members property value g node y = (
  λ h. let found = contains_finds (value_of property value) (triples_of node g) y h in
      let is = of_value property value found.at y found.gives in
      (is.iri, states property value g node found.at y found.member is, is.gives),
  λ h. finds_contains (value_of property value) (triples_of node g) y (record {
    at = statement node property h.0;
    member = to_node g node property h.0 h.1;
    gives = to_value property value (statement node property h.0) y (record { iri = h.0; predicate = refl; object = refl; gives = h.2 });
  }),
)

-- ---- places and modes

pub access_to_members : (base : List ℕ) (g : List Triple) (node : Term) (path : List ℕ)
    → Contains (rule_of base g node).access_to path ↔ ((iri : List ℕ) × States g node acl_access_to iri × (resource_of base iri ≡ Some path))
unfolding rule_of
access_to_members base g node path = value_members acl_access_to (resource_of base) g node path

pub default_members : (base : List ℕ) (g : List Triple) (node : Term) (path : List ℕ)
    → Contains (rule_of base g node).defaults path ↔ ((iri : List ℕ) × States g node acl_default iri × (resource_of base iri ≡ Some path))
unfolding rule_of
default_members base g node path = value_members acl_default (resource_of base) g node path

same_bytes : (xs ys : List ℕ) → bytes_eq xs ys ≡ true → xs ≡ ys
same_bytes xs ys e = (bytes_eq-Decides xs ys).0 e

iri_of_mode : (iri : List ℕ) (mode : Mode) → mode_of iri ≡ Some mode → iri ≡ mode_iri mode
iri_of_mode iri mode h = by_tests (bytes_eq iri acl_read) (bytes_eq iri acl_append) (bytes_eq iri acl_write) (bytes_eq iri acl_control) refl refl refl refl h
  where
    by_tests : (a b c d : Bool) → bytes_eq iri acl_read ≡ a → bytes_eq iri acl_append ≡ b → bytes_eq iri acl_write ≡ c → bytes_eq iri acl_control ≡ d
        → cond a (Some Read) (cond b (Some Append) (cond c (Some Write) (cond d (Some Control) None))) ≡ Some mode → iri ≡ mode_iri mode
    by_tests true b c d ea eb ec ed h = (let is : Read ≡ mode = cc in same_bytes iri acl_read ea ∙ ap mode_iri is)
    by_tests false true c d ea eb ec ed h = (let is : Append ≡ mode = cc in same_bytes iri acl_append eb ∙ ap mode_iri is)
    by_tests false false true d ea eb ec ed h = (let is : Write ≡ mode = cc in same_bytes iri acl_write ec ∙ ap mode_iri is)
    by_tests false false false true ea eb ec ed h = (let is : Control ≡ mode = cc in same_bytes iri acl_control ed ∙ ap mode_iri is)
    by_tests false false false false ea eb ec ed h = absurd cc

mode_of_iri : (mode : Mode) → mode_of (mode_iri mode) ≡ Some mode
unfolding acl_read acl_append acl_write acl_control
mode_of_iri Read = refl
mode_of_iri Append = refl
mode_of_iri Write = refl
mode_of_iri Control = refl

pub mode_members : (base : List ℕ) (g : List Triple) (node : Term) (mode : Mode)
    → Contains (rule_of base g node).modes mode ↔ States g node acl_mode (mode_iri mode)
unfolding rule_of
mode_members base g node mode = (
  λ h. let found = (value_members acl_mode mode_of g node mode).0 h in
      subst (States g node acl_mode) (iri_of_mode found.0 mode found.2) found.1,
  λ h. (value_members acl_mode mode_of g node mode).1 (mode_iri mode, h, mode_of_iri mode),
)

-- ---- subjects

-- the triple is of one of the three properties, and gives y
abbrev IsSubject : List ℕ → Triple → Subject → Type 0
IsSubject base t y = IsValue acl_agent agent_of t y ⊎ (IsValue acl_agent_class class_of t y ⊎ IsValue acl_agent_group (group_of base) t y)

of_subject : (base : List ℕ) (t : Triple) (y : Subject) → subject_of base t ≡ Some y → IsSubject base t y
of_subject base t y h = by_tests (is_of acl_agent t) (is_of acl_agent_class t) (is_of acl_agent_group t) refl refl refl h
  where
    by_tests : (a b c : Bool) → is_of acl_agent t ≡ a → is_of acl_agent_class t ≡ b → is_of acl_agent_group t ≡ c
        → cond a (from_iri agent_of t.o) (cond b (from_iri class_of t.o) (cond c (from_iri (group_of base) t.o) None)) ≡ Some y → IsSubject base t y
    by_tests true b c ea eb ec h = inl (is_value acl_agent agent_of t y ea h)
    by_tests false true c ea eb ec h = inr (inl (is_value acl_agent_class class_of t y eb h))
    by_tests false false true ea eb ec h = inr (inr (is_value acl_agent_group (group_of base) t y ec h))
    by_tests false false false ea eb ec h = absurd cc

agent_subject : (base : List ℕ) (node : Term) (agent : List ℕ) → subject_of base (statement node acl_agent agent) ≡ Some (Agent agent)
unfolding acl_agent
agent_subject base node agent = refl

class_subject : (base : List ℕ) (node : Term) (iri : List ℕ) → subject_of base (statement node acl_agent_class iri) ≡ class_of iri
unfolding acl_agent acl_agent_class
class_subject base node iri = refl

group_subject : (base : List ℕ) (node : Term) (iri : List ℕ) → subject_of base (statement node acl_agent_group iri) ≡ group_of base iri
unfolding acl_agent acl_agent_class acl_agent_group
group_subject base node iri = refl

everyone_class : class_of foaf_agent ≡ Some Everyone
unfolding foaf_agent
everyone_class = refl

authenticated_class : class_of acl_authenticated_agent ≡ Some Authenticated
unfolding foaf_agent acl_authenticated_agent
authenticated_class = refl

class_cases : (iri : List ℕ) (y : Subject) → class_of iri ≡ Some y → ((iri ≡ foaf_agent) × (Everyone ≡ y)) ⊎ ((iri ≡ acl_authenticated_agent) × (Authenticated ≡ y))
class_cases iri y h = by_tests (bytes_eq iri foaf_agent) (bytes_eq iri acl_authenticated_agent) refl refl h
  where
    by_tests : (a b : Bool) → bytes_eq iri foaf_agent ≡ a → bytes_eq iri acl_authenticated_agent ≡ b → cond a (Some Everyone) (cond b (Some Authenticated) None) ≡ Some y
        → ((iri ≡ foaf_agent) × (Everyone ≡ y)) ⊎ ((iri ≡ acl_authenticated_agent) × (Authenticated ≡ y))
    by_tests true b ea eb h = inl (same_bytes iri foaf_agent ea, cc)
    by_tests false true ea eb h = inr (same_bytes iri acl_authenticated_agent eb, cc)
    by_tests false false ea eb h = absurd cc

-- what gives a subject, in a graph
abbrev StatesSubject : List ℕ → List Triple → Term → Subject → Type 0
StatesSubject base g node y =
    ((iri : List ℕ) × States g node acl_agent iri × (agent_of iri ≡ Some y))
    ⊎ (((iri : List ℕ) × States g node acl_agent_class iri × (class_of iri ≡ Some y))
    ⊎ ((iri : List ℕ) × States g node acl_agent_group iri × (group_of base iri ≡ Some y)))

subjects_stated : (base : List ℕ) (g : List Triple) (node : Term) (y : Subject) → Contains (rule_of base g node).subjects y → StatesSubject base g node y
unfolding rule_of
subjects_stated base g node y h =
    let found = contains_finds (subject_of base) (triples_of node g) y h in
    ⊎_elim
    (λ is. inl (is.iri, states acl_agent agent_of g node found.at y found.member is, is.gives))
    (λ rest. inr (⊎_elim
    (λ is. inl (is.iri, states acl_agent_class class_of g node found.at y found.member is, is.gives))
    (λ is. inr (is.iri, states acl_agent_group (group_of base) g node found.at y found.member is, is.gives))
    rest))
    (of_subject base found.at y found.gives)

stated_subject : (base : List ℕ) (g : List Triple) (node : Term) (property iri : List ℕ) (y : Subject) → States g node property iri → subject_of base (statement node property iri) ≡ Some y → Contains (rule_of base g node).subjects y
unfolding rule_of
stated_subject base g node property iri y h e =
    finds_contains (subject_of base) (triples_of node g) y (record { at = statement node property iri; member = to_node g node property iri h; gives = e })

pub agent_members : (base : List ℕ) (g : List Triple) (node : Term) (agent : List ℕ)
    → Contains (rule_of base g node).subjects (Agent agent) ↔ States g node acl_agent agent
agent_members base g node agent = (
  λ h. ⊎_elim
      (λ is. let same : is.0 ≡ agent = cc (is.2) in subst (States g node acl_agent) same is.1)
      (λ rest. ⊎_elim
      (λ is. ⊎_elim (λ e. absurd (cc (e.1))) (λ e. absurd (cc (e.1))) (class_cases is.0 (Agent agent) is.2))
      (λ is. absurd (cc (is.2)))
      rest)
      (subjects_stated base g node (Agent agent) h),
  λ h. stated_subject base g node acl_agent agent (Agent agent) h (agent_subject base node agent),
)

pub everyone_members : (base : List ℕ) (g : List Triple) (node : Term)
    → Contains (rule_of base g node).subjects Everyone ↔ States g node acl_agent_class foaf_agent
everyone_members base g node = (
  λ h. ⊎_elim
      (λ is. absurd (cc (is.2)))
      (λ rest. ⊎_elim
      (λ is. ⊎_elim (λ e. subst (States g node acl_agent_class) e.0 is.1) (λ e. absurd (cc (e.1))) (class_cases is.0 Everyone is.2))
      (λ is. absurd (cc (is.2)))
      rest)
      (subjects_stated base g node Everyone h),
  λ h. stated_subject base g node acl_agent_class foaf_agent Everyone h (class_subject base node foaf_agent ∙ everyone_class),
)

pub authenticated_members : (base : List ℕ) (g : List Triple) (node : Term)
    → Contains (rule_of base g node).subjects Authenticated ↔ States g node acl_agent_class acl_authenticated_agent
authenticated_members base g node = (
  λ h. ⊎_elim
      (λ is. absurd (cc (is.2)))
      (λ rest. ⊎_elim
      (λ is. ⊎_elim (λ e. absurd (cc (e.1))) (λ e. subst (States g node acl_agent_class) e.0 is.1) (class_cases is.0 Authenticated is.2))
      (λ is. absurd (cc (is.2)))
      rest)
      (subjects_stated base g node Authenticated h),
  λ h. stated_subject base g node acl_agent_class acl_authenticated_agent Authenticated h (class_subject base node acl_authenticated_agent ∙ authenticated_class),
)

pub group_members : (base : List ℕ) (g : List Triple) (node : Term) (doc : Option (List ℕ)) (group : List ℕ)
    → Contains (rule_of base g node).subjects (Group doc group) ↔ (States g node acl_agent_group group × (doc ≡ document_of base group))
group_members base g node doc group = (
  λ h. ⊎_elim
      (λ is. absurd (cc (is.2)))
      (λ rest. ⊎_elim
      (λ is. ⊎_elim (λ e. absurd (cc (e.1))) (λ e. absurd (cc (e.1))) (class_cases is.0 (Group doc group) is.2))
      (λ is. let same : is.0 ≡ group = cc (is.2) in
      let from : document_of base is.0 ≡ doc = cc (is.2) in
      (subst (States g node acl_agent_group) same is.1, sym from ∙ ap (document_of base) same))
      rest)
      (subjects_stated base g node (Group doc group) h),
  λ h. stated_subject base g node acl_agent_group group (Group doc group) h.0
      (group_subject base node group ∙ ap (λ (o : Option (List ℕ)). Some (Group o group)) (sym h.1)),
)
