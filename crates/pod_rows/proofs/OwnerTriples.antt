-- The owner's rule is a graph, and gives the owner control.
use Rattle.std.proofs.Common.{◌≡◌, ℕ, true, List, [], ◌∷◌, ◌++◌, codes, refl, sym, subst, ◌∙◌}
use Rattle.std.specs.Ordering.{ordering_then}
use Rattle.std.specs.List.{All, AllByRecursion, Contains, list_any}
use Rattle.std.specs.List.Sorted.{IsStrictlySortedBy}
use Rattle.std.specs.declared.cmp.Ordering.{Ordering}
use Rattle.std.specs.declared.cmp.Ordering.TheVariants.{Less}
use Rattle.std.proofs.lemmas.Bool.{and_from, or_left}
use Rattle.std.proofs.lemmas.List.Elements.{All-from_recursion}
use Rattle.acl_rules.specs.Rules.{is_rule_statement}
use Rattle.acl_rules.specs.Statements.{statement}
use Rattle.acl_rules.specs.Vocabulary.{rdf_type, acl_authorization, acl_access_to, acl_agent, acl_default, acl_mode, acl_control, acl_read, acl_write}
use Rattle.rdf_graph.specs.Graph.{IsGraph}
use Rattle.rdf_graph.specs.Term.{text, term_eq}
use Rattle.rdf_graph.specs.TermLaws.{term_eq_decides}
use Rattle.rdf_graph.specs.Triple.{line, bytes_cmp, triple_cmp, IsRdf}
use Rattle.rdf_graph.specs.declared.term.Term.{Term}
use Rattle.rdf_graph.specs.declared.term.Term.TheVariants.{Iri}
use Rattle.rdf_graph.specs.declared.triple.Triple.{Triple}
use Rattle.rdf_graph.proofs.LineOrders.{cmp_same}
use Rattle.rdf_graph.proofs.Members.{contains_here, contains_there, All-from_members}
use Rattle.pod_rows.specs.GraphSets.{has_triple}
use Rattle.pod_rows.specs.Guard.{guards, gives_control, has_value, is_guard}
use Rattle.pod_rows.proofs.Sets.{has_from}
use Rattle.pod_rows.specs.FirstPods.{rule_iri, subject_triples, mode_triples, owner_triples}

-- what follows the subject in a line
abbrev rest_of : List ℕ → List ℕ → List ℕ
rest_of property value = codes " " ++ (text (Iri property) ++ (codes " " ++ (text (Iri value) ++ codes " .\n")))

-- of one subject the rest of the line decides
below : (node : Term) (p v q w : List ℕ) → bytes_cmp (rest_of p v) (rest_of q w) ≡ Less → triple_cmp (statement node p v) (statement node q w) ≡ Less
unfolding triple_cmp line
below node p v q w h =
    let same = cmp_same (text node) (rest_of p v) (rest_of q w) ∙ h in
    rw same refl

-- the properties decide, and among the modes their IRIs

abbrev IsBefore : List ℕ → List ℕ → List ℕ → List ℕ → Type 0
IsBefore p v q w = bytes_cmp (rest_of p v) (rest_of q w) ≡ Less

type_access : (v w : List ℕ) → IsBefore rdf_type v acl_access_to w
unfolding text rdf_type acl_access_to
type_access v w = refl

type_agent : (v w : List ℕ) → IsBefore rdf_type v acl_agent w
unfolding text rdf_type acl_agent
type_agent v w = refl

type_default : (v w : List ℕ) → IsBefore rdf_type v acl_default w
unfolding text rdf_type acl_default
type_default v w = refl

type_mode : (v w : List ℕ) → IsBefore rdf_type v acl_mode w
unfolding text rdf_type acl_mode
type_mode v w = refl

access_agent : (v w : List ℕ) → IsBefore acl_access_to v acl_agent w
unfolding text acl_access_to acl_agent
access_agent v w = refl

access_default : (v w : List ℕ) → IsBefore acl_access_to v acl_default w
unfolding text acl_access_to acl_default
access_default v w = refl

access_mode : (v w : List ℕ) → IsBefore acl_access_to v acl_mode w
unfolding text acl_access_to acl_mode
access_mode v w = refl

agent_default : (v w : List ℕ) → IsBefore acl_agent v acl_default w
unfolding text acl_agent acl_default
agent_default v w = refl

agent_mode : (v w : List ℕ) → IsBefore acl_agent v acl_mode w
unfolding text acl_agent acl_mode
agent_mode v w = refl

default_mode : (v w : List ℕ) → IsBefore acl_default v acl_mode w
unfolding text acl_default acl_mode
default_mode v w = refl

control_read : IsBefore acl_mode acl_control acl_mode acl_read
unfolding text acl_mode acl_control acl_read
control_read = refl

control_write : IsBefore acl_mode acl_control acl_mode acl_write
unfolding text acl_mode acl_control acl_write
control_write = refl

read_write : IsBefore acl_mode acl_read acl_mode acl_write
unfolding text acl_mode acl_read acl_write
read_write = refl

module _ (base owner : List ℕ) where
  abbrev node : Term
  node = Iri (rule_iri base)

  from_type : AllByRecursion (λ (y : Triple). triple_cmp (statement node rdf_type acl_authorization) y ≡ Less) (statement node acl_access_to base ∷ statement node acl_agent owner ∷ statement node acl_default base ∷ statement node acl_mode acl_control ∷ statement node acl_mode acl_read ∷ statement node acl_mode acl_write ∷ [])
  from_type =
      (below node rdf_type acl_authorization acl_access_to base (type_access acl_authorization base), (below node rdf_type acl_authorization acl_agent owner (type_agent acl_authorization owner), (below node rdf_type acl_authorization acl_default base (type_default acl_authorization base), (below node rdf_type acl_authorization acl_mode acl_control (type_mode acl_authorization acl_control), (below node rdf_type acl_authorization acl_mode acl_read (type_mode acl_authorization acl_read), (below node rdf_type acl_authorization acl_mode acl_write (type_mode acl_authorization acl_write), tt))))))

  from_access : AllByRecursion (λ (y : Triple). triple_cmp (statement node acl_access_to base) y ≡ Less) (statement node acl_agent owner ∷ statement node acl_default base ∷ statement node acl_mode acl_control ∷ statement node acl_mode acl_read ∷ statement node acl_mode acl_write ∷ [])
  from_access =
      (below node acl_access_to base acl_agent owner (access_agent base owner), (below node acl_access_to base acl_default base (access_default base base), (below node acl_access_to base acl_mode acl_control (access_mode base acl_control), (below node acl_access_to base acl_mode acl_read (access_mode base acl_read), (below node acl_access_to base acl_mode acl_write (access_mode base acl_write), tt)))))

  from_agent : AllByRecursion (λ (y : Triple). triple_cmp (statement node acl_agent owner) y ≡ Less) (statement node acl_default base ∷ statement node acl_mode acl_control ∷ statement node acl_mode acl_read ∷ statement node acl_mode acl_write ∷ [])
  from_agent =
      (below node acl_agent owner acl_default base (agent_default owner base), (below node acl_agent owner acl_mode acl_control (agent_mode owner acl_control), (below node acl_agent owner acl_mode acl_read (agent_mode owner acl_read), (below node acl_agent owner acl_mode acl_write (agent_mode owner acl_write), tt))))

  from_default : AllByRecursion (λ (y : Triple). triple_cmp (statement node acl_default base) y ≡ Less) (statement node acl_mode acl_control ∷ statement node acl_mode acl_read ∷ statement node acl_mode acl_write ∷ [])
  from_default =
      (below node acl_default base acl_mode acl_control (default_mode base acl_control), (below node acl_default base acl_mode acl_read (default_mode base acl_read), (below node acl_default base acl_mode acl_write (default_mode base acl_write), tt)))

  from_control : AllByRecursion (λ (y : Triple). triple_cmp (statement node acl_mode acl_control) y ≡ Less) (statement node acl_mode acl_read ∷ statement node acl_mode acl_write ∷ [])
  from_control =
      (below node acl_mode acl_control acl_mode acl_read control_read, (below node acl_mode acl_control acl_mode acl_write control_write, tt))

  from_read : AllByRecursion (λ (y : Triple). triple_cmp (statement node acl_mode acl_read) y ≡ Less) (statement node acl_mode acl_write ∷ [])
  from_read =
      (below node acl_mode acl_read acl_mode acl_write read_write, tt)

  from_write : AllByRecursion (λ (y : Triple). triple_cmp (statement node acl_mode acl_write) y ≡ Less) ([])
  from_write =
      tt

  ordered : IsStrictlySortedBy triple_cmp (owner_triples base owner)
  unfolding IsStrictlySortedBy owner_triples
  ordered =
      (from_type, (from_access, (from_agent, (from_default, (from_control, (from_read, (from_write, tt)))))))

  rdf : All IsRdf (owner_triples base owner)
  unfolding owner_triples
  rdf =
      let one : IsRdf (statement node rdf_type acl_authorization) = (λ l. l, tt) in
      All-from_recursion IsRdf (owner_triples base owner)
      (one, ((λ l. l, tt), ((λ l. l, tt), ((λ l. l, tt), ((λ l. l, tt), ((λ l. l, tt), ((λ l. l, tt), tt)))))))

  pub owner_graph_is : IsGraph (owner_triples base owner)
  owner_graph_is = record { ordered = ordered; rdf = rdf }

  has_access : Contains (owner_triples base owner) (statement node acl_access_to base)
  unfolding owner_triples
  has_access =
      contains_there (statement node rdf_type acl_authorization) (statement node acl_access_to base ∷ statement node acl_agent owner ∷ statement node acl_default base ∷ statement node acl_mode acl_control ∷ statement node acl_mode acl_read ∷ statement node acl_mode acl_write ∷ []) (statement node acl_access_to base)
      (contains_here (statement node acl_access_to base) (statement node acl_agent owner ∷ statement node acl_default base ∷ statement node acl_mode acl_control ∷ statement node acl_mode acl_read ∷ statement node acl_mode acl_write ∷ []))

  has_agent : Contains (owner_triples base owner) (statement node acl_agent owner)
  unfolding owner_triples
  has_agent =
      contains_there (statement node rdf_type acl_authorization) (statement node acl_access_to base ∷ statement node acl_agent owner ∷ statement node acl_default base ∷ statement node acl_mode acl_control ∷ statement node acl_mode acl_read ∷ statement node acl_mode acl_write ∷ []) (statement node acl_agent owner)
      (contains_there (statement node acl_access_to base) (statement node acl_agent owner ∷ statement node acl_default base ∷ statement node acl_mode acl_control ∷ statement node acl_mode acl_read ∷ statement node acl_mode acl_write ∷ []) (statement node acl_agent owner)
      (contains_here (statement node acl_agent owner) (statement node acl_default base ∷ statement node acl_mode acl_control ∷ statement node acl_mode acl_read ∷ statement node acl_mode acl_write ∷ [])))

  has_control : Contains (owner_triples base owner) (statement node acl_mode acl_control)
  unfolding owner_triples
  has_control =
      contains_there (statement node rdf_type acl_authorization) (statement node acl_access_to base ∷ statement node acl_agent owner ∷ statement node acl_default base ∷ statement node acl_mode acl_control ∷ statement node acl_mode acl_read ∷ statement node acl_mode acl_write ∷ []) (statement node acl_mode acl_control)
      (contains_there (statement node acl_access_to base) (statement node acl_agent owner ∷ statement node acl_default base ∷ statement node acl_mode acl_control ∷ statement node acl_mode acl_read ∷ statement node acl_mode acl_write ∷ []) (statement node acl_mode acl_control)
      (contains_there (statement node acl_agent owner) (statement node acl_default base ∷ statement node acl_mode acl_control ∷ statement node acl_mode acl_read ∷ statement node acl_mode acl_write ∷ []) (statement node acl_mode acl_control)
      (contains_there (statement node acl_default base) (statement node acl_mode acl_control ∷ statement node acl_mode acl_read ∷ statement node acl_mode acl_write ∷ []) (statement node acl_mode acl_control)
      (contains_here (statement node acl_mode acl_control) (statement node acl_mode acl_read ∷ statement node acl_mode acl_write ∷ [])))))

  controls : gives_control base owner (owner_triples base owner) node ≡ true
  controls = and_from _ _ (has_from _ _ has_access) (and_from _ _ (has_from _ _ has_control) (has_from _ _ has_agent))

  -- the rule's first triple gives its node the type
  says_type : is_rule_statement (statement node rdf_type acl_authorization) ≡ true
  says_type =
      and_from _ _ ((term_eq_decides (Iri rdf_type) (Iri rdf_type)).1 refl) ((term_eq_decides (Iri acl_authorization) (Iri acl_authorization)).1 refl)

  guards_first : (g : List Triple) → g ≡ owner_triples base owner → list_any (is_guard base owner (owner_triples base owner)) g ≡ true
  unfolding owner_triples
  guards_first g same = subst (λ h. list_any (is_guard base owner (owner_triples base owner)) h ≡ true) (sym same) (or_left _ _ (and_from _ _ says_type controls))

  pub owner_guards : guards base owner (owner_triples base owner) ≡ true
  owner_guards = guards_first (owner_triples base owner) refl
