-- The guard of triples in the order of their subjects: one subject after another.
use Rattle.std.proofs.Common.{◌≡◌, ℕ, ◌-◌, ◌≤◌, ◌<◌, ◌⊎◌, Bool, true, false, cond, ◌||◌, ◌&&◌, List, [], ◌∷◌, ◌++◌, length, take, refl, sym, ap, ◌∙◌, subst, inl, inr, ⊎_elim, arith, length-append}
use Rattle.std.specs.List.{list_any, AllByRecursion}
use Rattle.std.specs.Ordering.{is_eq, is_le, ordering_reverse}
use Rattle.std.specs.declared.cmp.Ordering.{Ordering}
use Rattle.std.specs.declared.cmp.Ordering.TheVariants.{Less, Equal, Greater}
use Rattle.std.proofs.Math.Bool.{or-false}
use Rattle.std.proofs.Math.Seq.{take-append_seam}
use Rattle.std.proofs.lemmas.Bool.{and_parts, false≢true, false_from_ne_true}
use Rattle.std.proofs.lemmas.Cmp.{tied_itself}
use Rattle.std.proofs.lemmas.List.Folds.{list_any-append}
use Rattle.acl_rules.specs.Rules.{is_rule_statement}
use Rattle.acl_rules.specs.Statements.{statement}
use Rattle.acl_rules.specs.Vocabulary.{acl_access_to, acl_mode, acl_control, acl_agent}
use Rattle.rdf_graph.specs.Term.{term_eq}
use Rattle.rdf_graph.specs.TermLaws.{term_eq_decides}
use Rattle.rdf_graph.specs.TermOrder.{term_cmp}
use Rattle.rdf_graph.specs.TermOrderLaws.{term_cmp_total, term_cmp_exact, term_ties}
use Rattle.rdf_graph.specs.declared.term.Term.{Term}
use Rattle.rdf_graph.specs.declared.term.Term.TheVariants.{Iri}
use Rattle.rdf_graph.specs.declared.triple.Triple.{Triple}
use Rattle.pod_rows.specs.GraphSets.{triple_eq, has_triple}
use Rattle.pod_rows.specs.Guard.{guards, gives_control, has_value, is_guard}
use Rattle.pod_rows.specs.SubjectOrder.{after_subject, are_by_subject, is_by_next, of_subject}
use Rattle.pod_rows.proofs.Tests.{three}

-- ---- the triples of the first subject, and the others

split_step : (node : Term) (t : Triple) (ts : List Triple) (b : Bool) → ts ≡ of_subject node ts ++ after_subject node ts
    → t ∷ ts ≡ cond b (t ∷ of_subject node ts) [] ++ cond b (after_subject node ts) (t ∷ ts)
split_step node t ts true h = ap (λ (x : List Triple). t ∷ x) h
split_step node t ts false h = refl

pub split_is : (node : Term) (ts : List Triple) → ts ≡ of_subject node ts ++ after_subject node ts
split_is node [] = refl
split_is node (t ∷ ts) = split_step node t ts (term_eq t.s node) (split_is node ts)

pub after_short : (node : Term) (ts : List Triple) → length (after_subject node ts) ≤ length ts
after_short node ts = omega (arith, ap length (split_is node ts), length-append (of_subject node ts) (after_subject node ts))

-- the triples before the others
pub own_are : (node : Term) (ts : List Triple) (n : ℕ) → n ≡ length ts - length (after_subject node ts) → take n ts ≡ of_subject node ts
own_are node ts n e =
    let size : n ≡ length (of_subject node ts) = omega (arith, e, ap length (split_is node ts), length-append (of_subject node ts) (after_subject node ts)) in
    ap (λ (k : ℕ). take k ts) size ∙ ap (take (length (of_subject node ts))) (split_is node ts) ∙ take-append_seam (of_subject node ts) (after_subject node ts)

after_first : (t : Triple) (ts : List Triple) → after_subject t.s (t ∷ ts) ≡ after_subject t.s ts
after_first t ts = ap (λ (b : Bool). cond b (after_subject t.s ts) (t ∷ ts)) ((term_eq_decides t.s t.s).1 refl)

pub fewer : (t : Triple) (rest more : List Triple) → rest ≡ t ∷ more → length (after_subject t.s rest) < length rest
fewer t rest more e = omega (arith, ap length e, ap (λ (x : List Triple). length (after_subject t.s x)) e, ap length (after_first t more), after_short t.s more)

-- ---- their order

-- the subject is this one or after it
abbrev From : Term → Term → Type 0
From s u = (term_cmp s u ≡ Less) ⊎ (u ≡ s)

from_cases : (s u : Term) (o : Ordering) → term_cmp s u ≡ o → is_le o ≡ true → From s u
from_cases s u Less e h = inl e
from_cases s u Equal e h = inr (sym (term_cmp_exact s u e))
from_cases s u Greater e h = absurd (false≢true h)

from_trans : (s m u : Term) → From s m → From m u → From s u
from_trans s m u f g =
    ⊎_elim (λ a. ⊎_elim (λ b. inl (term_cmp_total.trans s m u a b)) (λ e. inl (subst (λ (x : Term). term_cmp s x ≡ Less) (sym e) a)) g)
    (λ e. subst (λ (x : Term). From x u) e g) f

further : (s m : Term) (us : List Triple) → From s m → AllByRecursion (λ (u : Triple). From m u.s) us → AllByRecursion (λ (u : Triple). From s u.s) us
further s m [] f a = tt
further s m (u ∷ us) f a = (from_trans s m u.s f a.0, further s m us f a.1)

all_from : (t : Triple) (ts : List Triple) → are_by_subject (t ∷ ts) ≡ true → AllByRecursion (λ (u : Triple). From t.s u.s) ts
all_from t [] h = tt
all_from t (u ∷ us) h =
    let parts = and_parts (is_le (term_cmp t.s u.s)) (are_by_subject (u ∷ us)) h in
    let first = from_cases t.s u.s (term_cmp t.s u.s) refl parts.0 in
    (first, further t.s u.s us first (all_from u us parts.1))

differs : (node u : Term) → term_cmp node u ≡ Less → term_eq u node ≡ false
differs node u l = term_ties u node ∙ ap is_eq (term_cmp_total.antisymm u node ∙ ap ordering_reverse l)

others : (node m : Term) (us : List Triple) → term_cmp node m ≡ Less → AllByRecursion (λ (u : Triple). From m u.s) us → AllByRecursion (λ (u : Triple). term_eq u.s node ≡ false) us
others node m [] l a = tt
others node m (u ∷ us) l a =
    let less : term_cmp node u.s ≡ Less = ⊎_elim (λ b. term_cmp_total.trans node m u.s l b) (λ e. subst (λ (x : Term). term_cmp node x ≡ Less) (sym e) l) a.0 in
    (differs node u.s less, others node m us l a.1)

rest_ordered : (t : Triple) (ts : List Triple) → are_by_subject (t ∷ ts) ≡ true → are_by_subject ts ≡ true
rest_ordered t ts h = (and_parts (is_by_next t ts) (are_by_subject ts) h).1

after_step : (node : Term) (t : Triple) (ts : List Triple) (b : Bool) → term_eq t.s node ≡ b → From node t.s → are_by_subject (t ∷ ts) ≡ true
    → AllByRecursion (λ (u : Triple). term_eq u.s node ≡ false) (after_subject node ts) → AllByRecursion (λ (u : Triple). term_eq u.s node ≡ false) (cond b (after_subject node ts) (t ∷ ts))
after_step node t ts true e f h below = below
after_step node t ts false e f h below =
    let less : term_cmp node t.s ≡ Less = ⊎_elim (λ l. l) (λ s. absurd (false≢true (sym e ∙ (term_eq_decides t.s node).1 s))) f in
    (e, others node t.s ts less (all_from t ts h))

-- none of the others has the subject
after_lacks : (node : Term) (ts : List Triple) → AllByRecursion (λ (u : Triple). From node u.s) ts → are_by_subject ts ≡ true
    → AllByRecursion (λ (u : Triple). term_eq u.s node ≡ false) (after_subject node ts)
after_lacks node [] a h = tt
after_lacks node (t ∷ ts) a h = after_step node t ts (term_eq t.s node) refl a.0 h (after_lacks node ts a.1 (rest_ordered t ts h))

ordered_step : (node : Term) (t : Triple) (ts : List Triple) (b : Bool) → are_by_subject (t ∷ ts) ≡ true → are_by_subject (after_subject node ts) ≡ true
    → are_by_subject (cond b (after_subject node ts) (t ∷ ts)) ≡ true
ordered_step node t ts true h below = below
ordered_step node t ts false h below = h

pub after_ordered : (node : Term) (ts : List Triple) → are_by_subject ts ≡ true → are_by_subject (after_subject node ts) ≡ true
after_ordered node [] h = refl
after_ordered node (t ∷ ts) h = ordered_step node t ts (term_eq t.s node) h (after_ordered node ts (rest_ordered t ts h))

own_step : (node : Term) (t : Triple) (ts : List Triple) (b : Bool) → (b ≡ true → t.s ≡ node) → AllByRecursion (λ (u : Triple). u.s ≡ node) (of_subject node ts)
    → AllByRecursion (λ (u : Triple). u.s ≡ node) (cond b (t ∷ of_subject node ts) [])
own_step node t ts true e h = (e refl, h)
own_step node t ts false e h = tt

own_subject : (node : Term) (ts : List Triple) → AllByRecursion (λ (u : Triple). u.s ≡ node) (of_subject node ts)
own_subject node [] = tt
own_subject node (t ∷ ts) = own_step node t ts (term_eq t.s node) (λ e. (term_eq_decides t.s node).0 e) (own_subject node ts)

-- ---- what a node is given

none_in : (node : Term) (us : List Triple) (property iri : List ℕ) → AllByRecursion (λ (u : Triple). term_eq u.s node ≡ false) us → has_value us node property iri ≡ false
none_in node [] property iri h = refl
none_in node (u ∷ us) property iri h =
    ap (λ (b : Bool). (b && (term_eq u.p (Iri property) && term_eq u.o (Iri iri))) || has_value us node property iri) h.0 ∙ none_in node us property iri h.1

value_left : (node : Term) (xs ys : List Triple) (property iri : List ℕ) → AllByRecursion (λ (u : Triple). term_eq u.s node ≡ false) ys → has_value (xs ++ ys) node property iri ≡ has_value xs node property iri
value_left node xs ys property iri h =
    list_any-append (λ (u : Triple). triple_eq u (statement node property iri)) xs ys
    ∙ ap (λ (b : Bool). has_value xs node property iri || b) (none_in node ys property iri h)
    ∙ or-false (has_value xs node property iri)

value_right : (node : Term) (xs ys : List Triple) (property iri : List ℕ) → AllByRecursion (λ (u : Triple). term_eq u.s node ≡ false) xs → has_value (xs ++ ys) node property iri ≡ has_value ys node property iri
value_right node xs ys property iri h =
    list_any-append (λ (u : Triple). triple_eq u (statement node property iri)) xs ys
    ∙ ap (λ (b : Bool). b || has_value ys node property iri) (none_in node xs property iri h)

control_left : (base owner : List ℕ) (node : Term) (xs ys : List Triple) → AllByRecursion (λ (u : Triple). term_eq u.s node ≡ false) ys → gives_control base owner (xs ++ ys) node ≡ gives_control base owner xs node
control_left base owner node xs ys h =
    three _ _ _ _ _ _ (value_left node xs ys acl_access_to base h) (value_left node xs ys acl_mode acl_control h) (value_left node xs ys acl_agent owner h)

control_right : (base owner : List ℕ) (node : Term) (xs ys : List Triple) → AllByRecursion (λ (u : Triple). term_eq u.s node ≡ false) xs → gives_control base owner (xs ++ ys) node ≡ gives_control base owner ys node
control_right base owner node xs ys h =
    three _ _ _ _ _ _ (value_right node xs ys acl_access_to base h) (value_right node xs ys acl_mode acl_control h) (value_right node xs ys acl_agent owner h)

-- ---- the guard of both parts

any_same : (f g : Triple → Bool) (xs : List Triple) → AllByRecursion (λ (x : Triple). f x ≡ g x) xs → list_any f xs ≡ list_any g xs
any_same f g [] h = refl
any_same f g (x ∷ xs) h = ap (λ (b : Bool). b || list_any f xs) h.0 ∙ ap (λ (b : Bool). g x || b) (any_same f g xs h.1)

lacks_other : (node m : Term) (xs : List Triple) → term_eq m node ≡ false → AllByRecursion (λ (u : Triple). u.s ≡ node) xs → AllByRecursion (λ (u : Triple). term_eq u.s m ≡ false) xs
lacks_other node m [] e h = tt
lacks_other node m (u ∷ us) e h = (
  false_from_ne_true (term_eq u.s m) (λ k. false≢true (sym e ∙ (term_eq_decides m node).1 (sym ((term_eq_decides u.s m).0 k) ∙ h.0))),
  lacks_other node m us e h.1,
)

module _ (base owner : List ℕ) (node : Term) (xs ys : List Triple) where
  left : (ts : List Triple) → AllByRecursion (λ (u : Triple). term_eq u.s node ≡ false) ys → AllByRecursion (λ (u : Triple). u.s ≡ node) ts
      → AllByRecursion (λ (t : Triple). is_guard base owner (xs ++ ys) t ≡ is_guard base owner xs t) ts
  left [] l h = tt
  left (t ∷ ts) l h = (
    ap (λ (b : Bool). is_rule_statement t && b) (subst (λ (n : Term). gives_control base owner (xs ++ ys) n ≡ gives_control base owner xs n) (sym h.0) (control_left base owner node xs ys l)),
    left ts l h.1,
  )

  right : (ts : List Triple) → AllByRecursion (λ (u : Triple). u.s ≡ node) xs → AllByRecursion (λ (u : Triple). term_eq u.s node ≡ false) ts
      → AllByRecursion (λ (t : Triple). is_guard base owner (xs ++ ys) t ≡ is_guard base owner ys t) ts
  right [] a h = tt
  right (t ∷ ts) a h = (
    ap (λ (b : Bool). is_rule_statement t && b) (control_right base owner t.s xs ys (lacks_other node t.s xs h.0 a)),
    right ts a h.1,
  )

  guards_both : AllByRecursion (λ (u : Triple). u.s ≡ node) xs → AllByRecursion (λ (u : Triple). term_eq u.s node ≡ false) ys
      → guards base owner (xs ++ ys) ≡ (guards base owner xs || guards base owner ys)
  guards_both a l =
      list_any-append (is_guard base owner (xs ++ ys)) xs ys
      ∙ ap (λ (b : Bool). b || list_any (is_guard base owner (xs ++ ys)) ys) (any_same (is_guard base owner (xs ++ ys)) (is_guard base owner xs) xs (left xs l a))
      ∙ ap (λ (b : Bool). guards base owner xs || b) (any_same (is_guard base owner (xs ++ ys)) (is_guard base owner ys) ys (right ys a l))

pub guards_first : (base owner : List ℕ) (t : Triple) (rest more : List Triple) → rest ≡ t ∷ more → are_by_subject rest ≡ true
    → guards base owner rest ≡ (guards base owner (of_subject t.s rest) || guards base owner (after_subject t.s rest))
guards_first base owner t rest more e h =
    let from : AllByRecursion (λ (u : Triple). From t.s u.s) rest =
    subst (λ (x : List Triple). AllByRecursion (λ (u : Triple). From t.s u.s) x) (sym e) (inr refl, all_from t more (subst (λ (x : List Triple). are_by_subject x ≡ true) e h)) in
    ap (guards base owner) (split_is t.s rest)
    ∙ guards_both base owner t.s (of_subject t.s rest) (after_subject t.s rest) (own_subject t.s rest) (after_lacks t.s rest from h)

-- the first subject has the guard, or the others have it
pub guards_here : (base owner : List ℕ) (t : Triple) (rest more own : List Triple) (r : Bool) → rest ≡ t ∷ more → are_by_subject rest ≡ true → own ≡ of_subject t.s rest → r ≡ guards base owner own → r ≡ true
    → true ≡ guards base owner rest
guards_here base owner t rest more own r e h is found holds =
    let here : guards base owner (of_subject t.s rest) ≡ true = ap (guards base owner) (sym is) ∙ sym found ∙ holds in
    sym (guards_first base owner t rest more e h ∙ ap (λ (b : Bool). b || guards base owner (after_subject t.s rest)) here)

pub guards_later : (base owner : List ℕ) (t : Triple) (rest more own next : List Triple) (r : Bool) → rest ≡ t ∷ more → are_by_subject rest ≡ true → own ≡ of_subject t.s rest → next ≡ after_subject t.s rest
    → r ≡ guards base owner own → r ≡ false → guards base owner next ≡ guards base owner rest
guards_later base owner t rest more own next r e h is after found lacks =
    let here : guards base owner (of_subject t.s rest) ≡ false = ap (guards base owner) (sym is) ∙ sym found ∙ lacks in
    ap (guards base owner) after ∙ sym (guards_first base owner t rest more e h ∙ ap (λ (b : Bool). b || guards base owner (after_subject t.s rest)) here)
