-- What a mapping makes of patterns.
use Rattle.std.proofs.Common.{ℕ, ◌+◌, ◌<◌, ◌≡◌, ◌↔◌, List, [], ◌∷◌, ◌++◌, length, take, get_or, sym, ap, ◌∙◌, subst, ⊎_elim}
use Rattle.std.specs.List.{All, AllZip, Contains}
use Rattle.std.proofs.lemmas.List.{take_more}
use Rattle.std.proofs.lemmas.List.Elements.{All-contains}
use Rattle.graph_patch.specs.Patch.{AreInstances, IsBoundIn, IsInstance, IsTheSolution}
use Rattle.graph_patch.specs.declared.pattern.Slot.TheVariants.{Fixed, Var}
use Rattle.graph_patch.specs.Pattern.{Binding, Instantiates, IsVariableOf, value_of}
use Rattle.graph_patch.specs.Solutions.{IsOnlySolution}
use Rattle.graph_patch.specs.declared.pattern.Pattern.{Pattern}
use Rattle.rdf_graph.specs.declared.term.Term.{Term}
use Rattle.rdf_graph.specs.declared.triple.Triple.{Triple}
use Rattle.graph_patch.proofs.BindingSteps.{same_some}
use Rattle.rdf_graph.proofs.Exact.{same_parts}
use Rattle.rdf_graph.proofs.Members.{contains_cases, contains_here, contains_none, contains_there}

-- a mapping makes a pattern one triple
pub one_instance : (m : Binding) (pattern : Pattern) (t u : Triple) → Instantiates m pattern t → Instantiates m pattern u → t ≡ u
one_instance m pattern t u a b =
    same_parts t.s t.p t.o u.s u.p u.o (same_some _ t.s u.s a.s b.s) (same_some _ t.p u.p a.p b.p) (same_some _ t.o u.o a.o b.o)

pub instances_are : (m : Binding) (patterns : List Pattern) (triples : List Triple) → AllZip (Instantiates m) patterns triples → AreInstances m patterns triples
instances_are m [] [] h x = (λ a. absurd (contains_none x a), λ a. absurd (contains_none a.0 a.1))
instances_are m [] (t ∷ triples) h x = absurd h
instances_are m (c ∷ patterns) [] h x = absurd h
instances_are m (c ∷ patterns) (t ∷ triples) h x =
    let rest = instances_are m patterns triples h.1 x in (
      λ a. ⊎_elim
          (λ same. (c, contains_here c patterns, subst (Instantiates m c) same h.0))
          (λ behind. let of = rest.0 behind in (of.0, contains_there c patterns of.0 of.1, of.2))
          (contains_cases t triples x a),
      λ a. ⊎_elim
          (λ same. subst (Contains (t ∷ triples)) (one_instance m c t x h.0 (subst (λ d. Instantiates m d x) (sym same) a.2)) (contains_here t triples))
          (λ behind. contains_there t triples x (rest.1 (a.0, behind, a.2)))
          (contains_cases c patterns a.0 a.1),
    )

-- the same triples as a list and as a set
pub instances_same : (m : Binding) (patterns : List Pattern) (triples set : List Triple) → ((x : Triple) → Contains set x ↔ Contains triples x) → AreInstances m patterns triples → AreInstances m patterns set
instances_same m patterns triples set same are x = (λ h. (are x).0 ((same x).0 h), λ h. (same x).1 ((are x).1 h))

-- what holds of the triples holds of each instance
pub each_instance : (P : Triple → Type 0) (m : Binding) (patterns : List Pattern) (triples : List Triple) → AreInstances m patterns triples → All P triples → (x : Triple) → IsInstance m patterns x → P x
each_instance P m patterns triples are all x h = All-contains P triples x all ((are x).1 h)

pub the_solution : (g : List Triple) (conditions : List Pattern) (pairs : List (List ℕ × Term)) → IsOnlySolution g conditions pairs → IsTheSolution g conditions (value_of pairs)
the_solution g conditions pairs h = record { solution = h.solution; only = h.only }

zip_push : {A B : Type 0} (R : A → B → Type 0) (xs : List A) (ys : List B) (x : A) (y : B) → AllZip R xs ys → R x y → AllZip R (xs ++ x ∷ []) (ys ++ y ∷ [])
zip_push R [] [] x y h r = (r, h)
zip_push R [] (b ∷ ys) x y h r = absurd h
zip_push R (a ∷ xs) [] x y h r = absurd h
zip_push R (a ∷ xs) (b ∷ ys) x y h r = (h.0, zip_push R xs ys x y h.1 r)

-- one more instance
pub zip_more : {A B : Type 0} (R : A → B → Type 0) (xs : List A) (ys longer : List B) (i : ℕ) (x : A) (y : B) → i < length xs → x ≡ get_or xs i x → longer ≡ ys ++ y ∷ [] → AllZip R (take i xs) ys → R x y → AllZip R (take (i + 1) xs) longer
zip_more R xs ys longer i x y l is e h r =
    subst (λ zs. AllZip R zs longer) (sym (take_more xs i x l ∙ ap (λ z. take i xs ++ z ∷ []) (sym is)))
    (subst (AllZip R (take i xs ++ x ∷ [])) (sym e) (zip_push R (take i xs) ys x y h r))

-- ---- variables that the conditions have

pub bound_in_var : (name : List ℕ) (conditions : List Pattern) → IsVariableOf conditions name → IsBoundIn (Var name) conditions
bound_in_var name conditions h other e = subst (IsVariableOf conditions) (same_name name other e) h
  where
    same_name : (a b : List ℕ) → Var a ≡ Var b → a ≡ b
    same_name a b e = cc

pub bound_in_fixed : (term : Term) (conditions : List Pattern) → IsBoundIn (Fixed term) conditions
bound_in_fixed term conditions name e = absurd (apart e)
  where
    apart : Fixed term ≡ Var name → ⊥
    apart e = cc
