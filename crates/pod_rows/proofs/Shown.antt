-- The triples that a container shows are triples of RDF.
use Rattle.std.proofs.Common.{◌≡◌, ◌+◌, ◌<◌, ℕ, List, [], ◌∷◌, ◌++◌, length, take, get_or, map, refl, sym, ap, ◌∙◌, append_assoc}
use Rattle.std.specs.List.{All, AllByRecursion}
use Rattle.std.proofs.lemmas.List.{take_more}
use Rattle.std.proofs.lemmas.List.Elements.{All-append, All-from_recursion}
use Rattle.pod_path.specs.Hierarchy.{uri_of}
use Rattle.rdf_graph.specs.Triple.{IsRdf, iri_triple}
use Rattle.rdf_graph.specs.declared.triple.Triple.{Triple}
use Rattle.pod_rows.specs.ContainedTriples.{child_triples}
use Rattle.pod_rows.specs.Pod.{Pod, row_at}
use Rattle.pod_rows.specs.Tree.{children_of}
use Rattle.pod_rows.specs.View.{own_triples, shown_triples, type_triples}
use Rattle.pod_rows.specs.Vocabulary.{ldp_contains}

types_are_rdf : (uri : List ℕ) → AllByRecursion IsRdf (type_triples uri)
types_are_rdf uri = (((λ x. x), tt), (((λ x. x), tt), (((λ x. x), tt), tt)))

children_are_rdf : (base uri : List ℕ) (children : List (List ℕ)) → AllByRecursion IsRdf (child_triples base uri children)
children_are_rdf base uri [] = tt
children_are_rdf base uri (child ∷ more) = (((λ x. x), tt), children_are_rdf base uri more)

pub shown_are_rdf : (own : List Triple) (base uri : List ℕ) (children : List (List ℕ)) → All IsRdf own → All IsRdf ((own ++ type_triples uri) ++ child_triples base uri children)
shown_are_rdf own base uri children h =
    All-append IsRdf (own ++ type_triples uri) (child_triples base uri children)
    (All-append IsRdf own (type_triples uri) h (All-from_recursion IsRdf (type_triples uri) (types_are_rdf uri)))
    (All-from_recursion IsRdf (child_triples base uri children) (children_are_rdf base uri children))

pub three_more : {X : Type 0} (xs : List X) (a b c : X) → ((xs ++ a ∷ []) ++ b ∷ []) ++ c ∷ [] ≡ xs ++ a ∷ b ∷ c ∷ []
three_more [] a b c = refl
three_more (x ∷ xs) a b c = ap (λ ys. x ∷ ys) (three_more xs a b c)

-- ---- one more child

map_end : {X Y : Type 0} (f : X → Y) (xs : List X) (x : X) → map f (xs ++ x ∷ []) ≡ map f xs ++ f x ∷ []
map_end f [] x = refl
map_end f (z ∷ zs) x = ap (λ ys. f z ∷ ys) (map_end f zs x)

pub child_step : (base uri : List ℕ) (children : List (List ℕ)) (i : ℕ) (child : List ℕ) (own all : List Triple) (t : Triple) → i < length children → child ≡ get_or children i child
    → t ≡ iri_triple uri ldp_contains (uri_of base child) → all ≡ own ++ child_triples base uri (take i children) → all ++ t ∷ [] ≡ own ++ child_triples base uri (take (i + 1) children)
child_step base uri children i child own all t l c is h =
    let f : List ℕ → Triple = λ (x : List ℕ). iri_triple uri ldp_contains (uri_of base x) in
    ap (λ (ts : List Triple). ts ++ t ∷ []) h
    ∙ append_assoc own (child_triples base uri (take i children)) (t ∷ [])
    ∙ ap (λ (x : Triple). own ++ (child_triples base uri (take i children) ++ x ∷ [])) (is ∙ ap f c)
    ∙ ap (λ (ts : List Triple). own ++ ts) (sym (ap (map f) (take_more children i child l) ∙ map_end f (take i children) (get_or children i child)))

-- ---- what is shown

pub shown_is : (pod : Pod) (path : List ℕ) (own : List Triple) (base uri : List ℕ) (children : List (List ℕ)) → own ≡ own_triples (row_at pod.rows path) → base ≡ pod.base → uri ≡ uri_of pod.base path
    → children ≡ children_of pod.rows path → (own ++ type_triples uri) ++ child_triples base uri children ≡ shown_triples pod path
shown_is pod path own base uri children o b u c =
    append_assoc own (type_triples uri) (child_triples base uri children)
    ∙ ap (λ (x : List Triple). x ++ (type_triples uri ++ child_triples base uri children)) o
    ∙ ap (λ (x : List ℕ). own_triples (row_at pod.rows path) ++ (type_triples x ++ child_triples base x children)) u
    ∙ ap (λ (x : List ℕ). own_triples (row_at pod.rows path) ++ (type_triples (uri_of pod.base path) ++ child_triples x (uri_of pod.base path) children)) b
    ∙ ap (λ (x : List (List ℕ)). own_triples (row_at pod.rows path) ++ (type_triples (uri_of pod.base path) ++ child_triples pod.base (uri_of pod.base path) x)) c
