-- The path of a document is that of its IRI.
use Rattle.std.proofs.Common.{◌≡◌, ℕ, Bool, true, false, not, cond, ◌||◌, ◌&&◌, List, [], ◌∷◌, ◌++◌, length, take, drop, Option, Some, None, Result, Ok, Err, refl, sym, ap, subst, ◌∙◌}
use Rattle.std.specs.Prelude.{IfOk, IfSome, IfNone, nat_eq, bytes_eq, IsTrue, ◌↔◌}
use Rattle.std.specs.List.{before_first, list_any, list_all, starts_with}
use Rattle.std.proofs.lemmas.Bool.{false≢true, true≢false}
use Rattle.std.proofs.lemmas.Slice.Eq.{bytes_eq-Decides}
use Rattle.std.proofs.lemmas.List.{take-append-drop}
use Rattle.std.proofs.lemmas.List.Sums.{take_while-cons}
use Rattle.std.proofs.Math.Seq.{take-append_seam}
use Rattle.iri_ref.specs.Characters.{slash, is_hash, Lacks}
use Rattle.pod_base.specs.declared.memory.NoMemory.{NoMemory}
use Rattle.pod_path.specs.Norm.{norm}
use Rattle.pod_path.specs.declared.fault.PathFault.{PathFault}
use Rattle.pod_path.specs.Hierarchy.{uri_of, IsUriOf}
use Rattle.pod_path.proofs.Ancestors.{spelled_head}
use Rattle.pod_path.proofs.NormalPaths.{norm_parts}
use Rattle.acl_rules.specs.Documents.{is_parse, normal_path, path_after, document_of, resource_of}

parse_is : (r : Result (List ℕ) PathFault) (text : List ℕ) → is_parse r text ≡ true → r ≡ Ok text
parse_is (Ok path) text e = ap (λ (p : List ℕ). Ok p) ((bytes_eq-Decides path text).0 e)
parse_is (Err fault) text e = absurd (false≢true e)

some_normal : (text path : List ℕ) → normal_path text ≡ Some path → (text ≡ path) × (norm text ≡ Ok text)
some_normal text path h = by_test (is_parse (norm text) text) refl h
  where
    by_test : (b : Bool) → is_parse (norm text) text ≡ b → cond b (Some text) None ≡ Some path → (text ≡ path) × (norm text ≡ Ok text)
    by_test true e h = (cc, parse_is (norm text) text e)
    by_test false e h = absurd cc

normal_some : (text : List ℕ) → norm text ≡ Ok text → normal_path text ≡ Some text
normal_some text e =
    ap (λ (b : Bool). cond b (Some text) None) (ap (λ (r : Result (List ℕ) PathFault). is_parse r text) e ∙ (bytes_eq-Decides text text).1 refl)

drop-append_seam : (xs ys : List ℕ) → drop (length xs) (xs ++ ys) ≡ ys
drop-append_seam [] ys = refl
drop-append_seam (x ∷ xs) ys = drop-append_seam xs ys

after_base : (base rest : List ℕ) → norm (slash ∷ rest) ≡ Ok (slash ∷ rest) → path_after base (base ++ rest) ≡ Some (slash ∷ rest)
after_base base rest e =
    ap (λ (b : Bool). cond b (normal_path (slash ∷ drop (length base) (base ++ rest))) None)
    ((bytes_eq-Decides base (take (length base) (base ++ rest))).1 (sym (take-append_seam base rest)))
    ∙ ap (λ (t : List ℕ). normal_path (slash ∷ t)) (drop-append_seam base rest)
    ∙ normal_some (slash ∷ rest) e

base_after : (base part path : List ℕ) → path_after base part ≡ Some path → (norm path ≡ Ok path) × (part ≡ uri_of base path)
base_after base part path h = by_test (starts_with nat_eq part base) refl h
  where
    by_test : (b : Bool) → starts_with nat_eq part base ≡ b → cond b (normal_path (slash ∷ drop (length base) part)) None ≡ Some path → (norm path ≡ Ok path) × (part ≡ uri_of base path)
    by_test true e h =
        let some = some_normal (slash ∷ drop (length base) part) path h in
        let front : base ≡ take (length base) part = (bytes_eq-Decides base (take (length base) part)).0 e in (
          subst (λ (t : List ℕ). norm t ≡ Ok t) some.0 some.1,
          sym (take-append-drop (length base) part) ∙ ap (λ (t : List ℕ). t ++ drop (length base) part) (sym front) ∙ ap (λ (t : List ℕ). base ++ drop 1 t) some.0,
        )
    by_test false e h = absurd cc

pub document_uri : (base iri path : List ℕ) → document_of base iri ≡ Some path → IsUriOf base iri path
unfolding document_of
document_uri base iri path h =
    let parts = base_after base (before_first is_hash iri) path h in
    record { normal = parts.0; whole = parts.1 }

pub uri_document : (base iri path : List ℕ) → IsUriOf base iri path → document_of base iri ≡ Some path
unfolding document_of
uri_document base iri path h =
    let head : path ≡ slash ∷ drop 1 path = spelled_head path (norm_parts path path h.normal).characters in
    ap (path_after base) h.whole
    ∙ after_base base (drop 1 path) (subst (λ (t : List ℕ). norm t ≡ Ok t) head h.normal)
    ∙ ap (λ (t : List ℕ). Some t) (sym head)

-- what parsing an IRI finds is the path of its document
pub documented : (base iri : List ℕ) (r : Result (Option (List ℕ)) NoMemory) → IfOk r (λ found. IfSome found (λ path. IsUriOf base iri path)) → IfOk r (λ found. IfNone found ((path : List ℕ) → IsUriOf base iri path → ⊥)) → IfOk r (λ found. found ≡ document_of base iri)
documented base iri (Err fault) some none = tt
documented base iri (Ok (Some path)) some none = sym (uri_document base iri path some)
documented base iri (Ok None) some none = by_document (document_of base iri) refl
  where
    by_document : (found : Option (List ℕ)) → document_of base iri ≡ found → None ≡ found
    by_document None e = refl
    by_document (Some path) e = absurd (none path (document_uri base iri path e))

-- ---- resources

none_lacks : (xs : List ℕ) → list_any is_hash xs ≡ false → Lacks is_hash xs
none_lacks [] h = refl
none_lacks (x ∷ xs) h = by_test (is_hash x) refl (none_lacks xs) h
  where
    by_test : (b : Bool) → is_hash x ≡ b → (list_any is_hash xs ≡ false → Lacks is_hash xs) → (b || list_any is_hash xs) ≡ false → Lacks is_hash (x ∷ xs)
    by_test true e rest h = absurd (true≢false h)
    by_test false e rest h = ap (λ (b : Bool). not b && list_all (λ c. not (is_hash c)) xs) e ∙ rest h

lacks_none : (xs : List ℕ) → Lacks is_hash xs → list_any is_hash xs ≡ false
lacks_none [] h = refl
lacks_none (x ∷ xs) h = by_test (is_hash x) refl (lacks_none xs) h
  where
    by_test : (b : Bool) → is_hash x ≡ b → (Lacks is_hash xs → list_any is_hash xs ≡ false) → (not b && list_all (λ c. not (is_hash c)) xs) ≡ true → list_any is_hash (x ∷ xs) ≡ false
    by_test true e rest h = absurd (false≢true h)
    by_test false e rest h = ap (λ (b : Bool). b || list_any is_hash xs) e ∙ rest h

pub resource_uri : (base iri path : List ℕ) → resource_of base iri ≡ Some path → IsUriOf base iri path × Lacks is_hash iri
unfolding resource_of
resource_uri base iri path h = by_test (list_any is_hash iri) refl h
  where
    by_test : (b : Bool) → list_any is_hash iri ≡ b → cond b None (document_of base iri) ≡ Some path → IsUriOf base iri path × Lacks is_hash iri
    by_test true e h = absurd cc
    by_test false e h = (document_uri base iri path h, none_lacks iri e)

pub uri_resource : (base iri path : List ℕ) → IsUriOf base iri path × Lacks is_hash iri → resource_of base iri ≡ Some path
unfolding resource_of
uri_resource base iri path h =
    ap (λ (b : Bool). cond b None (document_of base iri)) (lacks_none iri h.1) ∙ uri_document base iri path h.0

-- ---- the IRI of a resource

abbrev no_hash : ℕ → Bool
no_hash c = not (is_hash c)

first_lacks : (xs : List ℕ) → Lacks is_hash (before_first is_hash xs)
first_lacks [] = refl
first_lacks (x ∷ xs) = subst (λ (t : List ℕ). Lacks is_hash t) (sym (take_while-cons no_hash x xs)) (by_test (no_hash x) refl (first_lacks xs))
  where
    by_test : (b : Bool) → no_hash x ≡ b → Lacks is_hash (before_first is_hash xs) → Lacks is_hash (cond b (x ∷ before_first is_hash xs) [])
    by_test true e rest = ap (λ (b : Bool). b && list_all no_hash (before_first is_hash xs)) e ∙ rest
    by_test false e rest = refl

lacks_whole : (xs : List ℕ) → Lacks is_hash xs → before_first is_hash xs ≡ xs
lacks_whole [] h = refl
lacks_whole (x ∷ xs) h = take_while-cons no_hash x xs ∙ by_test (no_hash x) refl (lacks_whole xs) h
  where
    by_test : (b : Bool) → no_hash x ≡ b → (Lacks is_hash xs → before_first is_hash xs ≡ xs) → (b && list_all no_hash xs) ≡ true → cond b (x ∷ before_first is_hash xs) [] ≡ x ∷ xs
    by_test true e rest h = ap (λ (t : List ℕ). x ∷ t) (rest h)
    by_test false e rest h = absurd (false≢true h)

pub resource_is : (base iri path : List ℕ) → resource_of base iri ≡ Some path → iri ≡ uri_of base path
resource_is base iri path h =
    let parts = resource_uri base iri path h in
    sym (lacks_whole iri parts.1) ∙ parts.0.whole

pub uri_is : (base path : List ℕ) → IsUriOf base (uri_of base path) path → resource_of base (uri_of base path) ≡ Some path
uri_is base path h =
    uri_resource base (uri_of base path) path (h, subst (λ (t : List ℕ). Lacks is_hash t) h.whole (first_lacks (uri_of base path)))
