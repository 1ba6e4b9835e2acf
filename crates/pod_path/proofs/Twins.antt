-- Twins, parents, children and ancestors.
use Rattle.std.proofs.Common.{◌≡◌, ℕ, ◌<◌, Bool, true, false, cond, ◌||◌, List, [], ◌∷◌, ◌++◌, length, drop, reverse, Option, Some, None, refl, sym, ap, subst, ◌∙◌, arith, append_assoc, length-append}
use Rattle.std.specs.Prelude.{IsTrue, bytes_eq, codes}
use Rattle.std.proofs.lemmas.List.{same_from_push, reverse-append}
use Rattle.std.proofs.lemmas.Slice.Eq.{bytes_eq-Decides}
use Rattle.iri_ref.specs.Characters.{slash}
use Rattle.iri_ref.specs.Segments.{segments, is_dot_segment}
use Rattle.iri_ref.specs.Resolution.{up_to_last_slash}
use Rattle.iri_ref.proofs.PathWriting.{segments_parts}
use Rattle.iri_ref.proofs.Paths.{up_to_cut}
use Rattle.pod_path.specs.Escapes.{normalize_escapes}
use Rattle.pod_path.specs.Norm.{is_empty, is_auxiliary_name, is_reserved_name, has_path_characters, IsPath}
use Rattle.pod_path.specs.Hierarchy.{root, is_root, is_container, is_acl, is_meta, is_auxiliary, without_end, without_last_slash, twin_of}
use Rattle.pod_path.proofs.Escaping.{front_normal, over}
use Rattle.pod_path.proofs.Names.{IsSuffix, acl, meta, suffixed, ends_is, ends_append, without_append, ends_starts, starts}
use Rattle.pod_path.proofs.Ends.{not_ending}
use Rattle.pod_path.proofs.NormalPaths.{Parts, is_path, parts_of}
use Rattle.pod_path.proofs.Suffixes.{Last, last_of, are, spelled_front, front_some, suffix_alone, suffix_lacks, Open, without_slash, Good, good_of, normal_of, free_of, slash_end, both_false, spelled_some}

pub not_equal : (a b : List ℕ) → (a ≡ b → ⊥) → bytes_eq a b ≡ false
not_equal a b differ = by_test (bytes_eq a b) refl
  where
    by_test : (x : Bool) → bytes_eq a b ≡ x → x ≡ false
    by_test true e = absurd (differ ((bytes_eq-Decides a b).0 e))
    by_test false e = refl

-- ---- the last segment of a text with this end

pub closed_last : (t y : List ℕ) → t ≡ y ++ slash ∷ [] → (l : Last t) → l.last ≡ []
closed_last t [] e l =
    let one : segments (drop 1 t) ≡ [] ++ [] ∷ [] = ap (λ (x : List ℕ). segments (drop 1 x)) e in
    (same_from_push l.init [] l.last [] (sym (are t l) ∙ one)).1
closed_last t (c ∷ cs) e l =
    let one : segments (drop 1 t) ≡ segments cs ++ [] ∷ [] = ap (λ (x : List ℕ). segments (drop 1 x)) e ∙ segments_parts cs [] in
    (same_from_push l.init (segments cs) l.last [] (sym (are t l) ∙ one)).1

named_last : (t y e : List ℕ) → IsSuffix e → IsTrue (has_path_characters t) → t ≡ y ++ e → (l : Last t) → IsTrue (is_auxiliary_name l.last)
named_last t y e s characters whole l =
    let spelled_whole : IsTrue (has_path_characters (y ++ e)) = ap has_path_characters (sym whole) ∙ characters in
    let prefix = last_of y (spelled_front y e (front_some y e (suffix_alone e s) spelled_whole) spelled_whole) in
    let one : segments (drop 1 t) ≡ prefix.init ++ (prefix.last ++ e) ∷ [] = ap (λ (x : List ℕ). segments (drop 1 x)) whole ∙ prefix.more e (suffix_lacks e s) in
    let same = (same_from_push l.init prefix.init l.last (prefix.last ++ e) (sym (are t l) ∙ one)).1 in
    ap is_auxiliary_name same ∙ (suffixed e s prefix.last).auxiliary

pub not_auxiliary : (t : List ℕ) → IsTrue (has_path_characters t) → (l : Last t) → is_auxiliary_name l.last ≡ false → is_auxiliary t ≡ false
not_auxiliary t characters l plain = both_false _ _ (not_ending t (codes ".acl") (λ y e. no (codes ".acl") y acl e)) (not_ending t (codes ".meta") (λ y e. no (codes ".meta") y meta e))
  where
    no : (end y : List ℕ) → IsSuffix end → t ≡ y ++ end → ⊥
    no end y s e = (let yes : true ≡ false = sym (named_last t y end s characters e l) ∙ plain in cc)

-- ---- twins

pub open_root : (t : List ℕ) → Open t → t ≡ root → ⊥
open_root t o e = (let empty : true ≡ false = ap is_empty (sym (closed_last t [] e o.last)) ∙ o.full in cc)

pub open_plain : (t : List ℕ) → Open t → is_container t ≡ false
open_plain t o = not_ending t (slash ∷ []) (λ y e. (let empty : true ≡ false = ap is_empty (sym (closed_last t y e o.last)) ∙ o.full in cc))

pub open_twin : (t : List ℕ) → Open t → twin_of t ≡ Some (t ++ slash ∷ [])
open_twin t o =
    let plain = not_auxiliary t o.parts.characters o.last o.plain in
    let no_slash = open_plain t o in
    ap (λ (b : Bool). cond b None (cond (is_container t) (Some (without_end 1 t)) (Some (t ++ slash ∷ [])))) (both_false _ _ (not_equal t root (open_root t o)) plain)
    ∙ ap (λ (b : Bool). cond b (Some (without_end 1 t)) (Some (t ++ slash ∷ []))) no_slash

pub longer_root : (t e : List ℕ) → 0 < length t → 0 < length e → t ++ e ≡ root → ⊥
longer_root t e some more same = (let len : length (t ++ e) ≡ 1 = ap length same in absurd (omega (arith, len, length-append t e)))

pub closed_twin : (t : List ℕ) → 0 < length t → twin_of (t ++ slash ∷ []) ≡ Some t
closed_twin t some =
    let other = not_equal (t ++ slash ∷ []) root (longer_root t (slash ∷ []) some (omega arith)) in
    let no_acl : is_acl (t ++ slash ∷ []) ≡ false = ends_starts (t ++ slash ∷ []) (codes ".acl") ∙ ap (starts (reverse (codes ".acl"))) (reverse-append t (slash ∷ [])) in
    let no_meta : is_meta (t ++ slash ∷ []) ≡ false = ends_starts (t ++ slash ∷ []) (codes ".meta") ∙ ap (starts (reverse (codes ".meta"))) (reverse-append t (slash ∷ [])) in
    ap (λ (b : Bool). cond b None (cond (is_container (t ++ slash ∷ [])) (Some (without_end 1 (t ++ slash ∷ []))) (Some ((t ++ slash ∷ []) ++ slash ∷ [])))) (both_false _ _ other (both_false _ _ no_acl no_meta))
    ∙ ap (λ (b : Bool). cond b (Some (without_end 1 (t ++ slash ∷ []))) (Some ((t ++ slash ∷ []) ++ slash ∷ []))) (ends_append t (slash ∷ []))
    ∙ ap (λ (x : List ℕ). Some x) (without_append t (slash ∷ []))

not_root : (t : List ℕ) → is_root t ≡ false → t ≡ root → ⊥
not_root t no_root e = (let yes : true ≡ false = sym ((bytes_eq-Decides t root).1 e) ∙ no_root in cc)

pub opened : (t prefix : List ℕ) → t ≡ prefix ++ slash ∷ [] → IsPath t → is_root t ≡ false → Open prefix
opened t prefix e p no_root = without_slash prefix (subst Parts e (parts_of t p)) (λ h. not_root t no_root (e ∙ h))

pub twin_back : (t x : List ℕ) → IsPath t → twin_of t ≡ Some x → twin_of x ≡ Some t
twin_back t x p e = by_tests (is_root t) (is_auxiliary t) (is_container t) refl refl refl e
  where
    by_tests : (a b c : Bool) → is_root t ≡ a → is_auxiliary t ≡ b → is_container t ≡ c
        → cond (a || b) None (cond c (Some (without_end 1 t)) (Some (t ++ slash ∷ []))) ≡ Some x → twin_of x ≡ Some t
    by_tests true b c ea eb ec h = absurd cc
    by_tests false true c ea eb ec h = absurd cc
    by_tests false false true ea eb ec h =
        let prefix = without_end 1 t in
        let same : prefix ≡ x = cc in
        let whole : t ≡ prefix ++ slash ∷ [] = ends_is t (slash ∷ []) ec in
        ap twin_of (sym same) ∙ open_twin prefix (opened t prefix whole p ea) ∙ ap (λ (y : List ℕ). Some y) (sym whole)
    by_tests false false false ea eb ec h =
        let same : t ++ slash ∷ [] ≡ x = cc in
        ap twin_of (sym same) ∙ closed_twin t (spelled_some t (parts_of t p).characters)

pub twin_open : (t : List ℕ) → ((prefix : List ℕ) → t ≡ prefix ++ slash ∷ [] → ⊥) → is_root t ≡ false → is_auxiliary t ≡ false → Some (t ++ slash ∷ []) ≡ twin_of t
twin_open t none no_root plain =
    sym (ap (λ (b : Bool). cond b None (cond (is_container t) (Some (without_end 1 t)) (Some (t ++ slash ∷ [])))) (both_false _ _ no_root plain)
    ∙ ap (λ (b : Bool). cond b (Some (without_end 1 t)) (Some (t ++ slash ∷ []))) (not_ending t (slash ∷ []) none))

-- ---- parents

up_parts : (q : List ℕ) → Parts q → (l : Last q) → Parts (up_to_last_slash q)
up_parts q p l =
    let above = l.u ++ slash ∷ [] in
    let is : up_to_last_slash q ≡ above = ap up_to_last_slash l.whole ∙ up_to_cut l.u l.last l.lacks in
    let whole : q ≡ above ++ l.last = l.whole ∙ sym (append_assoc l.u (slash ∷ []) l.last) in
    let some : 0 < length above = omega (arith, length-append l.u (slash ∷ [])) in
    let characters = spelled_front above l.last some (ap has_path_characters (sym whole) ∙ p.characters) in
    let m = last_of above characters in
    let empty : m.last ≡ [] = closed_last above l.u refl m in
    let g = good_of (segments (drop 1 q)) m.init (m.last ++ l.last) (ap (λ (x : List ℕ). segments (drop 1 x)) whole ∙ m.more l.last l.lacks) p.normal p.free in
    let good : Good m.init m.last = record { inside = g.inside; plain = ap is_dot_segment empty; unnamed = g.unnamed; unreserved = ap is_reserved_name empty } in
    let prefix : normalize_escapes l.u ≡ Some l.u = front_normal l.u l.last (ap normalize_escapes (sym l.whole) ∙ p.escapes ∙ ap (λ (x : List ℕ). Some x) l.whole) in
    subst Parts (sym is) (record {
      escapes = slash_end.joins l.u ∙ ap (λ (o : Option (List ℕ)). over o (Some (slash ∷ []))) prefix;
      characters = characters;
      normal = normal_of (segments (drop 1 above)) m.init m.last (are above m) good;
      free = free_of (segments (drop 1 above)) m.init m.last (are above m) good;
    })

pub parent_path : (t : List ℕ) → IsPath t → is_root t ≡ false → IsPath (up_to_last_slash (without_last_slash t))
parent_path t p no_root = by_test (is_container t) refl
  where
    by_test : (b : Bool) → is_container t ≡ b → IsPath (up_to_last_slash (cond b (without_end 1 t) t))
    by_test true e =
        let o = opened t (without_end 1 t) (ends_is t (slash ∷ []) e) p no_root in
        is_path (up_to_last_slash (without_end 1 t)) (up_parts (without_end 1 t) o.parts o.last)
    by_test false e = is_path (up_to_last_slash t) (up_parts t (parts_of t p) (last_of t (parts_of t p).characters))
