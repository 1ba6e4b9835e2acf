-- Paths about a path are paths.
use Rattle.std.proofs.Common.{◌≡◌, ◌≢◌, ℕ, ◌<◌, Bool, true, false, not, ◌||◌, ◌&&◌, List, [], ◌∷◌, ◌++◌, length, drop, reverse, Option, Some, None, refl, sym, ap, ◌∙◌, arith, append_assoc, inl, inr, ◌⊎◌}
use Rattle.std.specs.Prelude.{IsTrue, nat_eq, codes}
use Rattle.std.specs.List.{list_all, list_any, ends_with}
use Rattle.std.proofs.lemmas.Bool.{eqb-true}
use Rattle.std.proofs.lemmas.List.{append_cancel_right, same_from_push, take_at, reverse-append}
use Rattle.std.proofs.lemmas.List.Folds.{list_all-append}
use Rattle.iri_ref.specs.Characters.{slash, is_slash, Lacks}
use Rattle.iri_ref.specs.Segments.{segments, is_dot_segment}
use Rattle.iri_ref.proofs.Texts.{and_left, and_right, and_both, all_left, all_append}
use Rattle.iri_ref.proofs.PathWriting.{segments_parts}
use Rattle.pod_path.specs.Characters.{is_path_character}
use Rattle.pod_path.specs.Escapes.{normalize_escapes}
use Rattle.pod_path.specs.Norm.{is_empty, are_normal, are_reserved, is_auxiliary_name, is_reserved_name, has_path_characters}
use Rattle.pod_path.specs.Hierarchy.{root, is_container, is_acl, is_meta, is_auxiliary}
use Rattle.pod_path.proofs.SegmentLists.{segments_lacking}
use Rattle.pod_path.proofs.Escaping.{over, seam}
use Rattle.pod_path.proofs.Names.{IsSuffix, acl, meta, suffixed, reserved_auxiliary, ends_is, ends_append, without_append, ends_starts}
use Rattle.pod_path.proofs.Ends.{not_ending}
use Rattle.pod_path.proofs.NormalPaths.{Parts}

not_true : (b : Bool) → IsTrue (not b) → b ≡ false
not_true true h = absurd cc
not_true false h = refl

pub neither : (a b : Bool) → (a || b) ≡ false → (a ≡ false) × (b ≡ false)
neither true b e = absurd cc
neither false b e = (refl, e)

pub both_false : (a b : Bool) → a ≡ false → b ≡ false → (a || b) ≡ false
both_false true b ea eb = ea
both_false false b ea eb = eb

-- ---- the last segment

-- t is u, a slash and the last segment
pub record Last (t : List ℕ) : Type 0 where
  pub u : List ℕ
  pub last : List ℕ
  pub init : List (List ℕ)
  pub whole : t ≡ u ++ slash ∷ last
  pub lacks : Lacks is_slash last
  pub more : (e : List ℕ) → Lacks is_slash e → segments (drop 1 (t ++ e)) ≡ init ++ (last ++ e) ∷ []

append-nil : (xs : List ℕ) → xs ++ [] ≡ xs
append-nil xs = Rattle.std.proofs.lemmas.List.append-nil xs

pub are : (t : List ℕ) (l : Last t) → segments (drop 1 t) ≡ l.init ++ l.last ∷ []
are t l = ap (λ (x : List ℕ). segments (drop 1 x)) (sym (append-nil t)) ∙ l.more [] refl ∙ ap (λ (x : List ℕ). l.init ++ x ∷ []) (append-nil l.last)

-- a text without a slash, or cut at its last one
pub record LastCut (cs : List ℕ) : Type 0 where
  pub v : List ℕ
  pub last : List ℕ
  pub whole : cs ≡ v ++ slash ∷ last
  pub lacks : Lacks is_slash last

pub cut_last : (cs : List ℕ) → Lacks is_slash cs ⊎ LastCut cs
cut_last [] = inl refl
cut_last (c ∷ cs) = by_test (is_slash c) refl (cut_last cs)
  where
    by_test : (b : Bool) → is_slash c ≡ b → Lacks is_slash cs ⊎ LastCut cs → Lacks is_slash (c ∷ cs) ⊎ LastCut (c ∷ cs)
    by_test b e (inr below) = inr (record { v = c ∷ below.v; last = below.last; whole = ap (λ (x : List ℕ). c ∷ x) below.whole; lacks = below.lacks })
    by_test true e (inl h) = inr (record { v = []; last = cs; whole = ap (λ (d : ℕ). d ∷ cs) (eqb-true c slash e); lacks = h })
    by_test false e (inl h) = inl (and_both _ _ (ap not e) h)

lacks_more : (xs ys : List ℕ) → Lacks is_slash xs → Lacks is_slash ys → Lacks is_slash (xs ++ ys)
lacks_more xs ys hx hy = all_append (λ c. not (is_slash c)) xs ys hx hy

pub last_of : (t : List ℕ) → IsTrue (has_path_characters t) → Last t
last_of [] h = absurd cc
last_of (c ∷ cs) h =
    let first : c ≡ slash = eqb-true c slash (and_left _ (list_all is_path_character cs) h) in
    elim (cut_last cs) [
      | inl lacks ↦ record {
        u = [];
        last = cs;
        init = [];
        whole = ap (λ (d : ℕ). d ∷ cs) first;
        lacks = lacks;
        more = λ e he. segments_lacking (cs ++ e) (lacks_more cs e lacks he);
      }
      | inr cut ↦ record {
        u = slash ∷ cut.v;
        last = cut.last;
        init = segments cut.v;
        whole = ap (λ (d : ℕ). d ∷ cs) first ∙ ap (λ (x : List ℕ). slash ∷ x) cut.whole;
        lacks = cut.lacks;
        more = λ e he.
            ap (λ (x : List ℕ). segments (x ++ e)) cut.whole ∙ ap segments (append_assoc cut.v (slash ∷ cut.last) e)
            ∙ segments_parts cut.v (cut.last ++ e) ∙ ap (λ (x : List (List ℕ)). segments cut.v ++ x) (segments_lacking (cut.last ++ e) (lacks_more cut.last e cut.lacks he));
      }
    ]

-- ---- tests of all segments and the last

abbrev pub inner : List (List ℕ) → Bool
inner ss = list_all (λ s. not (is_empty s) && not (is_dot_segment s)) ss

shuffle : (a b x d : Bool) → (a && (b && (x && d))) ≡ (((a && b) && x) && d)
shuffle true b x d = shuffled b
  where
    shuffled : (p : Bool) → (p && (x && d)) ≡ ((p && x) && d)
    shuffled true = refl
    shuffled false = refl
shuffle false b x d = refl

normal_more : (ss : List (List ℕ)) (s : List ℕ) → are_normal (ss ++ s ∷ []) ≡ (inner ss && not (is_dot_segment s))
normal_more [] s = refl
normal_more (x ∷ []) s = shuffle (not (is_empty x)) (not (is_dot_segment x)) true (not (is_dot_segment s))
normal_more (x ∷ y ∷ ss) s =
    ap (λ (b : Bool). not (is_empty x) && (not (is_dot_segment x) && b)) (normal_more (y ∷ ss) s) ∙ shuffle (not (is_empty x)) (not (is_dot_segment x)) (inner (y ∷ ss)) (not (is_dot_segment s))

or_assoc : (a b c : Bool) → (a || (b || c)) ≡ ((a || b) || c)
or_assoc true b c = refl
or_assoc false b c = refl

reserved_more : (ss : List (List ℕ)) (s : List ℕ) → are_reserved (ss ++ s ∷ []) ≡ (list_any is_auxiliary_name ss || is_reserved_name s)
reserved_more [] s = refl
reserved_more (x ∷ []) s = or_assoc (is_auxiliary_name x) false (is_reserved_name s)
reserved_more (x ∷ y ∷ ss) s =
    ap (λ (b : Bool). is_auxiliary_name x || b) (reserved_more (y ∷ ss) s) ∙ or_assoc (is_auxiliary_name x) (list_any is_auxiliary_name (y ∷ ss)) (is_reserved_name s)

any_more : (ss : List (List ℕ)) (s : List ℕ) → list_any is_auxiliary_name (ss ++ s ∷ []) ≡ (list_any is_auxiliary_name ss || is_auxiliary_name s)
any_more [] s = or_false (is_auxiliary_name s)
  where
    or_false : (b : Bool) → (b || false) ≡ b
    or_false true = refl
    or_false false = refl
any_more (x ∷ ss) s = ap (λ (b : Bool). is_auxiliary_name x || b) (any_more ss s) ∙ or_assoc (is_auxiliary_name x) (list_any is_auxiliary_name ss) (is_auxiliary_name s)

-- what the segments of a path are like
pub record Good (ss : List (List ℕ)) (s : List ℕ) : Type 0 where
  pub inside : IsTrue (inner ss)
  pub plain : is_dot_segment s ≡ false
  pub unnamed : list_any is_auxiliary_name ss ≡ false
  pub unreserved : is_reserved_name s ≡ false

pub good_of : (all ss : List (List ℕ)) (s : List ℕ) → all ≡ ss ++ s ∷ [] → IsTrue (are_normal all) → are_reserved all ≡ false → Good ss s
good_of all ss s e normal free =
    let n : IsTrue (inner ss && not (is_dot_segment s)) = sym (ap are_normal e ∙ normal_more ss s) ∙ normal in
    let r = neither (list_any is_auxiliary_name ss) (is_reserved_name s) (sym (ap are_reserved e ∙ reserved_more ss s) ∙ free) in
    record { inside = and_left _ (not (is_dot_segment s)) n; plain = not_true (is_dot_segment s) (and_right (inner ss) _ n); unnamed = r.0; unreserved = r.1 }

pub normal_of : (all ss : List (List ℕ)) (s : List ℕ) → all ≡ ss ++ s ∷ [] → Good ss s → IsTrue (are_normal all)
normal_of all ss s e g = ap are_normal e ∙ normal_more ss s ∙ and_both (inner ss) (not (is_dot_segment s)) g.inside (ap not g.plain)

pub free_of : (all ss : List (List ℕ)) (s : List ℕ) → all ≡ ss ++ s ∷ [] → Good ss s → are_reserved all ≡ false
free_of all ss s e g = ap are_reserved e ∙ reserved_more ss s ∙ both_false _ _ g.unnamed g.unreserved

pub good_last : (t : List ℕ) → Parts t → (l : Last t) → Good l.init l.last
good_last t p l = good_of (segments (drop 1 t)) l.init l.last (are t l) p.normal p.free

-- ---- spelling

pub spelled_more : (t e : List ℕ) → IsTrue (has_path_characters t) → IsTrue (list_all is_path_character e) → IsTrue (has_path_characters (t ++ e))
spelled_more [] e h he = absurd cc
spelled_more (c ∷ cs) e h he = and_both (is_slash c) _ (and_left _ (list_all is_path_character cs) h) (all_append is_path_character cs e (and_right (is_slash c) _ h) he)

pub spelled_front : (t e : List ℕ) → 0 < length t → IsTrue (has_path_characters (t ++ e)) → IsTrue (has_path_characters t)
spelled_front [] e some h = absurd (omega arith)
spelled_front (c ∷ cs) e some h = and_both (is_slash c) _ (and_left _ (list_all is_path_character (cs ++ e)) h) (all_left is_path_character cs e (and_right (is_slash c) _ h))

pub spelled_some : (t : List ℕ) → IsTrue (has_path_characters t) → 0 < length t
spelled_some [] h = absurd cc
spelled_some (c ∷ cs) h = omega arith

-- ---- escapes across an end

pub record IsEnd (e : List ℕ) : Type 0 where
  pub joins : (t : List ℕ) → normalize_escapes (t ++ e) ≡ over (normalize_escapes t) (Some e)
  pub characters : IsTrue (list_all is_path_character e)
  pub alone : has_path_characters e ≡ false ⊎ (e ≡ root)

suffix_end : (e : List ℕ) → IsSuffix e → IsEnd e
suffix_end e acl = record { joins = λ t. seam t 46 (codes "acl") refl refl; characters = refl; alone = inl refl }
suffix_end e meta = record { joins = λ t. seam t 46 (codes "meta") refl refl; characters = refl; alone = inl refl }

pub slash_end : IsEnd (slash ∷ [])
slash_end = record { joins = λ t. seam t slash [] refl refl; characters = refl; alone = inr refl }

escapes_more : (t e : List ℕ) → IsEnd e → normalize_escapes t ≡ Some t → normalize_escapes (t ++ e) ≡ Some (t ++ e)
escapes_more t e h p = h.joins t ∙ ap (λ (o : Option (List ℕ)). over o (Some e)) p

over_some : (o : Option (List ℕ)) (t e : List ℕ) → over o (Some e) ≡ Some (t ++ e) → o ≡ Some t
over_some None t e h = absurd cc
over_some (Some x) t e h = let same : x ++ e ≡ t ++ e = cc in ap (λ (y : List ℕ). Some y) (append_cancel_right x t e same)

escapes_front : (t e : List ℕ) → IsEnd e → normalize_escapes (t ++ e) ≡ Some (t ++ e) → normalize_escapes t ≡ Some t
escapes_front t e h p = over_some (normalize_escapes t) t e (sym (h.joins t) ∙ p)

-- ---- auxiliaries

-- what an auxiliary is one of, by the last segment
name_of : (u last : List ℕ) → is_auxiliary (u ++ slash ∷ last) ≡ false → is_auxiliary_name last ≡ false
name_of u last h =
    let parts = neither (is_acl (u ++ slash ∷ last)) (is_meta (u ++ slash ∷ last)) h in
    both_false _ _ (not_ending last (codes ".acl") (λ prefix e. ends_no (codes ".acl") prefix e parts.0)) (not_ending last (codes ".meta") (λ prefix e. ends_no (codes ".meta") prefix e parts.1))
  where
    ends_no : (end prefix : List ℕ) → last ≡ prefix ++ end → ends_with nat_eq (u ++ slash ∷ last) end ≡ false → ⊥
    ends_no end prefix e no_end =
        let whole : u ++ slash ∷ last ≡ (u ++ slash ∷ prefix) ++ end = ap (λ (x : List ℕ). u ++ slash ∷ x) e ∙ sym (append_assoc u (slash ∷ prefix) end) in
        let yes : true ≡ false = sym (ends_append (u ++ slash ∷ prefix) end) ∙ ap (λ (x : List ℕ). ends_with nat_eq x end) (sym whole) ∙ no_end in
        cc

pub plain_name : (t : List ℕ) (l : Last t) → is_auxiliary t ≡ false → is_auxiliary_name l.last ≡ false
plain_name t l h = name_of l.u l.last (ap is_auxiliary (sym l.whole) ∙ h)

pub unreserved_name : (s : List ℕ) → is_auxiliary_name s ≡ false → is_reserved_name s ≡ false
unreserved_name s h = by_test (is_reserved_name s) refl
  where
    by_test : (b : Bool) → is_reserved_name s ≡ b → b ≡ false
    by_test true e = sym (reserved_auxiliary s e) ∙ h
    by_test false e = refl

-- ---- with the end of an auxiliary, and without it

pub suffix_lacks : (e : List ℕ) → IsSuffix e → Lacks is_slash e
suffix_lacks e acl = refl
suffix_lacks e meta = refl

pub with_suffix : (t e : List ℕ) → IsSuffix e → Parts t → is_auxiliary t ≡ false → Parts (t ++ e)
with_suffix t e s p plain =
    let l = last_of t p.characters in
    let g = good_last t p l in
    let x = suffixed e s l.last in
    let name : is_auxiliary_name l.last ≡ false = plain_name t l plain in
    let good : Good l.init (l.last ++ e) = record { inside = g.inside; plain = x.plain; unnamed = g.unnamed; unreserved = x.reserved ∙ both_false _ _ name g.plain } in
    let all = l.more e (suffix_lacks e s) in
    record {
      escapes = escapes_more t e (suffix_end e s) p.escapes;
      characters = spelled_more t e p.characters (suffix_end e s).characters;
      normal = normal_of (segments (drop 1 (t ++ e))) l.init (l.last ++ e) all good;
      free = free_of (segments (drop 1 (t ++ e))) l.init (l.last ++ e) all good;
    }

pub suffix_alone : (e : List ℕ) → IsSuffix e → has_path_characters e ≡ false
suffix_alone e acl = refl
suffix_alone e meta = refl

pub front_some : (t e : List ℕ) → has_path_characters e ≡ false → IsTrue (has_path_characters (t ++ e)) → 0 < length t
front_some [] e alone h = (let no_text : false ≡ true = sym alone ∙ h in absurd cc)
front_some (c ∷ cs) e alone h = omega arith

pub without_suffix : (t e : List ℕ) → IsSuffix e → Parts (t ++ e) → Parts t
without_suffix t e s p =
    let characters = spelled_front t e (front_some t e (suffix_alone e s) p.characters) p.characters in
    let l = last_of t characters in
    let g = good_of (segments (drop 1 (t ++ e))) l.init (l.last ++ e) (l.more e (suffix_lacks e s)) p.normal p.free in
    let x = suffixed e s l.last in
    let names = neither (is_auxiliary_name l.last) (is_dot_segment l.last) (sym x.reserved ∙ g.unreserved) in
    let good : Good l.init l.last = record { inside = g.inside; plain = names.1; unnamed = g.unnamed; unreserved = unreserved_name l.last names.0 } in
    record {
      escapes = escapes_front t e (suffix_end e s) p.escapes;
      characters = characters;
      normal = normal_of (segments (drop 1 t)) l.init l.last (are t l) good;
      free = free_of (segments (drop 1 t)) l.init l.last (are t l) good;
    }

pub meta_is_no_acl : (t : List ℕ) → ends_with nat_eq (t ++ codes ".meta") (codes ".acl") ≡ false
meta_is_no_acl t = ends_starts (t ++ codes ".meta") (codes ".acl") ∙ ap (Rattle.pod_path.proofs.Names.starts (reverse (codes ".acl"))) (reverse-append t (codes ".meta"))

-- ---- with a last slash, and without it

pub drop_slash : (t e : List ℕ) → 0 < length t → drop 1 (t ++ e) ≡ drop 1 t ++ e
drop_slash [] e some = absurd (omega arith)
drop_slash (c ∷ cs) e some = refl

-- the segments of a path with a slash at its end
slashed : (t : List ℕ) (l : Last t) → 0 < length t → segments (drop 1 (t ++ slash ∷ [])) ≡ (l.init ++ l.last ∷ []) ++ [] ∷ []
slashed t l some = ap segments (drop_slash t (slash ∷ []) some) ∙ segments_parts (drop 1 t) [] ∙ ap (λ (x : List (List ℕ)). x ++ [] ∷ []) (are t l)

inner_more : (ss : List (List ℕ)) (s : List ℕ) → inner (ss ++ s ∷ []) ≡ (inner ss && ((not (is_empty s) && not (is_dot_segment s)) && true))
inner_more ss s = list_all-append (λ x. not (is_empty x) && not (is_dot_segment x)) ss (s ∷ [])

and_true : (b : Bool) → IsTrue b → IsTrue (b && true)
and_true b h = and_both b true h refl

empty_is : (s : List ℕ) → is_empty s ≡ true → s ≡ []
empty_is [] e = refl
empty_is (c ∷ cs) e = absurd cc

pub full_last : (t : List ℕ) (l : Last t) → is_container t ≡ false → is_empty l.last ≡ false
full_last t l no_slash = by_test (is_empty l.last) refl
  where
    by_test : (b : Bool) → is_empty l.last ≡ b → b ≡ false
    by_test true e =
        let ended : IsTrue (is_container (l.u ++ slash ∷ [])) = ends_append l.u (slash ∷ []) in
        let same : t ≡ l.u ++ slash ∷ [] = l.whole ∙ ap (λ (x : List ℕ). l.u ++ slash ∷ x) (empty_is l.last e) in
        sym (ap is_container same ∙ ended) ∙ no_slash
    by_test false e = refl

pub with_slash : (t : List ℕ) → Parts t → is_container t ≡ false → is_auxiliary t ≡ false → Parts (t ++ slash ∷ [])
with_slash t p no_slash plain =
    let l = last_of t p.characters in
    let g = good_last t p l in
    let full = full_last t l no_slash in
    let name = plain_name t l plain in
    let good : Good (l.init ++ l.last ∷ []) [] = record {
      inside = inner_more l.init l.last ∙ and_both _ _ g.inside (and_true _ (and_both _ _ (ap not full) (ap not g.plain)));
      plain = refl;
      unnamed = any_more l.init l.last ∙ both_false _ _ g.unnamed name;
      unreserved = refl;
    } in
    let all = slashed t l (spelled_some t p.characters) in
    record {
      escapes = escapes_more t (slash ∷ []) slash_end p.escapes;
      characters = spelled_more t (slash ∷ []) p.characters refl;
      normal = normal_of (segments (drop 1 (t ++ slash ∷ []))) (l.init ++ l.last ∷ []) [] all good;
      free = free_of (segments (drop 1 (t ++ slash ∷ []))) (l.init ++ l.last ∷ []) [] all good;
    }

-- a container that isn't the root, without its last slash
pub record Open (t : List ℕ) : Type 0 where
  pub parts : Parts t
  pub last : Last t
  pub full : is_empty last.last ≡ false
  pub plain : is_auxiliary_name last.last ≡ false

pub without_slash : (t : List ℕ) → Parts (t ++ slash ∷ []) → (t ++ slash ∷ [] ≢ root) → Open t
without_slash t p other =
    let some : 0 < length t = front_of t other in
    let characters = spelled_front t (slash ∷ []) some p.characters in
    let l = last_of t characters in
    let g = good_of (segments (drop 1 (t ++ slash ∷ []))) (l.init ++ l.last ∷ []) [] (slashed t l some) p.normal p.free in
    let inside : IsTrue (inner l.init && ((not (is_empty l.last) && not (is_dot_segment l.last)) && true)) = sym (inner_more l.init l.last) ∙ g.inside in
    let one : IsTrue (not (is_empty l.last) && not (is_dot_segment l.last)) = and_left _ true (and_right (inner l.init) _ inside) in
    let names = neither (list_any is_auxiliary_name l.init) (is_auxiliary_name l.last) (sym (any_more l.init l.last) ∙ g.unnamed) in
    let good : Good l.init l.last = record {
      inside = and_left _ ((not (is_empty l.last) && not (is_dot_segment l.last)) && true) inside;
      plain = not_true (is_dot_segment l.last) (and_right (not (is_empty l.last)) _ one);
      unnamed = names.0;
      unreserved = unreserved_name l.last names.1;
    } in
    record {
      parts = record {
        escapes = escapes_front t (slash ∷ []) slash_end p.escapes;
        characters = characters;
        normal = normal_of (segments (drop 1 t)) l.init l.last (are t l) good;
        free = free_of (segments (drop 1 t)) l.init l.last (are t l) good;
      };
      last = l;
      full = not_true (is_empty l.last) (and_left _ (not (is_dot_segment l.last)) one);
      plain = names.1;
    }
  where
    front_of : (x : List ℕ) → (x ++ slash ∷ [] ≢ root) → 0 < length x
    front_of [] h = absurd (h refl)
    front_of (c ∷ cs) h = omega arith
