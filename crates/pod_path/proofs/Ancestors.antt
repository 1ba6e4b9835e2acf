-- Ancestors, members and URIs.
use Rattle.std.proofs.Common.{◌≡◌, ◌≢◌, ℕ, zero, suc, ◌+◌, ◌<◌, ◌≤◌, Bool, true, false, not, cond, ◌||◌, eqb, List, [], ◌∷◌, ◌++◌, length, take, drop, reverse, Option, Some, None, Result, Ok, Err, refl, sym, ap, subst, ◌∙◌, arith, append_assoc, length-append, inl, inr}
use Rattle.std.specs.Prelude.{IsTrue, IfOk, IfNone, count_by}
use Rattle.std.specs.List.{list_all, before_first, prefix_len, range_with_len}
use Rattle.std.proofs.lemmas.Bool.{eqb-true}
use Rattle.std.proofs.lemmas.Bool.Decides.{eqb_tells}
use Rattle.std.proofs.Math.Dec.{eqb-suc-zero}
use Rattle.std.proofs.lemmas.List.{append-nil, reverse-append, append_cancel_left, same_from_push, take_at}
use Rattle.iri_ref.specs.Characters.{slash, colon, hash, is_slash, is_hash, is_allowed, AllAllowed, Lacks}
use Rattle.iri_ref.specs.Components.{IsAbsolute, fragment_text}
use Rattle.iri_ref.specs.Resolution.{up_to_last_slash}
use Rattle.iri_ref.specs.Segments.{segments, is_dot_segment}
use Rattle.iri_ref.proofs.Schemes.{other_kind}
use Rattle.iri_ref.proofs.Texts.{and_left, and_right, all_right, all_append, all_weaker}
use Rattle.iri_ref.proofs.Paths.{up_to_cut}
use Rattle.pod_path.specs.Characters.{is_path_character}
use Rattle.iri_ref.specs.Characters.{is_question_mark}
use Rattle.pod_path.specs.Escapes.{normalize_escapes, prepend}
use Rattle.pod_path.specs.Norm.{is_empty, is_auxiliary_name, is_reserved_name, has_path_characters, IsPath, path_text_of, norm}
use Rattle.pod_path.specs.Hierarchy.{root, is_root, is_container, is_auxiliary, without_end, without_last_slash, parent_of, twin_of, IsParentChain, IsUnder, IsInside, member_text, uri_of, IsUriOf, IsName, IsPlainName}
use Rattle.pod_path.proofs.Escaping.{over, seam, plain, front_normal, still_lacks, still_some}
use Rattle.pod_path.proofs.Names.{ends_is, ends_append, ends_starts, starts}
use Rattle.pod_path.proofs.Ends.{not_ending, without_last_slash_some}
use Rattle.pod_path.proofs.NormalPaths.{Parts, is_path, parts_of, norm_parts, limited, no_mark, path_lacks, lacks_before, read_unescaped, character_small}
use Rattle.pod_path.proofs.Suffixes.{last_of, are, spelled_front, spelled_some, spelled_more, full_last, cut_last, Good, good_last, normal_of, free_of, unreserved_name, with_slash}
use Rattle.pod_path.proofs.Twins.{not_equal, longer_root, closed_last, not_auxiliary, opened, open_root, open_plain}
use Rattle.pod_path.proofs.LimitLaws.{depth_slashes, slashes_more, smaller_normal}

-- ---- a container and what follows it

starts_front : (xs ys : List ℕ) → 0 < length xs → starts (slash ∷ []) (xs ++ ys) ≡ starts (slash ∷ []) xs
starts_front [] ys some = absurd (omega arith)
starts_front (x ∷ xs) ys some = refl

length_reverse : (xs : List ℕ) → length (reverse xs) ≡ length xs
length_reverse xs = Rattle.std.proofs.lemmas.List.length-reverse xs

container_more : (q rest : List ℕ) → 0 < length rest → is_container (q ++ rest) ≡ is_container rest
container_more q rest some =
    ends_starts (q ++ rest) (slash ∷ []) ∙ ap (starts (slash ∷ [])) (reverse-append q rest)
    ∙ starts_front (reverse rest) (reverse q) (omega (arith, length_reverse rest)) ∙ sym (ends_starts rest (slash ∷ []))

parent_is : (p t : List ℕ) → (p ≡ root → ⊥) → without_last_slash p ≡ t → parent_of p ≡ Some (up_to_last_slash t)
parent_is p t other e = ap (λ (b : Bool). cond b None (Some (up_to_last_slash (without_last_slash p)))) (not_equal p root other) ∙ ap (λ (x : List ℕ). Some (up_to_last_slash x)) e

-- what follows a container, without a slash at its end
record Inside (q rest : List ℕ) : Type 0 where
  x : List ℕ
  trims : without_last_slash (q ++ rest) ≡ q ++ x
  short : (v : List ℕ) (l : List ℕ) → x ≡ v ++ slash ∷ l → length (v ++ slash ∷ []) < length rest

inside : (q rest : List ℕ) → 0 < length rest → Inside q rest
inside q rest some = by_test (is_container rest) refl
  where
    by_test : (b : Bool) → is_container rest ≡ b → Inside q rest
    by_test true e =
        let x = without_end 1 rest in
        let whole : rest ≡ x ++ slash ∷ [] = ends_is rest (slash ∷ []) e in
        let same : q ++ rest ≡ (q ++ x) ++ slash ∷ [] = ap (λ (y : List ℕ). q ++ y) whole ∙ sym (append_assoc q x (slash ∷ [])) in
        record {
          x = x;
          trims = ap without_last_slash same ∙ without_last_slash_some (q ++ x);
          short = λ v l h. omega (arith, ap length whole, ap length h, length-append x (slash ∷ []), length-append v (slash ∷ l), length-append v (slash ∷ []));
        }
    by_test false e = record {
      x = rest;
      trims = ap (λ (b : Bool). cond b (without_end 1 (q ++ rest)) (q ++ rest)) (container_more q rest some ∙ e);
      short = λ v l h. full v l h;
    }
      where
        full : (v l : List ℕ) → rest ≡ v ++ slash ∷ l → length (v ++ slash ∷ []) < length rest
        full v [] h = (let yes : true ≡ false = sym (ends_append v (slash ∷ [])) ∙ ap is_container (sym h) ∙ e in absurd cc)
        full v (c ∷ l) h = omega (arith, ap length h, length-append v (slash ∷ c ∷ l), length-append v (slash ∷ []))

-- ---- every proper prefix that is a container is an ancestor

leads : (n : ℕ) (p q rest : List ℕ) → length rest ≤ n → p ≡ q ++ rest → IsTrue (is_container q) → 0 < length rest → IsUnder p q
leads zero p q rest short e closed some = absurd (omega arith)
leads (suc n) p q rest short e closed some =
    let y = without_end 1 q in
    let end : q ≡ y ++ slash ∷ [] = ends_is q (slash ∷ []) closed in
    let q_some : 0 < length q = omega (arith, ap length end, length-append y (slash ∷ [])) in
    let i = inside q rest some in
    let other : p ≡ root → ⊥ = λ h. longer_root q rest q_some some (sym e ∙ h) in
    let trims : without_last_slash p ≡ q ++ i.x = ap without_last_slash e ∙ i.trims in
    elim (cut_last i.x) [
      | inl lacks ↦ (
          let whole : q ++ i.x ≡ y ++ slash ∷ i.x = ap (λ (t : List ℕ). t ++ i.x) end ∙ append_assoc y (slash ∷ []) i.x in
          ([], parent_is p (q ++ i.x) other trims ∙ ap (λ (t : List ℕ). Some t) (ap up_to_last_slash whole ∙ up_to_cut y i.x lacks ∙ sym end)))
      | inr cut ↦ (
          let whole : q ++ i.x ≡ (q ++ cut.v) ++ slash ∷ cut.last = ap (λ (t : List ℕ). q ++ t) cut.whole ∙ sym (append_assoc q cut.v (slash ∷ cut.last)) in
          let above : List ℕ = q ++ (cut.v ++ slash ∷ []) in
          let up : parent_of p ≡ Some above = parent_is p (q ++ i.x) other trims ∙ ap (λ (t : List ℕ). Some t) (ap up_to_last_slash whole ∙ up_to_cut (q ++ cut.v) cut.last cut.lacks ∙ append_assoc q cut.v (slash ∷ [])) in
          let shorter : length (cut.v ++ slash ∷ []) ≤ n = omega (arith, i.short cut.v cut.last cut.whole) in
          let further = leads n above q (cut.v ++ slash ∷ []) shorter refl closed (omega (arith, length-append cut.v (slash ∷ []))) in
          (above ∷ further.0, (up, further.1)))
    ]

pub under_front : (p q rest : List ℕ) → p ≡ q ++ rest → IsTrue (is_container q) → 0 < length rest → IsUnder p q
under_front p q rest e closed some = leads (length rest) p q rest (omega arith) e closed some

-- ---- an ancestor is a proper prefix, and a container

pub record IsFront (q p : List ℕ) : Type 0 where
  pub rest : List ℕ
  pub whole : p ≡ q ++ rest
  pub some : 0 < length rest
  pub closed : IsTrue (is_container q)
  pub characters : IsTrue (has_path_characters q)

full_length : (xs : List ℕ) → is_empty xs ≡ false → 0 < length xs
full_length [] e = absurd cc
full_length (x ∷ xs) e = omega arith

front_of : (p q e : List ℕ) → p ≡ q ++ e → (u l : List ℕ) → q ≡ u ++ slash ∷ l → Lacks is_slash l → 0 < length (l ++ e) → IsTrue (has_path_characters p) → IsFront (up_to_last_slash q) p
front_of p q e whole u l cut lacks some characters =
    let above = u ++ slash ∷ [] in
    let up : up_to_last_slash q ≡ above = ap up_to_last_slash cut ∙ up_to_cut u l lacks in
    let all : p ≡ above ++ (l ++ e) = whole ∙ ap (λ (t : List ℕ). t ++ e) (cut ∙ sym (append_assoc u (slash ∷ []) l)) ∙ append_assoc above l e in
    subst (λ (t : List ℕ). IsFront t p) (sym up) (record {
      rest = l ++ e;
      whole = all;
      some = some;
      closed = ends_append u (slash ∷ []);
      characters = spelled_front above (l ++ e) (omega (arith, length-append u (slash ∷ []))) (ap has_path_characters (sym all) ∙ characters);
    })

pub parent_front : (p q : List ℕ) → IsTrue (has_path_characters p) → parent_of p ≡ Some q → IsFront q p
parent_front p q characters e = by_tests (is_root p) (is_container p) refl refl e
  where
    some_is : (x : List ℕ) → Some x ≡ Some q → x ≡ q
    some_is x h = cc

    front_some : (f : List ℕ) → p ≡ f ++ slash ∷ [] → is_root p ≡ false → 0 < length f
    front_some [] h other = (let yes : true ≡ false = ap is_root (sym h) ∙ other in absurd cc)
    front_some (c ∷ cs) h other = omega arith

    by_tests : (a b : Bool) → is_root p ≡ a → is_container p ≡ b → cond a None (Some (up_to_last_slash (cond b (without_end 1 p) p))) ≡ Some q → IsFront q p
    by_tests true b ea eb h = absurd cc
    by_tests false true ea eb h =
        let f = without_end 1 p in
        let whole : p ≡ f ++ slash ∷ [] = ends_is p (slash ∷ []) eb in
        let l = last_of f (spelled_front f (slash ∷ []) (front_some f whole ea) (ap has_path_characters (sym whole) ∙ characters)) in
        subst (λ (t : List ℕ). IsFront t p) (some_is (up_to_last_slash f) h)
        (front_of p f (slash ∷ []) whole l.u l.last l.whole l.lacks (omega (arith, length-append l.last (slash ∷ []))) characters)
    by_tests false false ea eb h =
        let l = last_of p characters in
        let full = full_length l.last (full_last p l eb) in
        subst (λ (t : List ℕ). IsFront t p) (some_is (up_to_last_slash p) h)
        (front_of p p [] (sym (append-nil p)) l.u l.last l.whole l.lacks (omega (arith, length-append l.last [])) characters)

pub front_under : (p q : List ℕ) (chain : List (List ℕ)) → IsTrue (has_path_characters p) → IsParentChain p chain q → IsFront q p
front_under p q [] characters e = parent_front p q characters e
front_under p q (above ∷ chain) characters h =
    let first = parent_front p above characters h.0 in
    let below = front_under above q chain first.characters h.1 in
    record {
      rest = below.rest ++ first.rest;
      whole = first.whole ∙ ap (λ (t : List ℕ). t ++ first.rest) below.whole ∙ append_assoc q below.rest first.rest;
      some = omega (arith, below.some, length-append below.rest first.rest);
      closed = below.closed;
      characters = below.characters;
    }

pub spelled_head : (t : List ℕ) → IsTrue (has_path_characters t) → t ≡ slash ∷ drop 1 t
spelled_head [] h = absurd cc
spelled_head (c ∷ cs) h = ap (λ (d : ℕ). d ∷ cs) (eqb-true c slash (and_left _ (list_all is_path_character cs) h))

-- an ancestor chain ends at the root
pub under_root : (p : List ℕ) → IsPath p → (p ≢ root) → IsUnder p root
under_root p h other =
    let head : p ≡ root ++ drop 1 p = spelled_head p (parts_of p h).characters in
    under_front p root (drop 1 p) head refl (some (drop 1 p) head)
  where
    some : (rest : List ℕ) → p ≡ root ++ rest → 0 < length rest
    some [] e = absurd (other e)
    some (c ∷ cs) e = omega arith

-- ---- members

lacks_open : (n : List ℕ) → Lacks is_slash n → is_container n ≡ false
lacks_open n lacks = not_ending n (slash ∷ []) (λ prefix e. (let no_slash : Lacks is_slash (slash ∷ []) = all_right (λ c. not (is_slash c)) prefix (slash ∷ []) (subst (λ (t : List ℕ). Lacks is_slash t) e lacks) in cc))

-- the name as it is read
record ReadName (name n : List ℕ) : Type 0 where
  lacks : Lacks is_slash n
  some : 0 < length n

read_name : (name n : List ℕ) → IsName name → normalize_escapes name ≡ Some n → ReadName name n
read_name name n h e = record { lacks = lacks_of (normalize_escapes name) e (still_lacks name h.slashes); some = some_of (normalize_escapes name) e (still_some name h.some) }
  where
    lacks_of : (o : Option (List ℕ)) → o ≡ Some n → Rattle.pod_path.proofs.Escaping.LacksSlash o → Lacks is_slash n
    lacks_of None q k = absurd cc
    lacks_of (Some x) q k = (let same : x ≡ n = cc in subst (λ (t : List ℕ). Lacks is_slash t) same k)

    some_of : (o : Option (List ℕ)) → o ≡ Some n → Rattle.pod_path.proofs.Escaping.HasSome o → 0 < length n
    some_of None q k = absurd cc
    some_of (Some x) q k = (let same : x ≡ n = cc in subst (λ (t : List ℕ). 0 < length t) same k)

member_parent : (self n e : List ℕ) → IsTrue (is_container self) → Lacks is_slash n → 0 < length n → without_last_slash (self ++ (n ++ e)) ≡ self ++ n → parent_of (self ++ (n ++ e)) ≡ Some self
member_parent self n e closed lacks some trims =
    let y = without_end 1 self in
    let end : self ≡ y ++ slash ∷ [] = ends_is self (slash ∷ []) closed in
    let self_some : 0 < length self = omega (arith, ap length end, length-append y (slash ∷ [])) in
    let whole : self ++ n ≡ y ++ slash ∷ n = ap (λ (t : List ℕ). t ++ n) end ∙ append_assoc y (slash ∷ []) n in
    parent_is (self ++ (n ++ e)) (self ++ n) (longer_root self (n ++ e) self_some (omega (arith, length-append n e))) trims
    ∙ ap (λ (t : List ℕ). Some t) (ap up_to_last_slash whole ∙ up_to_cut y n lacks ∙ sym end)

trims_open : (self n : List ℕ) → Lacks is_slash n → 0 < length n → without_last_slash (self ++ (n ++ [])) ≡ self ++ n
trims_open self n lacks some =
    ap (λ (t : List ℕ). without_last_slash (self ++ t)) (append-nil n)
    ∙ ap (λ (b : Bool). cond b (without_end 1 (self ++ n)) (self ++ n)) (container_more self n some ∙ lacks_open n lacks)

trims_closed : (self n : List ℕ) → without_last_slash (self ++ (n ++ slash ∷ [])) ≡ self ++ n
trims_closed self n = ap without_last_slash (sym (append_assoc self n (slash ∷ []))) ∙ without_last_slash_some (self ++ n)

over_parts : (o p : Option (List ℕ)) (path : List ℕ) → over o p ≡ Some path → (x : List ℕ) × (y : List ℕ) × (o ≡ Some x) × (p ≡ Some y) × (path ≡ x ++ y)
over_parts None p path h = absurd cc
over_parts (Some x) None path h = absurd cc
over_parts (Some x) (Some y) path h = (let same : path ≡ x ++ y = cc in (x, y, refl, refl, same))

-- the escapes of a container and of what follows it are apart
behind_container : (self rest path : List ℕ) → IsPath self → IsTrue (is_container self) → normalize_escapes (self ++ rest) ≡ Some path → (n : List ℕ) × (normalize_escapes rest ≡ Some n) × (path ≡ self ++ n)
behind_container self rest path h closed e =
    let y = without_end 1 self in
    let end : self ≡ y ++ slash ∷ [] = ends_is self (slash ∷ []) closed in
    let normal : normalize_escapes y ≡ Some y = front_normal y [] (ap normalize_escapes (sym end) ∙ (parts_of self h).escapes ∙ ap (λ (t : List ℕ). Some t) end) in
    let whole : self ++ rest ≡ y ++ slash ∷ rest = ap (λ (t : List ℕ). t ++ rest) end ∙ append_assoc y (slash ∷ []) rest in
    let parts = over_parts (normalize_escapes y) (normalize_escapes (slash ∷ rest)) path (sym (seam y slash rest refl refl) ∙ ap normalize_escapes (sym whole) ∙ e) in
    let tail = over_parts (Some (slash ∷ [])) (normalize_escapes rest) parts.1 (sym (plain slash rest refl) ∙ parts.3) in
    let y_same : parts.0 ≡ y = (let both : Some parts.0 ≡ Some y = sym parts.2 ∙ normal in cc) in
    let slash_same : tail.0 ≡ slash ∷ [] = (let both : Some tail.0 ≡ Some (slash ∷ []) = sym tail.2 in cc) in
    (tail.1, tail.3, parts.4 ∙ ap (λ (t : List ℕ). t ++ parts.1) y_same ∙ ap (λ (t : List ℕ). y ++ t) (tail.4 ∙ ap (λ (t : List ℕ). t ++ tail.1) slash_same) ∙ sym (append_assoc y (slash ∷ []) tail.1) ∙ ap (λ (t : List ℕ). t ++ tail.1) (sym end))

no_query : (self name : List ℕ) (container : Bool) → IsPath self → IsName name → before_first is_question_mark (member_text self name container) ≡ member_text self name container
no_query self name container h n = lacks_before is_question_mark (member_text self name container)
    (all_append (λ c. not (is_question_mark c)) (self ++ name) (cond container (slash ∷ []) [])
    (all_append (λ c. not (is_question_mark c)) self name (path_lacks is_question_mark refl no_mark self (parts_of self h).characters) n.queries) (by_kind container))
  where
    by_kind : (b : Bool) → Lacks is_question_mark (cond b (slash ∷ []) [])
    by_kind true = refl
    by_kind false = refl

-- what is read of a container's text, a name and perhaps a slash
pub record ChildText (self : List ℕ) (container : Bool) (path : List ℕ) : Type 0 where
  pub name : List ℕ
  pub lacks : Lacks is_slash name
  pub some : 0 < length name
  pub whole : path ≡ self ++ (name ++ cond container (slash ∷ []) [])

pub child_text : (self name : List ℕ) (container : Bool) (path : List ℕ) → IsPath self → IsTrue (is_container self) → IsName name → norm (member_text self name container) ≡ Ok path → ChildText self container path
child_text self name container path h closed n e =
    let read : normalize_escapes (member_text self name container) ≡ Some path = read_unescaped (member_text self name container) path
    (ap path_text_of (sym (no_query self name container h n)) ∙ (limited (path_text_of (before_first is_question_mark (member_text self name container))) path e).0) in
    by_kind container (ap normalize_escapes (sym (append_assoc self name (cond container (slash ∷ []) []))) ∙ read)
  where
    by_kind : (b : Bool) → normalize_escapes (self ++ (name ++ cond b (slash ∷ []) [])) ≡ Some path → ChildText self b path
    by_kind true r =
        let found = behind_container self (name ++ slash ∷ []) path h closed r in
        let parts = over_parts (normalize_escapes name) (Some (slash ∷ [])) found.0 (sym (seam name slash [] refl refl) ∙ found.1) in
        let end : parts.1 ≡ slash ∷ [] = (let both : Some parts.1 ≡ Some (slash ∷ []) = sym parts.3 in cc) in
        let name_read = read_name name parts.0 n parts.2 in
        record { name = parts.0; lacks = name_read.lacks; some = name_read.some; whole = found.2 ∙ ap (λ (t : List ℕ). self ++ t) (parts.4 ∙ ap (λ (t : List ℕ). parts.0 ++ t) end) }
    by_kind false r =
        let found = behind_container self (name ++ []) path h closed r in
        let name_is : normalize_escapes name ≡ Some found.0 = ap normalize_escapes (sym (append-nil name)) ∙ found.1 in
        let name_read = read_name name found.0 n name_is in
        record { name = found.0; lacks = name_read.lacks; some = name_read.some; whole = found.2 ∙ ap (λ (t : List ℕ). self ++ t) (sym (append-nil found.0)) }

pub child_parent : (self : List ℕ) (container : Bool) (path : List ℕ) → IsTrue (is_container self) → ChildText self container path → parent_of path ≡ Some self
child_parent self true path closed t =
    ap parent_of t.whole ∙ member_parent self t.name (slash ∷ []) closed t.lacks t.some (trims_closed self t.name)
child_parent self false path closed t =
    ap parent_of t.whole ∙ member_parent self t.name [] closed t.lacks t.some (trims_open self t.name t.lacks t.some)

pub child_container : (self : List ℕ) (container : Bool) (path : List ℕ) → ChildText self container path → is_container path ≡ container
child_container self true path t =
    ap is_container (t.whole ∙ sym (append_assoc self t.name (slash ∷ []))) ∙ ends_append (self ++ t.name) (slash ∷ [])
child_container self false path t =
    ap is_container (t.whole ∙ ap (λ (x : List ℕ). self ++ x) (append-nil t.name)) ∙ container_more self t.name t.some ∙ lacks_open t.name t.lacks

-- ---- a name that needs no change

plain_file : (self name : List ℕ) → Parts self → IsTrue (is_container self) → IsName name → IsTrue (list_all is_path_character name) → normalize_escapes name ≡ Some name → is_dot_segment name ≡ false → is_reserved_name name ≡ false
    → Parts (self ++ name)
plain_file self name p closed n characters escapes dots free =
    let y = without_end 1 self in
    let end : self ≡ y ++ slash ∷ [] = ends_is self (slash ∷ []) closed in
    let normal : normalize_escapes y ≡ Some y = front_normal y [] (ap normalize_escapes (sym end) ∙ p.escapes ∙ ap (λ (t : List ℕ). Some t) end) in
    let whole : self ++ name ≡ y ++ slash ∷ name = ap (λ (t : List ℕ). t ++ name) end ∙ append_assoc y (slash ∷ []) name in
    let l = last_of self p.characters in
    let empty : l.last ≡ [] = closed_last self y end l in
    let g = good_last self p l in
    let all : segments (drop 1 (self ++ name)) ≡ l.init ++ name ∷ [] = l.more name n.slashes ∙ ap (λ (t : List ℕ). l.init ++ (t ++ name) ∷ []) empty in
    let good : Good l.init name = record { inside = g.inside; plain = dots; unnamed = g.unnamed; unreserved = free } in
    record {
      escapes =
          ap normalize_escapes whole ∙ seam y slash name refl refl ∙ ap (λ (o : Option (List ℕ)). over o (normalize_escapes (slash ∷ name))) normal
          ∙ ap (λ (o : Option (List ℕ)). over (Some y) o) (plain slash name refl ∙ ap (prepend (slash ∷ [])) escapes) ∙ ap (λ (t : List ℕ). Some t) (sym whole);
      characters = spelled_more self name p.characters characters;
      normal = normal_of (segments (drop 1 (self ++ name))) l.init name all good;
      free = free_of (segments (drop 1 (self ++ name))) l.init name all good;
    }

pub plain_member : (self name : List ℕ) (container : Bool) → IsPath self → IsTrue (is_container self) → IsPlainName name container → IsPath (member_text self name container)
plain_member self name container h closed n = by_kind container (parts_of self h) n.free
  where
    by_kind : (b : Bool) → Parts self → cond b (is_auxiliary_name name) (is_reserved_name name) ≡ false → IsPath (self ++ name ++ cond b (slash ∷ []) [])
    by_kind false p free =
        subst IsPath (sym (append-nil (self ++ name))) (is_path (self ++ name) (plain_file self name p closed n.segment n.characters n.escapes n.dots free))
    by_kind true p free =
        let file = plain_file self name p closed n.segment n.characters n.escapes n.dots (unreserved_name name free) in
        let no_slash : is_container (self ++ name) ≡ false = container_more self name n.segment.some ∙ lacks_open name n.segment.slashes in
        let l = last_of (self ++ name) file.characters in
        let y = without_end 1 self in
        let end : self ≡ y ++ slash ∷ [] = ends_is self (slash ∷ []) closed in
        let m = last_of self p.characters in
        let empty : m.last ≡ [] = closed_last self y end m in
        let all : segments (drop 1 (self ++ name)) ≡ m.init ++ name ∷ [] = m.more name n.segment.slashes ∙ ap (λ (t : List ℕ). m.init ++ (t ++ name) ∷ []) empty in
        let same : l.last ≡ name = (same_from_push l.init m.init l.last name (sym (are (self ++ name) l) ∙ all)).1 in
        is_path ((self ++ name) ++ slash ∷ []) (with_slash (self ++ name) file no_slash (not_auxiliary (self ++ name) file.characters l (ap is_auxiliary_name same ∙ free)))

-- ---- URIs

pub uri_some : (base uri rest path : List ℕ) → before_first is_hash uri ≡ base ++ rest → path ≡ slash ∷ rest → norm (slash ∷ rest) ≡ Ok path → IsUriOf base uri path
uri_some base uri rest path whole e normal = record { normal = ap norm e ∙ normal; whole = whole ∙ ap (λ (t : List ℕ). base ++ drop 1 t) (sym e) }

pub uri_none : (base uri rest : List ℕ) → before_first is_hash uri ≡ base ++ rest → (norm (slash ∷ rest) ≡ Ok (slash ∷ rest) → ⊥) → (path : List ℕ) → IsUriOf base uri path → ⊥
uri_none base uri rest whole none path h =
    let same : rest ≡ drop 1 path = append_cancel_left base rest (drop 1 path) (sym whole ∙ h.whole) in
    let head : path ≡ slash ∷ rest = spelled_head path (norm_parts path path h.normal).characters ∙ ap (λ (t : List ℕ). slash ∷ t) (sym same) in
    none (subst (λ (t : List ℕ). norm t ≡ Ok t) head h.normal)

pub one_path : (base uri p q : List ℕ) → IsUriOf base uri p → IsUriOf base uri q → p ≡ q
one_path base uri p q hp hq =
    let same : drop 1 p ≡ drop 1 q = append_cancel_left base (drop 1 p) (drop 1 q) (sym hp.whole ∙ hq.whole) in
    spelled_head p (norm_parts p p hp.normal).characters ∙ ap (λ (t : List ℕ). slash ∷ t) same ∙ sym (spelled_head q (norm_parts q q hq.normal).characters)

stop_len : (xs rest : List ℕ) → Lacks is_hash xs → prefix_len (λ c. not (is_hash c)) (xs ++ hash ∷ rest) ≡ length xs
stop_len [] rest h = refl
stop_len (x ∷ xs) rest h =
    let below : prefix_len (λ c. not (is_hash c)) (xs ++ hash ∷ rest) ≡ length xs = stop_len xs rest (and_right (not (is_hash x)) _ h) in
    let one : 1 + prefix_len (λ c. not (is_hash c)) (xs ++ hash ∷ rest) ≡ length (x ∷ xs) = omega arith in
    ap (λ (b : Bool). cond b (1 + prefix_len (λ c. not (is_hash c)) (xs ++ hash ∷ rest)) 0) (and_left _ (list_all (λ c. not (is_hash c)) xs) h) ∙ one

-- a test that holds of each number below a bound, one by one
tested : (test : ℕ → Bool) (n a : ℕ) → IsTrue (list_all test (range_with_len a n)) → (c : ℕ) → a ≤ c → c < a + n → IsTrue (test c)
tested test zero a h c le lt = absurd (omega arith)
tested test (suc n) a h c le lt =
    elim (eqb_tells c a) [
      | inl w ↦ subst (λ (d : ℕ). IsTrue (test d)) (sym w.1) (and_left _ (list_all test (range_with_len (a + 1) n)) h)
      | inr w ↦ tested test n (a + 1) (and_right (test a) _ h) c (let ne : c ≢ a = w.1 in omega arith) (omega arith)
    ]

implied : (a b : Bool) → IsTrue (not a || b) → IsTrue a → IsTrue b
implied true b h k = h
implied false b h k = absurd cc

character_allowed : (c : ℕ) → IsTrue (is_path_character c) → IsTrue (is_allowed c)
character_allowed c h = implied (is_path_character c) (is_allowed c) (tested (λ d. not (is_path_character d) || is_allowed d) 128 0 refl c (omega arith) (omega (arith, character_small c h))) h

pub rest_allowed : (t : List ℕ) → IsTrue (has_path_characters t) → AllAllowed (drop 1 t)
rest_allowed [] h = absurd cc
rest_allowed (c ∷ cs) h = all_weaker is_path_character is_allowed character_allowed cs (and_right (is_slash c) _ h)

pub uri_absolute : (base path : List ℕ) → IsAbsolute base → IsPath path → IsAbsolute (base ++ drop 1 path)
uri_absolute base path h p = record {
  scheme = (
    h.scheme.0,
    h.scheme.1 ++ drop 1 path,
    record {
      is_one = h.scheme.2.is_one;
      whole = ap (λ (t : List ℕ). t ++ drop 1 path) h.scheme.2.whole ∙ append_assoc h.scheme.0 (colon ∷ h.scheme.1) (drop 1 path);
    },
  );
  allowed = all_append is_allowed base (drop 1 path) h.allowed (rest_allowed path (parts_of path p).characters);
}

-- the URI of a normal path is read as that path, with a fragment or without
pub uri_back : (base path : List ℕ) (fragment : Option (List ℕ)) → Lacks is_hash base → norm path ≡ Ok path → IsUriOf base (uri_of base path ++ fragment_text fragment) path
uri_back base path fragment lacks normal =
    let characters = (norm_parts path path normal).characters in
    let uri_lacks : Lacks is_hash (uri_of base path) = all_append (λ c. not (is_hash c)) base (drop 1 path) lacks (rest_lacks path characters) in
    record { normal = normal; whole = by_fragment fragment uri_lacks }
  where
    rest_lacks : (t : List ℕ) → IsTrue (has_path_characters t) → Lacks is_hash (drop 1 t)
    rest_lacks [] h = absurd cc
    rest_lacks (c ∷ cs) h = all_weaker is_path_character (λ d. not (is_hash d)) (other_kind is_path_character hash refl) cs (and_right (is_slash c) _ h)

    stops : (xs rest : List ℕ) → Lacks is_hash xs → before_first is_hash (xs ++ hash ∷ rest) ≡ xs
    stops xs rest h = ap (λ (n : ℕ). take n (xs ++ hash ∷ rest)) (stop_len xs rest h) ∙ take_at xs (hash ∷ rest) (length xs) refl

    by_fragment : (f : Option (List ℕ)) → Lacks is_hash (uri_of base path) → before_first is_hash (uri_of base path ++ fragment_text f) ≡ uri_of base path
    by_fragment None h = ap (before_first is_hash) (append-nil (uri_of base path)) ∙ lacks_before is_hash (uri_of base path) h
    by_fragment (Some f) h = stops (uri_of base path) f h

-- ---- `under`

pub inside_under : (p q : List ℕ) → IsInside p q → IsUnder p q
inside_under p q h = under_front p q h.rest h.whole h.container h.more

pub under_inside : (p q : List ℕ) → IsTrue (has_path_characters p) → IsUnder p q → IsInside p q
under_inside p q characters u =
    let found = front_under p q u.0 characters u.1 in
    record { container = found.closed; rest = found.rest; whole = found.whole; more = found.some }

pub inside_test : (p q rest : List ℕ) (e : Bool) → p ≡ q ++ rest → IsTrue (is_container q) → e ≡ eqb (length rest) 0 → (IsTrue (not e) → IsInside p q) × (IsInside p q → IsTrue (not e))
inside_test p q [] e whole closed is = (
  λ h. (let no : not e ≡ false = ap not is in absurd cc),
  λ i. (let none : [] ≡ i.rest = append_cancel_left q [] i.rest (sym whole ∙ i.whole) in
      absurd (omega (arith, i.more, ap length none))),
)
inside_test p q (c ∷ cs) e whole closed is = (
  λ h. record { container = closed; rest = c ∷ cs; whole = whole; more = omega arith },
  λ i. ap not (is ∙ eqb-suc-zero (length cs)),
)

-- ---- parents of paths and of their twins

pub parent_some : (p : List ℕ) → is_root p ≡ false → parent_of p ≡ Some (up_to_last_slash (without_last_slash p))
parent_some p no_root = ap (λ (b : Bool). cond b None (Some (up_to_last_slash (without_last_slash p)))) no_root

pub parent_normal : (p q : List ℕ) → IsPath p → IsPath q → IsFront q p → norm p ≡ Ok p → norm q ≡ Ok q
parent_normal p q hp hq f e = smaller_normal q p hq
    (omega (arith, ap length f.whole, length-append q f.rest))
    (omega (arith, depth_slashes q f.characters, depth_slashes p (parts_of p hp).characters, ap (count_by is_slash) f.whole, slashes_more q f.rest))
    e

pub twin_parent : (t x : List ℕ) → IsPath t → twin_of t ≡ Some x → parent_of x ≡ parent_of t
twin_parent t x h e = by_tests (is_root t) (is_auxiliary t) (is_container t) refl refl refl e
  where
    other : is_root t ≡ false → t ≡ root → ⊥
    other no_root same = (let yes : true ≡ false = sym (ap is_root same) ∙ no_root in cc)

    by_tests : (a b c : Bool) → is_root t ≡ a → is_auxiliary t ≡ b → is_container t ≡ c
        → cond (a || b) None (cond c (Some (without_end 1 t)) (Some (t ++ slash ∷ []))) ≡ Some x → parent_of x ≡ parent_of t
    by_tests true b c ea eb ec k = absurd cc
    by_tests false true c ea eb ec k = absurd cc
    by_tests false false true ea eb ec k =
        let prefix = without_end 1 t in
        let same : prefix ≡ x = cc in
        let whole : t ≡ prefix ++ slash ∷ [] = ends_is t (slash ∷ []) ec in
        let o = opened t prefix whole h ea in
        ap parent_of (sym same)
        ∙ parent_is prefix prefix (open_root prefix o) (ap (λ (b : Bool). cond b (without_end 1 prefix) prefix) (open_plain prefix o))
        ∙ sym (parent_is t prefix (other ea) (ap (λ (b : Bool). cond b (without_end 1 t) t) ec))
    by_tests false false false ea eb ec k =
        let same : t ++ slash ∷ [] ≡ x = cc in
        ap parent_of (sym same)
        ∙ parent_is (t ++ slash ∷ []) t (longer_root t (slash ∷ []) (spelled_some t (parts_of t h).characters) (omega arith)) (without_last_slash_some t)
        ∙ sym (parent_is t t (other ea) (ap (λ (b : Bool). cond b (without_end 1 t) t) ec))

pub none_weaker : {X E P Q : Type 0} (r : Result (Option X) E) → (P → Q) → IfOk r (λ found. IfNone found P) → IfOk r (λ found. IfNone found Q)
none_weaker (Ok None) f h = f h
none_weaker (Ok (Some x)) f h = tt
none_weaker (Err e) f h = tt
