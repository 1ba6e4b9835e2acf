-- Every text has its components, and has them in one way.
use Rattle.std.proofs.Common.{◌≡◌, ℕ, Bool, true, false, not, ◌||◌, eqb, List, [], ◌∷◌, ◌++◌, Option, Some, None, refl, sym, ap, subst, ◌∙◌, append_assoc, eq-eqb}
use Rattle.std.specs.Prelude.{IsTrue, IfSome, IfNone, OnSome}
use Rattle.std.specs.List.{list_all}
use Rattle.std.proofs.lemmas.Bool.{eqb-true, eqb-false}
use Rattle.std.proofs.lemmas.List.{append-nil}
use Rattle.iri_ref.specs.Characters.{slash, colon, hash, question_mark, is_slash, is_colon, is_hash, is_question_mark, is_scheme, Lacks}
use Rattle.iri_ref.specs.Components.{Components, HasComponents, HasScheme, BeginsWithScheme, IsEmptyOrRooted, ends_authority, ends_path, scheme_text, prefixed, authority_text, query_text, fragment_text}
use Rattle.iri_ref.proofs.Texts.{and_left, and_right, and_both, all_left, all_right, all_append, all_weaker}
use Rattle.iri_ref.proofs.UniqueSplits.{Starts, one_cut}
use Rattle.iri_ref.proofs.Schemes.{one_colon, scheme_lacks_colon, no_colon_no_scheme, other_front}

neither : (a b : Bool) → IsTrue (not a) → IsTrue (not b) → IsTrue (not (a || b))
neither true b ha hb = ha
neither false b ha hb = hb

left_of_either : (p q : ℕ → Bool) (c : ℕ) → IsTrue (not (p c || q c)) → IsTrue (not (p c))
left_of_either p q c h = by_test (p c) (q c) h
  where
    by_test : (a b : Bool) → IsTrue (not (a || b)) → IsTrue (not a)
    by_test true b h = h
    by_test false b h = refl

right_of_either : (p q : ℕ → Bool) (c : ℕ) → IsTrue (not (p c || q c)) → IsTrue (not (q c))
right_of_either p q c h = by_test (p c) (q c) h
  where
    by_test : (a b : Bool) → IsTrue (not (a || b)) → IsTrue (not b)
    by_test true b h = absurd cc
    by_test false b h = h

-- characters that pass neither test
lacks_either : (p q : ℕ → Bool) (xs : List ℕ) → Lacks p xs → Lacks q xs → Lacks (λ c. p c || q c) xs
lacks_either p q [] hp hq = refl
lacks_either p q (x ∷ xs) hp hq =
    and_both _ _ (neither (p x) (q x) (and_left _ (list_all (λ c. not (p c)) xs) hp) (and_left _ (list_all (λ c. not (q c)) xs) hq))
    (lacks_either p q xs (and_right (not (p x)) _ hp) (and_right (not (q x)) _ hq))

-- the steps that find the components, from left to right
pub record Found (text : List ℕ) (c : Components) : Type 0 where
  pub rest : List ℕ
  pub prefix : List ℕ
  pub body : List ℕ
  pub scheme : IfSome c.scheme (λ scheme. BeginsWithScheme text scheme rest)
  pub no_scheme : IfNone c.scheme (HasScheme text → ⊥)
  pub same : IfNone c.scheme (rest ≡ text)
  pub at_hash : rest ≡ prefix ++ fragment_text c.fragment
  pub before_hash : Lacks is_hash prefix
  pub at_mark : prefix ≡ body ++ query_text c.query
  pub before_mark : Lacks is_question_mark body
  pub parts : body ≡ authority_text c.authority ++ c.path
  pub authority : IfSome c.authority (λ authority. Lacks is_slash authority)
  pub rooted : OnSome c.authority (IsEmptyOrRooted c.path)
  pub no_authority : IfNone c.authority ((rest : List ℕ) → c.path ≡ slash ∷ slash ∷ rest → ⊥)

whole_of : (text rest : List ℕ) (scheme : Option (List ℕ)) → IfSome scheme (λ s. BeginsWithScheme text s rest) → IfNone scheme (rest ≡ text) → text ≡ scheme_text scheme ++ rest
whole_of text rest None h e = sym e
whole_of text rest (Some s) h e = h.whole ∙ sym (append_assoc s (colon ∷ []) rest)

split_scheme : (text rest : List ℕ) (scheme : Option (List ℕ)) → IfSome scheme (λ s. BeginsWithScheme text s rest) → IfSome scheme (λ s. IsTrue (is_scheme s))
split_scheme text rest None h = tt
split_scheme text rest (Some s) h = h.is_one

authority_lacks : (authority : Option (List ℕ)) (path : List ℕ) → IfSome authority (λ a. Lacks is_slash a) → Lacks ends_path (authority_text authority ++ path) → IfSome authority (λ a. Lacks ends_authority a)
authority_lacks None path h k = tt
authority_lacks (Some a) path h k = lacks_either is_slash ends_path a h (all_left (λ c. not (ends_path c)) a path k)

query_lacks : (query : Option (List ℕ)) (body : List ℕ) → Lacks is_hash (body ++ query_text query) → IfSome query (λ q. Lacks is_hash q)
query_lacks None body h = tt
query_lacks (Some q) body h = all_right (λ c. not (is_hash c)) body (question_mark ∷ q) h

pub has_found : (text : List ℕ) (c : Components) → Found text c → HasComponents text c
has_found text c f =
    let inside : f.prefix ≡ (authority_text c.authority ++ c.path) ++ query_text c.query = f.at_mark ∙ ap (λ (t : List ℕ). t ++ query_text c.query) f.parts in
    let no_hash : Lacks is_hash (f.body ++ query_text c.query) = subst (λ (t : List ℕ). Lacks is_hash t) f.at_mark f.before_hash in
    let body_ends : Lacks ends_path f.body = lacks_either is_question_mark is_hash f.body f.before_mark (all_left (λ d. not (is_hash d)) f.body (query_text c.query) no_hash) in
    let parts_end : Lacks ends_path (authority_text c.authority ++ c.path) = subst (λ (t : List ℕ). Lacks ends_path t) f.parts body_ends in
    let regrouped : f.rest ≡ authority_text c.authority ++ (c.path ++ (query_text c.query ++ fragment_text c.fragment)) =
    f.at_hash ∙ ap (λ (t : List ℕ). t ++ fragment_text c.fragment) inside
    ∙ append_assoc (authority_text c.authority ++ c.path) (query_text c.query) (fragment_text c.fragment)
    ∙ append_assoc (authority_text c.authority) c.path (query_text c.query ++ fragment_text c.fragment) in
    record {
      whole = whole_of text f.rest c.scheme f.scheme f.same ∙ ap (λ (t : List ℕ). scheme_text c.scheme ++ t) regrouped;
      scheme = split_scheme text f.rest c.scheme f.scheme;
      no_scheme = f.no_scheme;
      authority = authority_lacks c.authority c.path f.authority parts_end;
      no_authority = f.no_authority;
      rooted = f.rooted;
      path = all_right (λ d. not (ends_path d)) (authority_text c.authority) c.path parts_end;
      query = query_lacks c.query f.body no_hash;
    }

-- ---- one split

same_scheme : (text : List ℕ) (s t : Option (List ℕ)) (x y : List ℕ) → text ≡ scheme_text s ++ x → text ≡ scheme_text t ++ y
    → IfSome s (λ a. IsTrue (is_scheme a)) → IfSome t (λ a. IsTrue (is_scheme a)) → IfNone s (HasScheme text → ⊥) → IfNone t (HasScheme text → ⊥) → (s ≡ t) × (x ≡ y)
same_scheme text None None x y ex ey hs ht ns nt = (refl, sym ex ∙ ey)
same_scheme text None (Some b) x y ex ey hs ht ns nt = absurd (ns (b, y, record { is_one = ht; whole = ey ∙ append_assoc b (colon ∷ []) y }))
same_scheme text (Some a) None x y ex ey hs ht ns nt = absurd (nt (a, x, record { is_one = hs; whole = ex ∙ append_assoc a (colon ∷ []) x }))
same_scheme text (Some a) (Some b) x y ex ey hs ht ns nt =
    let cut = one_colon a b x y (scheme_lacks_colon a hs) (scheme_lacks_colon b ht) (sym (append_assoc a (colon ∷ []) x) ∙ sym ex ∙ ey ∙ append_assoc b (colon ∷ []) y) in
    (ap (λ (t : List ℕ). Some t) cut.0, cut.1)

led_starts : (mark : ℕ) (f : Option (List ℕ)) → Starts (λ c. eqb c mark) (prefixed (mark ∷ []) f)
led_starts mark None = tt
led_starts mark (Some text) = eq-eqb mark mark refl

same_led : (mark : ℕ) (f g : Option (List ℕ)) → prefixed (mark ∷ []) f ≡ prefixed (mark ∷ []) g → f ≡ g
same_led mark None None e = refl
same_led mark None (Some y) e = absurd cc
same_led mark (Some x) None e = absurd cc
same_led mark (Some x) (Some y) e = let tails : x ≡ y = cc in ap (λ (t : List ℕ). Some t) tails

one_led : (mark : ℕ) (a b : List ℕ) (f g : Option (List ℕ)) → Lacks (λ c. eqb c mark) a → Lacks (λ c. eqb c mark) b → a ++ prefixed (mark ∷ []) f ≡ b ++ prefixed (mark ∷ []) g → (a ≡ b) × (f ≡ g)
one_led mark a b f g ha hb e =
    let cut = one_cut (λ c. eqb c mark) a b (prefixed (mark ∷ []) f) (prefixed (mark ∷ []) g) ha hb (led_starts mark f) (led_starts mark g) e in
    (cut.0, same_led mark f g cut.1)

rooted_starts : (path : List ℕ) → IsEmptyOrRooted path → Starts is_slash path
rooted_starts [] h = tt
rooted_starts (c ∷ cs) h = ap is_slash h

same_authority : (a b : Option (List ℕ)) (p q : List ℕ) → authority_text a ++ p ≡ authority_text b ++ q
    → IfSome a (λ x. Lacks ends_authority x) → IfSome b (λ x. Lacks ends_authority x) → OnSome a (IsEmptyOrRooted p) → OnSome b (IsEmptyOrRooted q)
    → IfNone a ((rest : List ℕ) → p ≡ slash ∷ slash ∷ rest → ⊥) → IfNone b ((rest : List ℕ) → q ≡ slash ∷ slash ∷ rest → ⊥) → (a ≡ b) × (p ≡ q)
same_authority None None p q e ha hb ra rb na nb = (refl, e)
same_authority None (Some y) p q e ha hb ra rb na nb = absurd (na (y ++ q) e)
same_authority (Some x) None p q e ha hb ra rb na nb = absurd (nb (x ++ p) (sym e))
same_authority (Some x) (Some y) p q e ha hb ra rb na nb =
    let inside : x ++ p ≡ y ++ q = cc in
    let cut = one_cut is_slash x y p q (all_weaker _ _ (left_of_either is_slash ends_path) x ha) (all_weaker _ _ (left_of_either is_slash ends_path) y hb) (rooted_starts p ra) (rooted_starts q rb) inside in
    (ap (λ (t : List ℕ). Some t) cut.0, cut.1)

authority_keeps : (test : ℕ → Bool) (a : Option (List ℕ)) (p : List ℕ) → test slash ≡ false → IfSome a (λ x. Lacks test x) → Lacks test p → Lacks test (authority_text a ++ p)
authority_keeps test None p out ha hp = hp
authority_keeps test (Some x) p out ha hp =
    let free : IsTrue (not (test slash)) = ap not out in
    and_both _ _ free (and_both _ _ free (all_append (λ c. not (test c)) x p ha hp))

query_keeps : (q : Option (List ℕ)) → IfSome q (λ x. Lacks is_hash x) → Lacks is_hash (query_text q)
query_keeps None h = refl
query_keeps (Some x) h = h

weaker_authority : (test : ℕ → Bool) (a : Option (List ℕ)) → ((c : ℕ) → IsTrue (not (ends_authority c)) → IsTrue (not (test c))) → IfSome a (λ x. Lacks ends_authority x) → IfSome a (λ x. Lacks test x)
weaker_authority test None w h = tt
weaker_authority test (Some x) w h = all_weaker _ _ w x h

-- the text after a scheme, in three parts
regrouped : (c : Components) → authority_text c.authority ++ (c.path ++ (query_text c.query ++ fragment_text c.fragment)) ≡ ((authority_text c.authority ++ c.path) ++ query_text c.query) ++ fragment_text c.fragment
regrouped c =
    sym (append_assoc (authority_text c.authority ++ c.path) (query_text c.query) (fragment_text c.fragment)
    ∙ append_assoc (authority_text c.authority) c.path (query_text c.query ++ fragment_text c.fragment))

abbrev body_of : Components → List ℕ
body_of c = authority_text c.authority ++ c.path

body_lacks : (test : ℕ → Bool) → test slash ≡ false → ((c : ℕ) → IsTrue (not (ends_path c)) → IsTrue (not (test c))) → (text : List ℕ) (c : Components) → HasComponents text c → Lacks test (body_of c)
body_lacks test out w text c h =
    authority_keeps test c.authority c.path out
    (weaker_authority test c.authority (λ d k. w d (right_of_either is_slash ends_path d k)) h.authority)
    (all_weaker _ _ w c.path h.path)

pub texts_split_uniquely : (text : List ℕ) (c d : Components) → HasComponents text c → HasComponents text d → c ≡ d
texts_split_uniquely text c d hc hd =
    let schemes = same_scheme text c.scheme d.scheme _ _ hc.whole hd.whole hc.scheme hd.scheme hc.no_scheme hd.no_scheme in
    let hash_out : (e : Components) → HasComponents text e → Lacks is_hash (body_of e ++ query_text e.query) =
    λ e he. all_append (λ c. not (is_hash c)) (body_of e) (query_text e.query) (body_lacks is_hash refl (right_of_either is_question_mark is_hash) text e he) (query_keeps e.query he.query) in
    let fragments = one_led hash (body_of c ++ query_text c.query) (body_of d ++ query_text d.query) c.fragment d.fragment (hash_out c hc) (hash_out d hd) (sym (regrouped c) ∙ schemes.1 ∙ regrouped d) in
    let queries = one_led question_mark (body_of c) (body_of d) c.query d.query
    (body_lacks is_question_mark refl (left_of_either is_question_mark is_hash) text c hc)
    (body_lacks is_question_mark refl (left_of_either is_question_mark is_hash) text d hd) fragments.0 in
    let bodies = same_authority c.authority d.authority c.path d.path queries.0 hc.authority hd.authority hc.rooted hd.rooted hc.no_authority hd.no_authority in
    λ i. record { scheme = schemes.0 i; authority = bodies.0 i; path = bodies.1 i; query = queries.1 i; fragment = fragments.1 i }

-- ---- there is a split

record Cut (test : ℕ → Bool) (text : List ℕ) : Type 0 where
  prefix : List ℕ
  back : List ℕ
  whole : text ≡ prefix ++ back
  lacks : Lacks test prefix
  starts : Starts test back

cut_of : (test : ℕ → Bool) (text : List ℕ) → Cut test text
cut_of test [] = record { prefix = []; back = []; whole = refl; lacks = refl; starts = tt }
cut_of test (c ∷ cs) = by_test (test c) refl (cut_of test cs)
  where
    by_test : (b : Bool) → test c ≡ b → Cut test cs → Cut test (c ∷ cs)
    by_test true e below = record { prefix = []; back = c ∷ cs; whole = refl; lacks = refl; starts = e }
    by_test false e below = record {
      prefix = c ∷ below.prefix;
      back = below.back;
      whole = ap (λ (t : List ℕ). c ∷ t) below.whole;
      lacks = and_both _ _ (ap not e) below.lacks;
      starts = below.starts;
    }

led_of : (mark : ℕ) (back : List ℕ) → Starts (λ c. eqb c mark) back → (f : Option (List ℕ)) × (back ≡ prefixed (mark ∷ []) f)
led_of mark [] h = (None, refl)
led_of mark (c ∷ cs) h = (Some cs, ap (λ (d : ℕ). d ∷ cs) (eqb-true c mark h))

record SchemeCut (text : List ℕ) : Type 0 where
  scheme : Option (List ℕ)
  rest : List ℕ
  some : IfSome scheme (λ s. BeginsWithScheme text s rest)
  none : IfNone scheme (HasScheme text → ⊥)
  same : IfNone scheme (rest ≡ text)

scheme_cut : (text : List ℕ) → SchemeCut text
scheme_cut text = by_colon (cut_of is_colon text)
  where
    by_test : (prefix rest : List ℕ) → text ≡ prefix ++ colon ∷ rest → Lacks is_colon prefix → (b : Bool) → is_scheme prefix ≡ b → SchemeCut text
    by_test prefix rest whole lacks true e = record { scheme = Some prefix; rest = rest; some = record { is_one = e; whole = whole }; none = tt; same = tt }
    by_test prefix rest whole lacks false e = record { scheme = None; rest = text; some = tt; none = other_front text prefix rest whole lacks e; same = refl }

    by_back : (prefix back : List ℕ) → text ≡ prefix ++ back → Lacks is_colon prefix → Starts is_colon back → SchemeCut text
    by_back prefix [] whole lacks starts = record {
      scheme = None;
      rest = text;
      some = tt;
      none = no_colon_no_scheme text (subst (λ (t : List ℕ). Lacks is_colon t) (sym (whole ∙ append-nil prefix)) lacks);
      same = refl;
    }
    by_back prefix (c ∷ cs) whole lacks starts =
        by_test prefix cs (whole ∙ ap (λ (d : ℕ). prefix ++ d ∷ cs) (eqb-true c colon starts)) lacks (is_scheme prefix) refl

    by_colon : Cut is_colon text → SchemeCut text
    by_colon cut = by_back cut.prefix cut.back cut.whole cut.lacks cut.starts

record AuthorityCut (body : List ℕ) : Type 0 where
  authority : Option (List ℕ)
  path : List ℕ
  whole : body ≡ authority_text authority ++ path
  lacks : IfSome authority (λ a. Lacks is_slash a)
  rooted : OnSome authority (IsEmptyOrRooted path)
  none : IfNone authority ((rest : List ℕ) → path ≡ slash ∷ slash ∷ rest → ⊥)

starts_rooted : (path : List ℕ) → Starts is_slash path → IsEmptyOrRooted path
starts_rooted [] h = tt
starts_rooted (c ∷ cs) h = eqb-true c slash h

no_slashes : (body : List ℕ) → ((rest : List ℕ) → body ≡ slash ∷ slash ∷ rest → ⊥) → AuthorityCut body
no_slashes body none = record { authority = None; path = body; whole = refl; lacks = tt; rooted = tt; none = none }

authority_cut : (body : List ℕ) → AuthorityCut body
authority_cut [] = no_slashes [] (λ rest e. cc)
authority_cut (c ∷ []) = no_slashes (c ∷ []) (λ rest e. cc)
authority_cut (c ∷ d ∷ cs) = by_tests (is_slash c) (is_slash d) refl refl
  where
    by_tests : (x y : Bool) → is_slash c ≡ x → is_slash d ≡ y → AuthorityCut (c ∷ d ∷ cs)
    by_tests true true ec ed =
        let cut = cut_of is_slash cs in
        record {
          authority = Some cut.prefix;
          path = cut.back;
          whole = ap (λ (a : ℕ). a ∷ d ∷ cs) (eqb-true c slash ec) ∙ ap (λ (a : ℕ). slash ∷ a ∷ cs) (eqb-true d slash ed) ∙ ap (λ (t : List ℕ). slash ∷ slash ∷ t) cut.whole;
          lacks = cut.lacks;
          rooted = starts_rooted cut.back cut.starts;
          none = tt;
        }
    by_tests false y ec ed = no_slashes (c ∷ d ∷ cs) (λ rest e. let first : c ≡ slash = cc in eqb-false c slash ec first)
    by_tests true false ec ed = no_slashes (c ∷ d ∷ cs) (λ rest e. let second : d ≡ slash = cc in eqb-false d slash ed second)

pub some_split : (text : List ℕ) → (c : Components) × HasComponents text c
some_split text =
    let scheme = scheme_cut text in
    let at_hash = cut_of is_hash scheme.rest in
    let fragment = led_of hash at_hash.back at_hash.starts in
    let at_mark = cut_of is_question_mark at_hash.prefix in
    let query = led_of question_mark at_mark.back at_mark.starts in
    let authority = authority_cut at_mark.prefix in
    let c : Components = record { scheme = scheme.scheme; authority = authority.authority; path = authority.path; query = query.0; fragment = fragment.0 } in (
      c,
      has_found text c (record {
        rest = scheme.rest;
        prefix = at_hash.prefix;
        body = at_mark.prefix;
        scheme = scheme.some;
        no_scheme = scheme.none;
        same = scheme.same;
        at_hash = at_hash.whole ∙ ap (λ (t : List ℕ). at_hash.prefix ++ t) fragment.1;
        before_hash = at_hash.lacks;
        at_mark = at_mark.whole ∙ ap (λ (t : List ℕ). at_mark.prefix ++ t) query.1;
        before_mark = at_mark.lacks;
        parts = authority.whole;
        authority = authority.lacks;
        rooted = authority.rooted;
        no_authority = authority.none;
      }),
    )
