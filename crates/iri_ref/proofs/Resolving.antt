-- Laws of resolution.
use Rattle.std.proofs.Common.{◌≡◌, ℕ, Bool, true, false, cond, List, [], ◌∷◌, ◌++◌, Option, Some, None, refl, sym, ap, subst, ◌∙◌, append_assoc}
use Rattle.std.specs.Prelude.{IsTrue, IfSome, IfNone, codes}
use Rattle.std.specs.List.{list_all, list_any}
use Rattle.iri_ref.specs.Characters.{colon, is_slash, is_allowed, is_scheme, AllAllowed}
use Rattle.iri_ref.specs.Components.{Components, HasComponents, HasScheme, BeginsWithScheme, IsAbsolute, recomposed, scheme_text, prefixed, authority_text, query_text, fragment_text}
use Rattle.iri_ref.specs.Segments.{remove_dot_segments}
use Rattle.iri_ref.specs.Resolution.{transformed, by_scheme, in_scheme_of, path_from, query_from, merged, up_to_last_slash, IsResolved, first_of, TakesScheme, StaysResolved}
use Rattle.iri_ref.proofs.Texts.{and_left, and_right, and_both, all_left, all_right, all_append}
use Rattle.iri_ref.proofs.Schemes.{one_colon, scheme_lacks_colon}
use Rattle.iri_ref.proofs.Splits.{texts_split_uniquely, some_split}
use Rattle.iri_ref.proofs.Dots.{without_dots_plain, without_dots_allowed}

-- ---- one result

pub references_resolve_uniquely : (base ref x y : List ℕ) → IsResolved base ref x → IsResolved base ref y → x ≡ y
references_resolve_uniquely base ref x y hx hy =
    hx.whole
    ∙ ap (λ (b : Components). recomposed (transformed b hx.ref_parts)) (texts_split_uniquely base hx.base_parts hy.base_parts hx.base_has hy.base_has)
    ∙ ap (λ (r : Components). recomposed (transformed hy.base_parts r)) (texts_split_uniquely ref hx.ref_parts hy.ref_parts hx.ref_has hy.ref_has)
    ∙ sym hy.whole

-- ---- schemes

pub scheme_is : (text scheme rest : List ℕ) → BeginsWithScheme text scheme rest → (c : Components) → HasComponents text c → c.scheme ≡ Some scheme
scheme_is text scheme rest h c hc = by_scheme c.scheme _ hc.whole hc.scheme hc.no_scheme
  where
    by_scheme : (s : Option (List ℕ)) (x : List ℕ) → text ≡ scheme_text s ++ x → IfSome s (λ a. IsTrue (is_scheme a)) → IfNone s (HasScheme text → ⊥) → s ≡ Some scheme
    by_scheme None x e is none = absurd (none (scheme, rest, h))
    by_scheme (Some a) x e is none =
        let cut = one_colon a scheme x rest (scheme_lacks_colon a is) (scheme_lacks_colon scheme h.is_one) (sym (append_assoc a (colon ∷ []) x) ∙ sym e ∙ h.whole) in
        ap (λ (t : List ℕ). Some t) cut.0

in_scheme_scheme : (b r : Components) (a : Option (List ℕ)) → (in_scheme_of b r a).scheme ≡ b.scheme
in_scheme_scheme b r None = refl
in_scheme_scheme b r (Some a) = refl

by_scheme_scheme : (b r : Components) (s : Option (List ℕ)) → (by_scheme b r s).scheme ≡ first_of s b.scheme
by_scheme_scheme b r None = in_scheme_scheme b r r.authority
by_scheme_scheme b r (Some s) = refl

first_scheme : (text : List ℕ) (s : Option (List ℕ)) (base : List ℕ) → IfSome s (λ a. IsTrue (is_scheme a)) → IsTrue (is_scheme base)
    → (a : List ℕ) × (first_of s (Some base) ≡ Some a) × IsTrue (is_scheme a)
first_scheme text None base h hb = (base, refl, hb)
first_scheme text (Some s) base h hb = (s, refl, h)

pub begins : (text scheme : List ℕ) (c : Components) → IsTrue (is_scheme scheme) → c.scheme ≡ Some scheme → text ≡ recomposed c
    → (rest : List ℕ) × BeginsWithScheme text scheme rest
begins text scheme c is e whole =
    let rest = authority_text c.authority ++ (c.path ++ (query_text c.query ++ fragment_text c.fragment)) in
    (rest, record { is_one = is; whole = whole ∙ ap (λ (s : Option (List ℕ)). scheme_text s ++ rest) e ∙ append_assoc scheme (colon ∷ []) rest })

-- what a resolved text begins with
record TargetScheme (text : List ℕ) (b r : Components) : Type 0 where
  scheme : List ℕ
  rest : List ℕ
  is : first_of r.scheme b.scheme ≡ Some scheme
  begins : BeginsWithScheme text scheme rest

target_scheme : (base ref text : List ℕ) → HasScheme base → (b r : Components) → HasComponents base b → HasComponents ref r → text ≡ recomposed (transformed b r) → TargetScheme text b r
target_scheme base ref text hs b r hb hr whole =
    let base_is = scheme_is base hs.0 hs.1 hs.2 b hb in
    let chosen = first_scheme text r.scheme hs.0 hr.scheme hs.2.is_one in
    let is : first_of r.scheme b.scheme ≡ Some chosen.0 = ap (first_of r.scheme) base_is ∙ chosen.1 in
    let begun = begins text chosen.0 (transformed b r) chosen.2 (by_scheme_scheme b r r.scheme ∙ is) whole in
    record { scheme = chosen.0; rest = begun.0; is = is; begins = begun.1 }

pub takes_scheme : (base ref text : List ℕ) → HasScheme base → IsResolved base ref text → TakesScheme base ref text
takes_scheme base ref text hs h b r c hb hr hc =
    let whole : text ≡ recomposed (transformed b r) = references_resolve_uniquely base ref text _ h (record { base_parts = b; ref_parts = r; base_has = hb; ref_has = hr; whole = refl }) in
    let target = target_scheme base ref text hs b r hb hr whole in
    scheme_is text target.scheme target.rest target.begins c hc ∙ sym target.is

pub resolved_has_scheme : (base ref text : List ℕ) → HasScheme base → IsResolved base ref text → HasScheme text
resolved_has_scheme base ref text hs h =
    let target = target_scheme base ref text hs h.base_parts h.ref_parts h.base_has h.ref_has h.whole in
    (target.scheme, target.rest, target.begins)

-- ---- once more

stays_same : (b p : Components) (s : List ℕ) → p.scheme ≡ Some s → remove_dot_segments p.path ≡ p.path → transformed b p ≡ p
stays_same b p s e d =
    ap (by_scheme b p) e ∙ (λ i. record { scheme = sym e i; authority = p.authority; path = d i; query = p.query; fragment = p.fragment })

pub stays_resolved : (base text : List ℕ) → HasScheme text → StaysResolved base text
stays_resolved base text hs p hp plain =
    let b = some_split base in
    let same = stays_same b.0 p hs.0 (scheme_is text hs.0 hs.1 hs.2 p hp) (without_dots_plain p.path plain) in
    record { base_parts = b.0; ref_parts = p; base_has = b.1; ref_has = hp; whole = hp.whole ∙ ap recomposed (sym same) }

-- ---- characters

abbrev IfAllowed : Option (List ℕ) → Type 0
IfAllowed o = IfSome o (λ text. AllAllowed text)

record PartsAllowed (c : Components) : Type 0 where
  scheme : IfAllowed c.scheme
  authority : IfAllowed c.authority
  path : AllAllowed c.path
  query : IfAllowed c.query
  fragment : IfAllowed c.fragment

led_allowed : (mark : List ℕ) (o : Option (List ℕ)) → AllAllowed (prefixed mark o) → IfAllowed o
led_allowed mark None h = tt
led_allowed mark (Some text) h = all_right is_allowed mark text h

allowed_led : (mark : List ℕ) (o : Option (List ℕ)) → AllAllowed mark → IfAllowed o → AllAllowed (prefixed mark o)
allowed_led mark None hm h = refl
allowed_led mark (Some text) hm h = all_append is_allowed mark text hm h

scheme_allowed : (o : Option (List ℕ)) → AllAllowed (scheme_text o) → IfAllowed o
scheme_allowed None h = tt
scheme_allowed (Some s) h = all_left is_allowed s (colon ∷ []) h

allowed_scheme : (o : Option (List ℕ)) → IfAllowed o → AllAllowed (scheme_text o)
allowed_scheme None h = refl
allowed_scheme (Some s) h = all_append is_allowed s (colon ∷ []) h refl

parts_allowed : (c : Components) → AllAllowed (recomposed c) → PartsAllowed c
parts_allowed c h =
    let s = scheme_text c.scheme in
    let a = authority_text c.authority in
    let q = query_text c.query in
    let f = fragment_text c.fragment in
    let behind_scheme = all_right is_allowed s (a ++ (c.path ++ (q ++ f))) h in
    let behind_authority = all_right is_allowed a (c.path ++ (q ++ f)) behind_scheme in
    let behind_path = all_right is_allowed c.path (q ++ f) behind_authority in
    record {
      scheme = scheme_allowed c.scheme (all_left is_allowed s (a ++ (c.path ++ (q ++ f))) h);
      authority = led_allowed (codes "//") c.authority (all_left is_allowed a (c.path ++ (q ++ f)) behind_scheme);
      path = all_left is_allowed c.path (q ++ f) behind_authority;
      query = led_allowed (codes "?") c.query (all_left is_allowed q f behind_path);
      fragment = led_allowed (codes "#") c.fragment (all_right is_allowed q f behind_path);
    }

whole_allowed : (c : Components) → PartsAllowed c → AllAllowed (recomposed c)
whole_allowed c h =
    all_append is_allowed (scheme_text c.scheme) _ (allowed_scheme c.scheme h.scheme)
    (all_append is_allowed (authority_text c.authority) _ (allowed_led (codes "//") c.authority refl h.authority)
    (all_append is_allowed c.path _ h.path
    (all_append is_allowed (query_text c.query) (fragment_text c.fragment) (allowed_led (codes "?") c.query refl h.query) (allowed_led (codes "#") c.fragment refl h.fragment))))

up_to_allowed : (path : List ℕ) → AllAllowed path → AllAllowed (up_to_last_slash path)
up_to_allowed [] h = refl
up_to_allowed (c ∷ cs) h = by_test (list_any is_slash (c ∷ cs)) (up_to_allowed cs (and_right (is_allowed c) _ h))
  where
    by_test : (b : Bool) → AllAllowed (up_to_last_slash cs) → AllAllowed (cond b (c ∷ up_to_last_slash cs) [])
    by_test true below = and_both _ _ (and_left _ (list_all is_allowed cs) h) below
    by_test false below = refl

merged_allowed : (a : Option (List ℕ)) (base path : List ℕ) → AllAllowed base → AllAllowed path → AllAllowed (merged a base path)
merged_allowed (Some a) [] path hb hp = hp
merged_allowed (Some a) (c ∷ cs) path hb hp = all_append is_allowed (up_to_last_slash (c ∷ cs)) path (up_to_allowed (c ∷ cs) hb) hp
merged_allowed None base path hb hp = all_append is_allowed (up_to_last_slash base) path (up_to_allowed base hb) hp

path_from_allowed : (b : Components) (path : List ℕ) → AllAllowed b.path → AllAllowed path → AllAllowed (path_from b path)
path_from_allowed b [] hb hp = hb
path_from_allowed b (c ∷ cs) hb hp = without_dots_allowed (cond (is_slash c) (c ∷ cs) (merged b.authority b.path (c ∷ cs))) (by_test (is_slash c))
  where
    by_test : (x : Bool) → AllAllowed (cond x (c ∷ cs) (merged b.authority b.path (c ∷ cs)))
    by_test true = hp
    by_test false = merged_allowed b.authority b.path (c ∷ cs) hb hp

query_from_allowed : (b : Components) (path : List ℕ) (q : Option (List ℕ)) → IfAllowed b.query → IfAllowed q → IfAllowed (query_from b path q)
query_from_allowed b [] None hb hq = hb
query_from_allowed b [] (Some q) hb hq = hq
query_from_allowed b (c ∷ cs) q hb hq = hq

in_scheme_allowed : (b r : Components) (a : Option (List ℕ)) → PartsAllowed b → PartsAllowed r → IfAllowed a → PartsAllowed (in_scheme_of b r a)
in_scheme_allowed b r (Some a) hb hr ha = record { scheme = hb.scheme; authority = ha; path = without_dots_allowed r.path hr.path; query = hr.query; fragment = hr.fragment }
in_scheme_allowed b r None hb hr ha = record {
  scheme = hb.scheme;
  authority = hb.authority;
  path = path_from_allowed b r.path hb.path hr.path;
  query = query_from_allowed b r.path r.query hb.query hr.query;
  fragment = hr.fragment;
}

by_scheme_allowed : (b r : Components) (s : Option (List ℕ)) → PartsAllowed b → PartsAllowed r → IfAllowed s → PartsAllowed (by_scheme b r s)
by_scheme_allowed b r (Some s) hb hr hs = record { scheme = hs; authority = hr.authority; path = without_dots_allowed r.path hr.path; query = hr.query; fragment = hr.fragment }
by_scheme_allowed b r None hb hr hs = in_scheme_allowed b r r.authority hb hr hr.authority

pub resolved_allowed : (base ref text : List ℕ) → AllAllowed base → AllAllowed ref → IsResolved base ref text → AllAllowed text
resolved_allowed base ref text hb hr h =
    let b = parts_allowed h.base_parts (subst AllAllowed h.base_has.whole hb) in
    let r = parts_allowed h.ref_parts (subst AllAllowed h.ref_has.whole hr) in
    subst AllAllowed (sym h.whole) (whole_allowed (transformed h.base_parts h.ref_parts) (by_scheme_allowed h.base_parts h.ref_parts h.ref_parts.scheme b r r.scheme))

pub resolved_absolute : (base ref text : List ℕ) → IsAbsolute base → AllAllowed ref → IsResolved base ref text → IsAbsolute text
resolved_absolute base ref text hb hr h = record {
  scheme = resolved_has_scheme base ref text hb.scheme h;
  allowed = resolved_allowed base ref text hb.allowed hr h;
}
