-- Which fields leave a verdict the same, whatever the tags or the state of the resource are.
use Rattle.std.proofs.Common.{◌≡◌, ℕ, Bool, true, false, not, cond, ◌&&◌, ◌||◌, List, [], ◌∷◌, map, Option, Some, None, refl, sym, ap, ap₂, ◌∙◌}
use Rattle.std.specs.Prelude.{bytes_eq, codes, filter, find, min, nat_lt, nat_le, is_some, if◌then◌else◌}
use Rattle.std.specs.Option.{option_map, option_and_then}
use Rattle.std.proofs.lemmas.Slice.Eq.{bytes_eq-Decides}
use Rattle.httparse.specs.Grammar.{trim_ows}
use Rattle.httpdate.specs.Date.{parse_secs}
use Rattle.httpdate.specs.Reader.{parse, read_name, read_tag}
use Rattle.field_list.specs.Joined.{joined}
use Rattle.pod_base.specs.Fields.{is_named}
use Rattle.pod_base.specs.declared.field.Field.{Field}
use Rattle.pod_base.specs.declared.method.Method.{Method}
use Rattle.pod_base.specs.declared.moment.TheConstants.{LAST_SECOND}
use Rattle.conditional_req.specs.Conditions.{date_of, matching, none_matching, modified_since, unmodified_since, needs_read}
use Rattle.conditional_req.specs.TagLists.{is_any, are_tags, has_strong_match, has_weak_match}
use Rattle.conditional_req.specs.Verdicts.{Validators, match_fails, none_match_fails, has_none_match, is_later, is_not_later, is_reading, has_preconditions, is_refused, is_known, verdict, lists_tags, compares_tags, IgnoresTags, IgnoresState}
use Rattle.conditional_req.specs.declared.precondition_verdict.Verdict.{Verdict}
use Rattle.conditional_req.specs.declared.precondition_verdict.Verdict.TheVariants.{Go, NotModified, Failed}

-- ---- the verdict from its two tests

abbrev by_tests : Method → Bool → Bool → Verdict
by_tests method refused known =
    if not (has_preconditions method) then Go
    else (if refused then Failed
    else (if not known then Go
    else (if is_reading method then NotModified else Failed)))

same_verdict : (fields : List Field) (method : Method) (a b : Validators) → is_refused fields (Some a) ≡ is_refused fields (Some b)
    → is_known fields method (Some a) ≡ is_known fields method (Some b) → verdict fields method (Some a) ≡ verdict fields method (Some b)
same_verdict fields method a b refused known = ap₂ (by_tests method) refused known

-- a value that lists no tags
match_same : (value : Option (List ℕ)) (a b : Validators) → lists_tags value ≡ false → match_fails value (Some a) ≡ match_fails value (Some b)
match_same None a b h = refl
match_same (Some value) a b h = by_test (is_any value) (are_tags value) h
  where
    by_test : (any tags : Bool) → (not any && tags) ≡ false → cond any false (not (tags && has_strong_match a.tags value)) ≡ cond any false (not (tags && has_strong_match b.tags value))
    by_test true tags h = refl
    by_test false false h = refl
    by_test false true h = absurd cc

none_match_same : (value : Option (List ℕ)) (a b : Validators) → lists_tags value ≡ false → none_match_fails value (Some a) ≡ none_match_fails value (Some b)
none_match_same None a b h = refl
none_match_same (Some value) a b h = by_test (is_any value) (are_tags value) h
  where
    by_test : (any tags : Bool) → (not any && tags) ≡ false → cond any true (tags && has_weak_match a.tags value) ≡ cond any true (tags && has_weak_match b.tags value)
    by_test true tags h = refl
    by_test false false h = refl
    by_test false true h = absurd cc

-- dates compare with the moment alone
later_same : (date : Option ℕ) (a b : Validators) → a.modified ≡ b.modified → is_later date (Some a) ≡ is_later date (Some b)
later_same None a b e = refl
later_same (Some date) a b e = ap (λ m. nat_lt date (min m LAST_SECOND)) e

not_later_same : (date : Option ℕ) (a b : Validators) → a.modified ≡ b.modified → is_not_later date (Some a) ≡ is_not_later date (Some b)
not_later_same None a b e = refl
not_later_same (Some date) a b e = ap (λ m. nat_le (min m LAST_SECOND) date) e

both_false : (a b : Bool) → (a || b) ≡ false → (a ≡ false) × (b ≡ false)
both_false true b h = absurd cc
both_false false b h = (refl, h)

pub ignores_tags : (fields : List Field) → compares_tags fields ≡ false → IgnoresTags fields
ignores_tags fields h method a b e =
    let none = both_false (lists_tags (matching fields)) (lists_tags (none_matching fields)) h in
    same_verdict fields method a b
    (ap₂ (cond (is_some (matching fields))) (match_same (matching fields) a b none.0) (later_same (unmodified_since fields) a b e))
    (ap₂ (cond (has_none_match (none_matching fields))) (none_match_same (none_matching fields) a b none.1)
    (ap (λ x. is_reading method && x) (not_later_same (modified_since fields) a b e)))

-- ---- fields that are all `*`

-- each value is `*`
abbrev AreStars : List (List ℕ) → Type 0
AreStars [] = Unit {0}
AreStars (v ∷ vs) = (v ≡ codes "*") × AreStars vs

star : (v : List ℕ) → not (bytes_eq v (codes "*")) ≡ false → v ≡ codes "*"
star v h = by_test (bytes_eq v (codes "*")) refl h
  where
    by_test : (b : Bool) → bytes_eq v (codes "*") ≡ b → not b ≡ false → v ≡ codes "*"
    by_test true e n = (bytes_eq-Decides v (codes "*")).0 e
    by_test false e n = absurd cc

stars : (test : Field → Bool) (fields : List Field) → needs_read fields ≡ false → AreStars (map (λ f. f.value) (filter test fields))
stars test [] h = tt
stars test (f ∷ fields) h =
    let parts = both_false (not (bytes_eq f.value (codes "*"))) (needs_read fields) h in
    by_test (test f) (star f.value parts.0) (stars test fields parts.1)
  where
    by_test : (b : Bool) → f.value ≡ codes "*" → AreStars (map (λ f. f.value) (filter test fields)) → AreStars (map (λ f. f.value) (cond b (f ∷ filter test fields) (filter test fields)))
    by_test true one more = (one, more)
    by_test false one more = more

-- `*` alone is any tag, and several are no list of tags
no_list : (values : List (List ℕ)) → AreStars values → lists_tags (joined values) ≡ false
unfolding trim_ows
no_list [] h = refl
no_list (v ∷ []) h = ap (λ (x : List ℕ). lists_tags (Some x)) h.0
no_list (v ∷ w ∷ values) h = ap (λ (x : List ℕ). lists_tags (joined (x ∷ w ∷ values))) h.0

-- the date of `*`
no_date : parse_secs (codes "*") ≡ None
unfolding parse read_name read_tag
no_date = refl

no_date_of : (name : List ℕ) (fields : List Field) → needs_read fields ≡ false → date_of name fields ≡ None
no_date_of name [] h = refl
no_date_of name (f ∷ fields) h =
    let parts = both_false (not (bytes_eq f.value (codes "*"))) (needs_read fields) h in
    by_test (is_named name f) (star f.value parts.0) (no_date_of name fields parts.1)
  where
    by_test : (b : Bool) → f.value ≡ codes "*" → date_of name fields ≡ None → option_and_then parse_secs (option_map (λ (g : Field). g.value) (cond b (Some f) (find (is_named name) fields))) ≡ None
    by_test true one more = ap parse_secs one ∙ no_date
    by_test false one more = more

never_later : (date : Option ℕ) (a b : Validators) → date ≡ None → is_later date (Some a) ≡ is_later date (Some b)
never_later date a b e = ap (λ (d : Option ℕ). is_later d (Some a)) e ∙ sym (ap (λ (d : Option ℕ). is_later d (Some b)) e)

never_not_later : (date : Option ℕ) (a b : Validators) → date ≡ None → is_not_later date (Some a) ≡ is_not_later date (Some b)
never_not_later date a b e = ap (λ (d : Option ℕ). is_not_later d (Some a)) e ∙ sym (ap (λ (d : Option ℕ). is_not_later d (Some b)) e)

pub ignores_state : (fields : List Field) → needs_read fields ≡ false → IgnoresState fields
ignores_state fields h method a b =
    same_verdict fields method a b
    (ap₂ (cond (is_some (matching fields))) (match_same (matching fields) a b (no_list _ (stars (is_named (codes "if-match")) fields h)))
    (never_later (unmodified_since fields) a b (no_date_of (codes "if-unmodified-since") fields h)))
    (ap₂ (cond (has_none_match (none_matching fields))) (none_match_same (none_matching fields) a b (no_list _ (stars (is_named (codes "if-none-match")) fields h)))
    (ap (λ x. is_reading method && x) (never_not_later (modified_since fields) a b (no_date_of (codes "if-modified-since") fields h))))
