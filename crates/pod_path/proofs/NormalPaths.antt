-- What is read is a path, and reads as itself.
use Rattle.std.proofs.Common.{◌≡◌, ℕ, zero, suc, ◌+◌, ◌<◌, ◌≤◌, Bool, true, false, not, cond, ◌||◌, eqb, ltb, List, [], ◌∷◌, length, get_or, drop, Option, Some, None, Result, Ok, Err, refl, sym, ap, subst, ◌∙◌, arith}
use Rattle.std.specs.Prelude.{IsTrue, nat_le, nat_lt, codes}
use Rattle.std.specs.List.{list_all, list_any, before_first, prefix_len}
use Rattle.std.proofs.lemmas.Bool.{eqb-true, leb-true}
use Rattle.std.proofs.lemmas.List.{take_all}
use Rattle.iri_ref.specs.Characters.{slash, is_slash, Lacks}
use Rattle.iri_ref.specs.Segments.{segments}
use Rattle.iri_ref.proofs.Schemes.{other_kind}
use Rattle.iri_ref.proofs.Texts.{and_left, and_right, and_both, all_weaker}
use Rattle.pod_path.specs.declared.limits.TheConstants.{PATH_BYTES_LIMIT, PATH_SEGMENTS_LIMIT}
use Rattle.pod_path.specs.declared.fault.PathFault.{PathFault}
use Rattle.pod_path.specs.declared.fault.PathFault.TheVariants.{NotNormal, Reserved, TooLong, TooDeep}
use Rattle.pod_path.specs.Characters.{is_letter_or_digit, is_unreserved, is_path_character}
use Rattle.iri_ref.specs.Characters.{is_between, is_question_mark}
use Rattle.pod_path.specs.Escapes.{normalize_escapes}
use Rattle.pod_path.specs.Norm.{are_normal, are_reserved, segment_count, if_counted, has_path_characters, checked_text, checked_escapes, path_text_of, IsPath, depth, within_limits, norm}
use Rattle.pod_path.proofs.Escaping.{unescaped_again}

in_either : (P : Type 0) (a b : Bool) → IsTrue (a || b) → (IsTrue a → P) → (IsTrue b → P) → P
in_either P true b h pa pb = pa refl
in_either P false b h pa pb = pb h

-- ---- characters are ASCII

one_of : (ds : List ℕ) → IsTrue (list_all (λ d. nat_lt d 128) ds) → (c : ℕ) → IsTrue (list_any (λ d. eqb c d) ds) → c < 128
one_of [] small c h = absurd cc
one_of (d ∷ ds) small c h =
    in_either (c < 128) (eqb c d) (list_any (λ x. eqb c x) ds) h
    (λ e. (let is : c ≡ d = eqb-true c d e in let lt : d < 128 = leb-true (suc d) 128 (and_left _ (list_all (λ x. nat_lt x 128) ds) small) in omega arith))
    (λ k. one_of ds (and_right (nat_lt d 128) _ small) c k)

between_small : (a b c : ℕ) → b < 128 → IsTrue (is_between a c b) → c < 128
between_small a b c lt h = (let le : c ≤ b = leb-true c b (and_right (nat_le a c) _ h) in omega arith)

pub character_small : (c : ℕ) → IsTrue (is_path_character c) → c < 128
character_small c h =
    in_either (c < 128) (is_unreserved c) _ h
    (λ u. in_either (c < 128) (is_letter_or_digit c) _ u
    (λ l. in_either (c < 128) (is_between 97 c 122) _ l
    (between_small 97 122 c (omega arith))
    (λ m. in_either (c < 128) (is_between 65 c 90) (is_between 48 c 57) m (between_small 65 90 c (omega arith)) (between_small 48 57 c (omega arith))))
    (one_of (codes "-._~") refl c))
    (one_of (codes "!$&'()*+,;=:@/%") refl c)

small_text : (cs : List ℕ) → IsTrue (list_all is_path_character cs) → (i : ℕ) → get_or cs i 0 < 128
small_text [] h i = omega arith
small_text (c ∷ cs) h zero = character_small c (and_left _ (list_all is_path_character cs) h)
small_text (c ∷ cs) h (suc i) = small_text cs (and_right (is_path_character c) _ h) i

pub spelled_ascii : (text : List ℕ) → IsTrue (has_path_characters text) → (i : ℕ) → get_or text i 0 < 128
spelled_ascii [] h i = absurd cc
spelled_ascii (c ∷ cs) h zero = (let is : c ≡ slash = eqb-true c slash (and_left _ (list_all is_path_character cs) h) in omega arith)
spelled_ascii (c ∷ cs) h (suc i) = small_text cs (and_right (is_slash c) _ h) i

pub spelled_some : (text : List ℕ) → IsTrue (has_path_characters text) → 0 < length text
spelled_some [] h = absurd cc
spelled_some (c ∷ cs) h = omega arith

-- ---- the parts of a path

pub record Parts (text : List ℕ) : Type 0 where
  pub escapes : normalize_escapes text ≡ Some text
  pub characters : IsTrue (has_path_characters text)
  pub normal : IsTrue (are_normal (segments (drop 1 text)))
  pub free : are_reserved (segments (drop 1 text)) ≡ false

-- what the tests of a text gave
record Tests (text t : List ℕ) : Type 0 where
  same : t ≡ text
  characters : IsTrue (has_path_characters text)
  normal : IsTrue (are_normal (segments (drop 1 text)))
  free : are_reserved (segments (drop 1 text)) ≡ false

tests_of : (text t : List ℕ) → checked_text text ≡ Ok t → Tests text t
tests_of text t e = by_tests (has_path_characters text) (are_normal (segments (drop 1 text))) (are_reserved (segments (drop 1 text))) refl refl refl e
  where
    by_tests : (a b c : Bool) → has_path_characters text ≡ a → are_normal (segments (drop 1 text)) ≡ b → are_reserved (segments (drop 1 text)) ≡ c
        → cond a (if_counted text (cond b (cond c (Err Reserved) (Ok (length (segments (drop 1 text))))) (Err NotNormal))) (Err NotNormal) ≡ Ok t → Tests text t
    by_tests false b c ea eb ec h = absurd cc
    by_tests true false c ea eb ec h = absurd cc
    by_tests true true true ea eb ec h = absurd cc
    by_tests true true false ea eb ec h = (let same : t ≡ text = cc in record { same = same; characters = ea; normal = eb; free = ec })

of_parts : (text : List ℕ) → IsTrue (has_path_characters text) → IsTrue (are_normal (segments (drop 1 text))) → are_reserved (segments (drop 1 text)) ≡ false → checked_text text ≡ Ok text
of_parts text characters normal free =
    ap (λ (b : Bool). cond b (if_counted text (segment_count (segments (drop 1 text)))) (Err NotNormal)) characters
    ∙ ap (λ (b : Bool). if_counted text (cond b (cond (are_reserved (segments (drop 1 text))) (Err Reserved) (Ok (length (segments (drop 1 text))))) (Err NotNormal))) normal
    ∙ ap (λ (b : Bool). if_counted text (cond b (Err Reserved) (Ok (length (segments (drop 1 text)))))) free

pub is_path : (text : List ℕ) → Parts text → IsPath text
is_path text p = ap checked_escapes p.escapes ∙ of_parts text p.characters p.normal p.free

escaped_text : (o : Option (List ℕ)) (t : List ℕ) → checked_escapes o ≡ Ok t → (text : List ℕ) × (o ≡ Some text) × (checked_text text ≡ Ok t)
escaped_text None t e = absurd cc
escaped_text (Some text) t e = (text, refl, e)

-- what is read has all parts of a path
pub read_parts : (text t : List ℕ) → path_text_of text ≡ Ok t → Parts t
read_parts text t e =
    let found = escaped_text (normalize_escapes text) t e in
    let tests = tests_of found.0 t found.2 in
    let again : normalize_escapes found.0 ≡ Some found.0 = unescaped_again text found.0 found.1 in
    subst Parts (sym tests.same) (record { escapes = again; characters = tests.characters; normal = tests.normal; free = tests.free })

-- what is read is the text with its escapes normal
pub read_unescaped : (text t : List ℕ) → path_text_of text ≡ Ok t → normalize_escapes text ≡ Some t
read_unescaped text t e =
    let found = escaped_text (normalize_escapes text) t e in
    found.1 ∙ ap (λ (x : List ℕ). Some x) (sym (tests_of found.0 t found.2).same)

pub parts_of : (text : List ℕ) → IsPath text → Parts text
parts_of text h = read_parts text text h

pub path_again : (text t : List ℕ) → path_text_of text ≡ Ok t → IsPath t
path_again text t e = is_path t (read_parts text t e)

-- ---- limits

abbrev pub of_ok : List ℕ → Result (List ℕ) PathFault
of_ok path = Ok path

pub limited : (read : Result (List ℕ) PathFault) (t : List ℕ) → within_limits read ≡ Ok t → (read ≡ Ok t) × (within_limits (Ok t) ≡ Ok t)
limited (Err fault) t e = absurd cc
limited (Ok path) t e = by_tests (ltb PATH_BYTES_LIMIT (length path)) (ltb PATH_SEGMENTS_LIMIT (depth path)) refl refl e
  where
    by_tests : (a b : Bool) → ltb PATH_BYTES_LIMIT (length path) ≡ a → ltb PATH_SEGMENTS_LIMIT (depth path) ≡ b → cond a (Err TooLong) (cond b (Err TooDeep) (Ok path)) ≡ Ok t → (of_ok path ≡ Ok t) × (within_limits (Ok t) ≡ Ok t)
    by_tests true b ea eb h = absurd cc
    by_tests false true ea eb h = absurd cc
    by_tests false false ea eb h = (
      h,
      (let same : path ≡ t = cc in subst (λ (x : List ℕ). within_limits (Ok x) ≡ Ok x) same
          (ap (λ (b : Bool). cond b (Err TooLong) (cond (ltb PATH_SEGMENTS_LIMIT (depth path)) (Err TooDeep) (Ok path))) ea ∙ ap (λ (b : Bool). cond b (Err TooDeep) (Ok path)) eb)),
    )

pub no_mark : (c : ℕ) → IsTrue (is_path_character c) → IsTrue (not (is_question_mark c))
no_mark = other_kind is_path_character 63 refl

passes_all : (q : ℕ → Bool) (xs : List ℕ) → IsTrue (list_all q xs) → prefix_len q xs ≡ length xs
passes_all q [] h = refl
passes_all q (x ∷ xs) h =
    let below : prefix_len q xs ≡ length xs = passes_all q xs (and_right (q x) _ h) in
    let one : 1 + prefix_len q xs ≡ length (x ∷ xs) = omega arith in
    ap (λ (b : Bool). cond b (1 + prefix_len q xs) 0) (and_left _ (list_all q xs) h) ∙ one

pub lacks_before : (p : ℕ → Bool) (xs : List ℕ) → Lacks p xs → before_first p xs ≡ xs
lacks_before p xs h =
    let len : prefix_len (λ x. not (p x)) xs ≡ length xs = passes_all (λ x. not (p x)) xs h in
    take_all (prefix_len (λ x. not (p x)) xs) xs (omega arith)

pub norm_parts : (target t : List ℕ) → norm target ≡ Ok t → Parts t
norm_parts target t e = read_parts (before_first is_question_mark target) t (limited (path_text_of (before_first is_question_mark target)) t e).0

-- no character of a path is of a kind that no path character is
pub path_lacks : (test : ℕ → Bool) → test slash ≡ false → ((c : ℕ) → IsTrue (is_path_character c) → IsTrue (not (test c))) → (t : List ℕ) → IsTrue (has_path_characters t) → Lacks test t
path_lacks test out w [] h = absurd cc
path_lacks test out w (c ∷ cs) h =
    let is : c ≡ slash = eqb-true c slash (and_left _ (list_all is_path_character cs) h) in
    and_both _ _ (ap (λ (d : ℕ). not (test d)) is ∙ ap not out) (all_weaker is_path_character (λ d. not (test d)) w cs (and_right (is_slash c) _ h))

pub path_mark : (t : List ℕ) → Parts t → before_first is_question_mark t ≡ t
path_mark t p = lacks_before is_question_mark t (path_lacks is_question_mark refl no_mark t p.characters)

-- a normal path reads as itself
pub norm_again : (target t : List ℕ) → norm target ≡ Ok t → norm t ≡ Ok t
norm_again target t e =
    let limits = limited (path_text_of (before_first is_question_mark target)) t e in
    let parts = norm_parts target t e in
    ap within_limits (ap path_text_of (path_mark t parts) ∙ is_path t parts) ∙ limits.1

-- of a path, reading judges the limits alone
pub norm_limits : (p : List ℕ) → IsPath p → norm p ≡ within_limits (Ok p)
norm_limits p h = ap within_limits (ap path_text_of (path_mark p (parts_of p h)) ∙ h)
