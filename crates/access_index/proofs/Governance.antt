-- The list in force among rows: from the parent or the subject, and after a change of lists.
use Rattle.std.proofs.Common.{◌≡◌, ◌<◌, ◌||◌, ℕ, Bool, true, false, cond, List, [], ◌∷◌, ◌++◌, length, take, drop, map, reverse, Option, Some, None, refl, sym, ap, ◌∙◌, subst, arith, length-append}
use Rattle.std.specs.Prelude.{IsSome, bytes_eq, codes, is_some}
use Rattle.std.specs.List.{find}
use Rattle.std.proofs.lemmas.Bool.{false≢true, true≢false, or_parts}
use Rattle.std.proofs.lemmas.List.{reverse-append}
use Rattle.std.proofs.lemmas.Slice.Eq.{bytes_eq-Decides}
use Rattle.iri_ref.specs.Characters.{slash}
use Rattle.acl_rules.specs.declared.rule.How.TheVariants.{Own, Inherited}
use Rattle.pod_command.specs.declared.row.Row.{Row}
use Rattle.pod_path.specs.Hierarchy.{root, is_acl, is_meta, is_auxiliary, is_container, without_end, subject_of, parent_of, acl_of, meta_of, IsInside}
use Rattle.pod_path.specs.Norm.{IsPath}
use Rattle.pod_path.proofs.Names.{ends_is, ends_starts, starts}
use Rattle.pod_path.proofs.Ancestors.{parent_front, spelled_head}
use Rattle.pod_path.proofs.NormalPaths.{parts_of}
use Rattle.pod_path.proofs.Subjects.{acl_undone, meta_undone, subject_path}
use Rattle.pod_rows.specs.Access.{Governs, governed, inherited, about}
use Rattle.pod_rows.specs.Pod.{is_at, is_row}
use Rattle.pod_rows.specs.Tree.{ancestors}
use Rattle.access_index.specs.Governing.{has_list, governs_among, effective_among, handed_down}
use Rattle.access_index.specs.Listing.{is_listed}
use Rattle.access_index.specs.Reach.{AgreeBeside, is_reached}
use Rattle.access_index.proofs.AncestorLists.{split_at, parent_first}
use Rattle.access_index.proofs.Searches.{AgreeBut, other_hit, lost_hit, new_hit, some_hit, same_beginnings, nearer_hit, shorter_hit, inside_hit}
use Rattle.access_index.proofs.Within.{within_itself, within_beginning, not_listed}

-- ---- rows

pub listed_rows : (rows : List Row) (path : List ℕ) → is_row rows path ≡ is_listed (map (λ (row : Row). row.path) rows) path
listed_rows [] path = refl
listed_rows (row ∷ rows) path = by_test (is_at path row) (listed_rows rows path)
  where
    by_test : (b : Bool) → is_row rows path ≡ is_listed (map (λ (r : Row). r.path) rows) path → is_some (cond b (Some row) (find (is_at path) rows)) ≡ (b || is_listed (map (λ (r : Row). r.path) rows) path)
    by_test true more = refl
    by_test false more = more

-- ---- the list of a text, by its own list and the search above it

abbrev pub chosen : List ℕ → Bool → Option (List ℕ) → Option Governs
chosen text own above = cond own (Some (governed text Own)) (inherited above)

same_governs : (t u : List ℕ → Bool) (text : List ℕ) → has_list t text ≡ has_list u text → ((m : ℕ) → m < length text → is_container (take m text) ≡ true → has_list t (take m text) ≡ has_list u (take m text))
    → governs_among t text ≡ governs_among u text
same_governs t u text own above =
    ap (λ (b : Bool). chosen text b (find (has_list t) (ancestors text))) own
    ∙ ap (λ (o : Option (List ℕ)). chosen text (has_list u text) o) (same_beginnings (has_list t) (has_list u) text (length text) above)

pub same_effective : (t u : List ℕ → Bool) (path : List ℕ) → ((q : List ℕ) → has_list t q ≡ has_list u q) → effective_among t path ≡ effective_among u path
same_effective t u path same =
    let text = about path (subject_of path) in
    same_governs t u text (same text) (λ m l c. same (take m text))

pub unreached : (t u : List ℕ → Bool) (subjects : List (List ℕ)) (path : List ℕ) → AgreeBeside t u subjects → is_reached subjects path ≡ false → effective_among t path ≡ effective_among u path
unreached t u subjects path agree lacks =
    let text = about path (subject_of path) in
    same_governs t u text
    (agree text (not_listed subjects path text lacks (within_itself text text refl)))
    (λ m l c. agree (take m text) (not_listed subjects path (take m text) lacks (within_beginning text m c)))

-- ---- from the parent and the subject

pub no_subject : (path : List ℕ) → is_auxiliary path ≡ false → subject_of path ≡ None
no_subject path h =
    let parts = or_parts (is_acl path) (is_meta path) h in
    ap (λ (b : Bool). cond b (Some (without_end 4 path)) (cond (is_meta path) (Some (without_end 5 path)) None)) parts.0
    ∙ ap (λ (b : Bool). cond b (Some (without_end 5 path)) None) parts.1

pub container_plain : (path : List ℕ) → is_container path ≡ true → is_auxiliary path ≡ false
container_plain path closed =
    let front = without_end 1 path in
    let whole : path ≡ front ++ slash ∷ [] = ends_is path (slash ∷ []) closed in
    ap is_auxiliary whole
    ∙ ap (λ (b : Bool). b || is_meta (front ++ slash ∷ [])) (ends_starts (front ++ slash ∷ []) (codes ".acl") ∙ ap (starts (reverse (codes ".acl"))) (reverse-append front (slash ∷ [])))
    ∙ ends_starts (front ++ slash ∷ []) (codes ".meta") ∙ ap (starts (reverse (codes ".meta"))) (reverse-append front (slash ∷ []))

handed_inherited : (o : Option (List ℕ)) → handed_down (inherited o) ≡ inherited o
handed_inherited None = refl
handed_inherited (Some at) = refl

handed_chosen : (q : List ℕ) (own : Bool) (o : Option (List ℕ)) → inherited (cond own (Some q) o) ≡ handed_down (chosen q own o)
handed_chosen q true o = refl
handed_chosen q false o = sym (handed_inherited o)

pub from_parent : (t : List ℕ → Bool) (path above : List ℕ) → IsPath path → subject_of path ≡ None → parent_of path ≡ Some above → has_list t path ≡ false
    → effective_among t path ≡ handed_down (effective_among t above)
from_parent t path above h plain up lacks =
    let closed : is_container above ≡ true = (parent_front path above (parts_of path h).characters up).closed in
    ap (λ (o : Option (List ℕ)). governs_among t (about path o)) plain
    ∙ ap (λ (b : Bool). chosen path b (find (has_list t) (ancestors path))) lacks
    ∙ ap (λ (xs : List (List ℕ)). inherited (find (has_list t) xs)) (parent_first path above h up)
    ∙ handed_chosen above (has_list t above) (find (has_list t) (ancestors above))
    ∙ ap (λ (o : Option (List ℕ)). handed_down (governs_among t (about above o))) (sym (no_subject above (container_plain above closed)))

acl_plain : (s x : List ℕ) → acl_of s ≡ Some x → is_auxiliary s ≡ false
acl_plain s x e = by_test (is_auxiliary s) e
  where
    by_test : (b : Bool) → cond b None (Some (s ++ codes ".acl")) ≡ Some x → b ≡ false
    by_test true k = absurd cc
    by_test false k = refl

meta_plain : (s x : List ℕ) → meta_of s ≡ Some x → is_auxiliary s ≡ false
meta_plain s x e = by_test (is_auxiliary s) e
  where
    by_test : (b : Bool) → cond b None (Some (s ++ codes ".meta")) ≡ Some x → b ≡ false
    by_test true k = absurd cc
    by_test false k = refl

pub subject_plain : (path s : List ℕ) → IsPath path → subject_of path ≡ Some s → is_auxiliary s ≡ false
subject_plain path s h e = by_tests (is_acl path) (is_meta path) refl refl e
  where
    by_tests : (a b : Bool) → is_acl path ≡ a → is_meta path ≡ b → cond a (Some (without_end 4 path)) (cond b (Some (without_end 5 path)) None) ≡ Some s → is_auxiliary s ≡ false
    by_tests true b ea eb k = acl_plain s path (acl_undone path s h ea e)
    by_tests false true ea eb k = meta_plain s path (meta_undone path s h eb e)
    by_tests false false ea eb k = absurd cc

pub from_subject : (t : List ℕ → Bool) (path s : List ℕ) → IsPath path → subject_of path ≡ Some s → effective_among t path ≡ effective_among t s
from_subject t path s h e =
    ap (λ (o : Option (List ℕ)). governs_among t (about path o)) e
    ∙ ap (λ (o : Option (List ℕ)). governs_among t (about s o)) (sym (no_subject s (subject_plain path s h e)))

pub own_list : (t : List ℕ → Bool) (path : List ℕ) → subject_of path ≡ None → has_list t path ≡ true → effective_among t path ≡ Some (governed path Own)
own_list t path plain own =
    ap (λ (o : Option (List ℕ)). governs_among t (about path o)) plain
    ∙ ap (λ (b : Bool). chosen path b (find (has_list t) (ancestors path))) own

-- ---- every path has one

some_inherited : (o : Option (List ℕ)) → is_some o ≡ true → IsSome (inherited o)
some_inherited None h = absurd (false≢true h)
some_inherited (Some at) h = refl

pub root_found : (p : List ℕ → Bool) (text : List ℕ) → IsPath text → p root ≡ true → p text ≡ false → is_some (find p (ancestors text)) ≡ true
root_found p text h r lacks =
    let whole : text ≡ root ++ drop 1 text = spelled_head text (parts_of text h).characters in
    by_rest (drop 1 text) whole
  where
    by_rest : (rest : List ℕ) → text ≡ root ++ rest → is_some (find p (ancestors text)) ≡ true
    by_rest [] e = absurd (true≢false (sym r ∙ ap p (sym e) ∙ lacks))
    by_rest (c ∷ cs) e =
        let split = split_at text root (record { container = refl; rest = c ∷ cs; whole = e; more = omega arith }) in
        ap (λ (xs : List (List ℕ)). is_some (find p xs)) split.whole ∙ some_hit p root split.before (ancestors root) r

some_governs : (t : List ℕ → Bool) (text : List ℕ) → IsPath text → has_list t root ≡ true → IsSome (governs_among t text)
some_governs t text h r = by_own (has_list t text) refl
  where
    by_own : (b : Bool) → has_list t text ≡ b → IsSome (chosen text b (find (has_list t) (ancestors text)))
    by_own true e = refl
    by_own false e = some_inherited (find (has_list t) (ancestors text)) (root_found (has_list t) text h r e)

pub about_path : (path : List ℕ) → IsPath path → IsPath (about path (subject_of path))
about_path path h = by_subject (subject_of path) refl
  where
    by_subject : (o : Option (List ℕ)) → subject_of path ≡ o → IsPath (about path o)
    by_subject None e = h
    by_subject (Some s) e = subject_path path s h e

pub some_effective : (t : List ℕ → Bool) (path : List ℕ) → IsPath path → has_list t root ≡ true → IsSome (effective_among t path)
some_effective t path h r = some_governs t (about path (subject_of path)) (about_path path h) r

-- ---- one list that comes or goes

beside_one : (t u : List ℕ → Bool) (s : List ℕ) → AgreeBeside t u (s ∷ []) → AgreeBut (has_list t) (has_list u) s
beside_one t u s agree x other = agree x (by_test (bytes_eq s x) refl)
  where
    by_test : (b : Bool) → bytes_eq s x ≡ b → (b || false) ≡ false
    by_test true e = absurd (other ((bytes_eq-Decides s x).0 e))
    by_test false e = refl

at_own : (text : List ℕ) (own : Bool) (o : Option (List ℕ)) (g : Governs) → own ≡ true → chosen text own o ≡ Some g → Some (governed text Own) ≡ Some g
at_own text own o g e h = ap (λ (b : Bool). chosen text b o) (sym e) ∙ h

found_above : (o : Option (List ℕ)) (g : Governs) → inherited o ≡ Some g → (o ≡ Some g.at) × (Some (governed g.at Inherited) ≡ Some g)
found_above None g e = absurd cc
found_above (Some at) g e =
    let same : governed at Inherited ≡ g = cc in
    let place : at ≡ g.at = ap (λ (x : Governs). x.at) same in
    (ap (λ (x : List ℕ). Some x) place, ap (λ (x : List ℕ). Some (governed x Inherited)) (sym place) ∙ e)

inside_other : (a s : List ℕ) → IsInside a s → s ≡ a → ⊥
inside_other a s i e = omega (arith, ap length e, ap length i.whole, i.more, length-append s i.rest)

inside_longer : (a s : List ℕ) → IsInside a s → length s < length a
inside_longer a s i = omega (arith, ap length i.whole, i.more, length-append s i.rest)

-- whether a path governs itself: its own list is there before and after
own_stays : (t u : List ℕ → Bool) (s text : List ℕ) (g : Governs) → AgreeBut (has_list t) (has_list u) s → has_list t text ≡ true → governs_among t text ≡ Some g → (s ≡ g.at → ⊥)
    → governs_among u text ≡ Some g
own_stays t u s text g agree own h other =
    let here : Some (governed text Own) ≡ Some g = at_own text (has_list t text) (find (has_list t) (ancestors text)) g own h in
    let same : governed text Own ≡ g = cc in
    let place : text ≡ g.at = ap (λ (x : Governs). x.at) same in
    ap (λ (b : Bool). chosen text b (find (has_list u) (ancestors text))) (sym (agree text (λ e. other (e ∙ place))) ∙ own) ∙ here

pub nearer_stays : (t u : List ℕ → Bool) (s path : List ℕ) (g : Governs) → AgreeBeside t u (s ∷ []) → effective_among t path ≡ Some g → IsInside g.at s → effective_among u path ≡ Some g
nearer_stays t u s path g agree h inside = by_own (has_list t text) refl
  where
    text : List ℕ
    text = about path (subject_of path)

    by_own : (b : Bool) → has_list t text ≡ b → governs_among u text ≡ Some g
    by_own true e = own_stays t u s text g (beside_one t u s agree) e h (inside_other g.at s inside)
    by_own false e =
        let above = found_above (find (has_list t) (ancestors text)) g (ap (λ (b : Bool). chosen text b (find (has_list t) (ancestors text))) (sym e) ∙ h) in
        let still = nearer_hit (has_list t) (has_list u) text (length text) s g.at (beside_one t u s agree) (inside_longer g.at s inside) (omega arith) above.0 in
        let shorter = shorter_hit (has_list t) text (length text) g.at (omega arith) above.0 in
        let apart : s ≡ text → ⊥ = λ k. omega (arith, shorter, ap length k, inside_longer g.at s inside) in
        ap (λ (b : Bool). chosen text b (find (has_list u) (ancestors text))) (sym (beside_one t u s agree text apart) ∙ e)
        ∙ ap inherited still ∙ above.1

pub other_stays : (t u : List ℕ → Bool) (s path : List ℕ) (g : Governs) → AgreeBeside t u (s ∷ []) → has_list u s ≡ false → effective_among t path ≡ Some g → (g.at ≡ s → ⊥) → effective_among u path ≡ Some g
other_stays t u s path g agree lacks h other = by_own (has_list t text) refl
  where
    text : List ℕ
    text = about path (subject_of path)

    still_no : has_list t text ≡ false → has_list u text ≡ false
    still_no e = by_equal (bytes_eq s text) refl
      where
        by_equal : (b : Bool) → bytes_eq s text ≡ b → has_list u text ≡ false
        by_equal true k = subst (λ (x : List ℕ). has_list u x ≡ false) ((bytes_eq-Decides s text).0 k) lacks
        by_equal false k = sym (beside_one t u s agree text (λ same. true≢false (sym ((bytes_eq-Decides s text).1 same) ∙ k))) ∙ e

    by_own : (b : Bool) → has_list t text ≡ b → governs_among u text ≡ Some g
    by_own true e = own_stays t u s text g (beside_one t u s agree) e h (λ k. other (sym k))
    by_own false e =
        let above = found_above (find (has_list t) (ancestors text)) g (ap (λ (b : Bool). chosen text b (find (has_list t) (ancestors text))) (sym e) ∙ h) in
        let still = other_hit (has_list t) (has_list u) s g.at (ancestors text) (beside_one t u s agree) lacks other above.0 in
        ap (λ (b : Bool). chosen text b (find (has_list u) (ancestors text))) (still_no e) ∙ ap inherited still ∙ above.1

chosen_handed : (s text : List ℕ) (own below : Bool) (o : Option (List ℕ)) → own ≡ false → below ≡ false → chosen text below o ≡ handed_down (chosen s own o)
chosen_handed s text own below o e k =
    ap (λ (b : Bool). chosen text b o) k ∙ sym (handed_inherited o) ∙ ap (λ (b : Bool). handed_down (chosen s b o)) (sym e)

pub lost_list : (t u : List ℕ → Bool) (s path : List ℕ) (g : Governs) → AgreeBeside t u (s ∷ []) → has_list u s ≡ false → effective_among t path ≡ Some g → g.at ≡ s
    → effective_among u path ≡ handed_down (governs_among u s)
lost_list t u s path g agree lacks h place = by_own (has_list t text) refl
  where
    text : List ℕ
    text = about path (subject_of path)

    by_own : (b : Bool) → has_list t text ≡ b → governs_among u text ≡ handed_down (governs_among u s)
    by_own true e =
        let here : Some (governed text Own) ≡ Some g = at_own text (has_list t text) (find (has_list t) (ancestors text)) g e h in
        let same : governed text Own ≡ g = cc in
        let is : text ≡ s = ap (λ (x : Governs). x.at) same ∙ place in
        ap (governs_among u) is ∙ chosen_handed s s (has_list u s) (has_list u s) (find (has_list u) (ancestors s)) lacks lacks
    by_own false e =
        let above = found_above (find (has_list t) (ancestors text)) g (ap (λ (b : Bool). chosen text b (find (has_list t) (ancestors text))) (sym e) ∙ h) in
        let hit : find (has_list t) (ancestors text) ≡ Some s = above.0 ∙ ap (λ (x : List ℕ). Some x) place in
        let inside = inside_hit (has_list t) text (length text) s (omega arith) hit in
        let split = split_at text s inside in
        let lost = lost_hit (has_list t) (has_list u) s split.before (ancestors s) (beside_one t u s agree) lacks split.longer (ap (find (has_list t)) (sym split.whole) ∙ hit) in
        ap (chosen text (has_list u text)) (ap (find (has_list u)) split.whole ∙ lost)
        ∙ chosen_handed s text (has_list u s) (has_list u text) (find (has_list u) (ancestors s)) lacks (sym (beside_one t u s agree text (inside_other text s inside)) ∙ e)

pub new_list : (t u : List ℕ → Bool) (s path : List ℕ) (g : Governs) → AgreeBeside t u (s ∷ []) → has_list u s ≡ true → effective_among t path ≡ Some g → IsInside s g.at → IsInside (about path (subject_of path)) s
    → effective_among u path ≡ Some (governed s Inherited)
new_list t u s path g agree has h below inside = by_own (has_list t text) refl
  where
    text : List ℕ
    text = about path (subject_of path)

    by_own : (b : Bool) → has_list t text ≡ b → governs_among u text ≡ Some (governed s Inherited)
    by_own true e =
        let here : Some (governed text Own) ≡ Some g = at_own text (has_list t text) (find (has_list t) (ancestors text)) g e h in
        let same : governed text Own ≡ g = cc in
        absurd (omega (arith, inside_longer text s inside, inside_longer s g.at below, ap (λ (x : Governs). length x.at) same))
    by_own false e =
        let above = found_above (find (has_list t) (ancestors text)) g (ap (λ (b : Bool). chosen text b (find (has_list t) (ancestors text))) (sym e) ∙ h) in
        let split = split_at text s inside in
        let hit = new_hit (has_list t) (has_list u) s g.at split.before (ancestors s) (beside_one t u s agree) has split.longer (inside_longer s g.at below) (ap (find (has_list t)) (sym split.whole) ∙ above.0) in
        ap (λ (b : Bool). chosen text b (find (has_list u) (ancestors text))) (sym (beside_one t u s agree text (inside_other text s inside)) ∙ e)
        ∙ ap inherited (ap (find (has_list u)) split.whole ∙ hit)
