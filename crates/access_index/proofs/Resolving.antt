-- What a table of access lists resolves for a path is the list in force.
use Rattle.std.proofs.Common.{◌≡◌, ◌<◌, ◌-◌, ℕ, Bool, true, false, cond, List, [], ◌∷◌, take, filter, Option, Some, None, refl, sym, ap, ◌∙◌, option_map, option_copied, Bor}
use Rattle.std.specs.Prelude.{is_none, is_some}
use Rattle.std.specs.List.{find, AllByRecursion}
use Rattle.std.proofs.lemmas.Bool.{false≢true, true≢false}
use Rattle.acl_rules.specs.declared.rule.How.TheVariants.{Own, Inherited}
use Rattle.pod_path.specs.Hierarchy.{root, is_container, subject_of}
use Rattle.pod_path.specs.Norm.{IsPath}
use Rattle.pod_rows.specs.Access.{Governs, governed, inherited, about}
use Rattle.pod_rows.specs.Tree.{ancestors, beginnings}
use Rattle.pod_rows.proofs.Lookups.{one_shorter}
use Rattle.access_index.specs.Governing.{has_list, governs_among, IsEffective}
use Rattle.access_index.specs.Index.{AreListsOf, HandsDown}
use Rattle.access_index.specs.Listing.{is_listed}
use Rattle.access_index.specs.Tables.{keys, entry_at, or_else, first_entry, container_entry, own_or_above, governing, resolve, resolved_at}
use Rattle.access_index.specs.declared.resolved_list.Resolved.{Resolved}
use Rattle.access_index.specs.declared.path_table.Entry.{Entry}
use Rattle.access_index.proofs.Governance.{chosen, root_found, about_path}
use Rattle.access_index.proofs.OrderedTables.{entry_listed, all_at}

-- ---- the loop over the containers that a text begins with

pub entry_step : (lists : List Entry) (path : List ℕ) (n : ℕ) → 0 < n
    → first_entry lists (filter is_container (beginnings path n)) ≡ or_else (container_entry lists (take (n - 1) path)) (first_entry lists (filter is_container (beginnings path (n - 1))))
entry_step lists path n h =
    ap (λ ps. first_entry lists (filter is_container ps)) (one_shorter path n h) ∙ by_kind (is_container (take (n - 1) path))
  where
    by_kind : (b : Bool) → first_entry lists (cond b (take (n - 1) path ∷ filter is_container (beginnings path (n - 1))) (filter is_container (beginnings path (n - 1))))
        ≡ or_else (cond b (entry_at lists (take (n - 1) path)) None) (first_entry lists (filter is_container (beginnings path (n - 1))))
    by_kind true = refl
    by_kind false = refl

pub none_of : (o : Option (Bor Entry)) (p : Option Entry) → option_copied o ≡ p → is_some o ≡ false → p ≡ None
none_of None p e h = sym e
none_of (Some l) p e h = absurd (true≢false h)

-- ---- the first list of some paths

pub first_place : (t : List ℕ → Bool) (lists : List Entry) → ((q : List ℕ) → is_listed (keys lists) q ≡ t q) → AllByRecursion HandsDown lists → (paths : List (List ℕ)) → option_map (λ (l : Entry). l.path) (first_entry lists paths) ≡ find t paths
first_place t lists same down [] = refl
first_place t lists same down (p ∷ ps) = by_entry (entry_at lists p) refl (first_place t lists same down ps)
  where
    by_entry : (o : Option Entry) → entry_at lists p ≡ o → option_map (λ (l : Entry). l.path) (first_entry lists ps) ≡ find t ps → option_map (λ (l : Entry). l.path) (or_else o (first_entry lists ps)) ≡ cond (t p) (Some p) (find t ps)
    by_entry None e more = more ∙ sym (ap (λ (b : Bool). cond b (Some p) (find t ps)) (sym (same p) ∙ sym (entry_listed lists p) ∙ ap is_some e))
    by_entry (Some l) e more =
        ap (λ (x : List ℕ). Some x) (all_at HandsDown lists p l down e).1
        ∙ sym (ap (λ (b : Bool). cond b (Some p) (find t ps)) (sym (same p) ∙ sym (entry_listed lists p) ∙ ap is_some e))

pub first_down : (lists : List Entry) → AllByRecursion HandsDown lists → (paths : List (List ℕ)) (l : Entry) → first_entry lists paths ≡ Some l → HandsDown l
first_down lists down [] l h = absurd cc
first_down lists down (p ∷ ps) l h = by_entry (entry_at lists p) refl h (λ k. first_down lists down ps l k)
  where
    by_entry : (o : Option Entry) → entry_at lists p ≡ o → or_else o (first_entry lists ps) ≡ Some l → (first_entry lists ps ≡ Some l → HandsDown l) → HandsDown l
    by_entry None e k more = more k
    by_entry (Some m) e k more = (all_at HandsDown lists p l down (e ∙ k)).0

-- ---- what is resolved

abbrev as_governs : Resolved → Governs
as_governs r = governed r.at r.how

governing_is : (t : List ℕ → Bool) (lists : List Entry) → AreListsOf t lists → (text : List ℕ) (r : Resolved) → governing lists text ≡ Some r → governs_among t text ≡ Some (as_governs r)
governing_is t lists h text r e = by_own (entry_at lists text) refl e
  where
    own_is : (o : Option Entry) → entry_at lists text ≡ o → has_list t text ≡ is_some o
    own_is o k = sym (h.subjects text) ∙ sym (entry_listed lists text) ∙ ap is_some k

    by_above : (o : Option Entry) → first_entry lists (ancestors text) ≡ o → own_or_above None o ≡ Some r → inherited (find (has_list t) (ancestors text)) ≡ Some (as_governs r)
    by_above None k g = absurd cc
    by_above (Some l) k g =
        let same : l.resolved ≡ r = cc in
        let down : l.resolved ≡ resolved_at l.path Inherited = first_down lists h.inherited (ancestors text) l k in
        ap inherited (sym (first_place (has_list t) lists h.subjects h.inherited (ancestors text)) ∙ ap (option_map (λ (x : Entry). x.path)) k)
        ∙ ap (λ (x : Resolved). Some (as_governs x)) (sym down ∙ same)

    by_own : (o : Option Entry) → entry_at lists text ≡ o → own_or_above o (first_entry lists (ancestors text)) ≡ Some r → governs_among t text ≡ Some (as_governs r)
    by_own (Some l) k g =
        let same : resolved_at l.path Own ≡ r = cc in
        ap (λ (b : Bool). chosen text b (find (has_list t) (ancestors text))) (own_is (Some l) k)
        ∙ ap (λ (x : List ℕ). Some (governed x Own)) (sym (all_at HandsDown lists text l h.inherited k).1)
        ∙ ap (λ (x : Resolved). Some (as_governs x)) same
    by_own None k g =
        ap (λ (b : Bool). chosen text b (find (has_list t) (ancestors text))) (own_is None k)
        ∙ by_above (first_entry lists (ancestors text)) refl g

pub resolve_is : (t : List ℕ → Bool) (lists : List Entry) → AreListsOf t lists → (path : List ℕ) (r : Resolved) → resolve lists path ≡ Some r → IsEffective t path r
resolve_is t lists h path r e = governing_is t lists h (about path (subject_of path)) r e

-- ---- something is always resolved

some_first : (lists : List Entry) (paths : List (List ℕ)) → is_some (first_entry lists paths) ≡ is_some (find (is_listed (keys lists)) paths)
some_first lists [] = refl
some_first lists (p ∷ ps) = by_entry (entry_at lists p) (entry_listed lists p) (some_first lists ps)
  where
    by_test : (b : Bool) → true ≡ b → true ≡ is_some (cond b (Some p) (find (is_listed (keys lists)) ps))
    by_test true e = refl
    by_test false e = absurd (true≢false e)

    by_entry : (o : Option Entry) → is_some o ≡ is_listed (keys lists) p → is_some (first_entry lists ps) ≡ is_some (find (is_listed (keys lists)) ps)
        → is_some (or_else o (first_entry lists ps)) ≡ is_some (cond (is_listed (keys lists) p) (Some p) (find (is_listed (keys lists)) ps))
    by_entry None e more = more ∙ ap (λ (b : Bool). is_some (cond b (Some p) (find (is_listed (keys lists)) ps))) e
    by_entry (Some l) e more = by_test (is_listed (keys lists) p) e

pub never_none : (lists : List Entry) (text : List ℕ) → IsPath text → is_listed (keys lists) root ≡ true → entry_at lists text ≡ None → first_entry lists (ancestors text) ≡ None → ⊥
never_none lists text h r own above =
    false≢true (sym (ap is_some above) ∙ some_first lists (ancestors text) ∙ root_found (is_listed (keys lists)) text h r (sym (entry_listed lists text) ∙ ap is_some own))

none_below : (lists : List Entry) (text : List ℕ) → IsPath text → is_listed (keys lists) root ≡ true → governing lists text ≡ None → ⊥
none_below lists text h r e = by_own (entry_at lists text) (first_entry lists (ancestors text)) refl refl e
  where
    by_own : (o a : Option Entry) → entry_at lists text ≡ o → first_entry lists (ancestors text) ≡ a → own_or_above o a ≡ None → ⊥
    by_own (Some l) a ko ka g = absurd cc
    by_own None None ko ka g = never_none lists text h r ko ka
    by_own None (Some l) ko ka g = absurd cc

pub always_resolved : (lists : List Entry) (path : List ℕ) → IsPath path → is_listed (keys lists) root ≡ true → resolve lists path ≡ None → ⊥
always_resolved lists path h r e = none_below lists (about path (subject_of path)) (about_path path h) r e

pub none_if : (o : Option (Bor Entry)) (p : Option Entry) → option_copied o ≡ p → is_none o ≡ true → p ≡ None
none_if None p e h = sym e
none_if (Some l) p e h = absurd (false≢true h)

pub some_if : (o : Option (Bor Entry)) (p : Option Entry) → option_copied o ≡ p → is_none o ≡ false → is_some p ≡ true
some_if None p e h = absurd (true≢false h)
some_if (Some l) p e h = sym (ap is_some e)
