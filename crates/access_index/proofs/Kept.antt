-- The tables of an index after paths are added and removed.
use Rattle.std.proofs.Common.{◌≡◌, ◌+◌, ◌<◌, get_or, ◌&&◌, ◌||◌, ℕ, Bool, true, false, not, cond, List, [], ◌∷◌, ◌++◌, length, take, map, Option, Some, None, refl, sym, ap, ◌∙◌, subst}
use Rattle.std.specs.Prelude.{IsTrue, is_some, bytes_eq, codes}
use Rattle.std.specs.List.{AllByRecursion, cons_option, list_any}
use Rattle.std.proofs.lemmas.Bool.{true≢false, or_parts, false_from_ne_true}
use Rattle.std.proofs.lemmas.List.{take_more}
use Rattle.std.proofs.lemmas.Slice.Eq.{bytes_eq-Decides}
use Rattle.acl_rules.specs.declared.rule.How.TheVariants.{Inherited}
use Rattle.pod_path.specs.Hierarchy.{root, is_acl, subject_of, without_end}
use Rattle.pod_path.specs.Norm.{IsPath}
use Rattle.pod_path.proofs.Names.{ends_is, ends_append, without_append}
use Rattle.pod_rows.specs.Access.{about, list_path}
use Rattle.access_index.specs.Governing.{has_list}
use Rattle.access_index.specs.Index.{AreListsOf, AreTables, HandsDown, IsIndex, IsResolved}
use Rattle.access_index.specs.Listing.{AreOrdered, is_listed, is_listed_after, IsListOf}
use Rattle.access_index.specs.Reach.{AgreeBeside, is_reached, is_within}
use Rattle.access_index.specs.Tables.{keys, AreInOrder, entry_at, entry_of, resolved_at, without_all, list_subjects, resolve, add_found, add_lists, add_paths, resolved_or, refreshed, lists_after, entries_after}
use Rattle.access_index.specs.declared.resolved_list.Resolved.{Resolved}
use Rattle.access_index.specs.declared.path_table.Entry.{Entry}
use Rattle.access_index.proofs.Governance.{same_effective, unreached}
use Rattle.access_index.proofs.OrderedTables.{order_nil, order_placed, order_without_all, entry_listed, listed_placed, listed_without_all, all_placed, all_without_all}
use Rattle.access_index.proofs.Resolving.{resolve_is, always_resolved}

-- ---- the subjects of the access lists among paths

subject_listed : (path q : List ℕ) (more : List (List ℕ)) (b : Bool) → is_acl path ≡ b → is_listed (cons_option (cond b (Some (without_end 4 path)) None) more) q ≡ (bytes_eq path (list_path q) || is_listed more q)
subject_listed path q more true e =
    let whole : path ≡ without_end 4 path ++ codes ".acl" = ends_is path (codes ".acl") e in
    ap (λ (b : Bool). b || is_listed more q) (by_equal (bytes_eq (without_end 4 path) q) refl (bytes_eq path (list_path q)) refl whole)
  where
    by_equal : (a : Bool) → bytes_eq (without_end 4 path) q ≡ a → (b : Bool) → bytes_eq path (list_path q) ≡ b → path ≡ without_end 4 path ++ codes ".acl" → a ≡ b
    by_equal true ka true kb whole = refl
    by_equal false ka false kb whole = refl
    by_equal true ka false kb whole =
        absurd (true≢false (sym ((bytes_eq-Decides path (list_path q)).1 (whole ∙ ap (λ (x : List ℕ). x ++ codes ".acl") ((bytes_eq-Decides (without_end 4 path) q).0 ka))) ∙ kb))
    by_equal false ka true kb whole =
        absurd (true≢false (sym ((bytes_eq-Decides (without_end 4 path) q).1 (ap (without_end 4) ((bytes_eq-Decides path (list_path q)).0 kb) ∙ without_append q (codes ".acl"))) ∙ ka))
subject_listed path q more false e =
    sym (ap (λ (b : Bool). b || is_listed more q) (false_from_ne_true (bytes_eq path (list_path q)) (λ k. true≢false (sym (ap is_acl ((bytes_eq-Decides path (list_path q)).0 k) ∙ ends_append q (codes ".acl")) ∙ e))))

pub subjects_listed : (paths : List (List ℕ)) (q : List ℕ) → is_listed (list_subjects paths) q ≡ is_listed paths (list_path q)
subjects_listed [] q = refl
subjects_listed (p ∷ ps) q =
    subject_listed p q (list_subjects ps) (is_acl p) refl ∙ ap (λ (b : Bool). bytes_eq p (list_path q) || b) (subjects_listed ps q)

-- ---- the table of the access lists

or_middle : (a b c : Bool) → (c || (a || b)) ≡ ((a || c) || b)
or_middle true b true = refl
or_middle true b false = refl
or_middle false b true = refl
or_middle false b false = refl

absorbed : (a b : Bool) → b ≡ true → b ≡ (a || b)
absorbed true b h = h
absorbed false b h = refl

record Grown (es : List Entry) (path : List ℕ) (new : List Entry) : Type 0 where
  order : AreInOrder new
  listed : (q : List ℕ) → is_listed (keys new) q ≡ (bytes_eq path q || is_listed (keys es) q)

grown : (es : List Entry) (path : List ℕ) (r : Option Resolved) → AreInOrder es → (r ≡ None → ⊥) → Grown es path (add_found es path (entry_at es path) r)
grown es path r o some = by_found (entry_at es path) r refl some
  where
    there : (q : List ℕ) → is_some (entry_at es path) ≡ true → is_listed (keys es) q ≡ (bytes_eq path q || is_listed (keys es) q)
    there q h = by_equal (bytes_eq path q) refl
      where
        by_equal : (b : Bool) → bytes_eq path q ≡ b → is_listed (keys es) q ≡ (b || is_listed (keys es) q)
        by_equal true k = ap (is_listed (keys es)) (sym ((bytes_eq-Decides path q).0 k)) ∙ sym (entry_listed es path) ∙ h
        by_equal false k = refl

    by_found : (f : Option Entry) (s : Option Resolved) → entry_at es path ≡ f → (s ≡ None → ⊥) → Grown es path (add_found es path f s)
    by_found (Some e) s k n = record { order = o; listed = λ q. there q (ap is_some k) }
    by_found None None k n = absurd (n refl)
    by_found None (Some x) k n = record { order = order_placed (entry_of path x) es o k; listed = λ q. listed_placed (entry_of path x) es q }

pub order_found : (es : List Entry) (path : List ℕ) (r : Resolved) → AreInOrder es → AreInOrder (add_found es path (entry_at es path) (Some r))
order_found es path r o = (grown es path (Some r) o (λ e. absurd cc)).order

pub order_lists : (lists : List Entry) (subjects : List (List ℕ)) → AreInOrder lists → AreInOrder (add_lists lists subjects)
order_lists lists [] o = o
order_lists lists (s ∷ ss) o = order_lists (add_found lists s (entry_at lists s) (Some (resolved_at s Inherited))) ss (order_found lists s (resolved_at s Inherited) o)

listed_lists : (lists : List Entry) (subjects : List (List ℕ)) (q : List ℕ) → AreInOrder lists → is_listed (keys (add_lists lists subjects)) q ≡ (is_listed subjects q || is_listed (keys lists) q)
listed_lists lists [] q o = refl
listed_lists lists (s ∷ ss) q o =
    let g = grown lists s (Some (resolved_at s Inherited)) o (λ e. absurd cc) in
    listed_lists (add_found lists s (entry_at lists s) (Some (resolved_at s Inherited))) ss q g.order
    ∙ ap (λ (b : Bool). is_listed ss q || b) (g.listed q)
    ∙ or_middle (bytes_eq s q) (is_listed (keys lists) q) (is_listed ss q)

order_some : (es : List Entry) (path : List ℕ) (f : Option Entry) (r : Option Resolved) → entry_at es path ≡ f → AreInOrder es → AreInOrder (add_found es path f r)
order_some es path (Some e) r k o = o
order_some es path None None k o = o
order_some es path None (Some x) k o = order_placed (entry_of path x) es o k

pub order_added : (lists es : List Entry) (path : List ℕ) → AreInOrder es → AreInOrder (add_paths lists es (path ∷ []))
order_added lists es path o = order_some es path (entry_at es path) (resolve lists path) refl o

all_push : (P : List ℕ → Type 0) (xs : List (List ℕ)) (x : List ℕ) → AllByRecursion P xs → P x → AllByRecursion P (xs ++ x ∷ [])
all_push P [] x h p = (p, tt)
all_push P (y ∷ ys) x h p = (h.0, all_push P ys x h.1 p)

pub paths_more : (xs : List (List ℕ)) (i : ℕ) (x : List ℕ) → i < length xs → x ≡ get_or xs i x → IsPath x → AllByRecursion IsPath (take i xs) → AllByRecursion IsPath (take (i + 1) xs)
paths_more xs i x lt e p h =
    subst (AllByRecursion IsPath) (sym (take_more xs i x lt ∙ ap (λ (y : List ℕ). take i xs ++ y ∷ []) (sym e))) (all_push IsPath (take i xs) x h p)

all_found : (P : Entry → Type 0) (es : List Entry) (path : List ℕ) (f : Option Entry) (r : Option Resolved) → AllByRecursion P es → ((x : Resolved) → r ≡ Some x → P (entry_of path x)) → AllByRecursion P (add_found es path f r)
all_found P es path (Some e) r h new = h
all_found P es path None None h new = h
all_found P es path None (Some x) h new = all_placed P (entry_of path x) es (new x refl) h

down_lists : (lists : List Entry) (subjects : List (List ℕ)) → AllByRecursion HandsDown lists → AllByRecursion HandsDown (add_lists lists subjects)
down_lists lists [] h = h
down_lists lists (s ∷ ss) h =
    down_lists (add_found lists s (entry_at lists s) (Some (resolved_at s Inherited))) ss
    (all_found HandsDown lists s (entry_at lists s) (Some (resolved_at s Inherited)) h (λ x e. (let same : resolved_at s Inherited ≡ x = cc in sym same)))

pub lists_kept : (lists : List Entry) (paths added removed : List (List ℕ)) → AreListsOf (is_listed paths) lists → AreListsOf (is_listed_after paths added removed) (lists_after lists added removed)
lists_kept lists paths added removed h =
    let kept = without_all lists (list_subjects removed) in
    let order = order_without_all lists (list_subjects removed) h.order in
    record {
      order = order_lists kept (list_subjects added) order;
      subjects =
          λ q. listed_lists kept (list_subjects added) q order
          ∙ ap (λ (b : Bool). b || is_listed (keys kept) q) (subjects_listed added q)
          ∙ ap (λ (b : Bool). is_listed added (list_path q) || b)
          (listed_without_all lists (list_subjects removed) q
          ∙ ap (λ (b : Bool). b && not (is_listed (list_subjects removed) q)) (h.subjects q)
          ∙ ap (λ (b : Bool). is_listed paths (list_path q) && not b) (subjects_listed removed q));
      inherited = down_lists kept (list_subjects added) (all_without_all HandsDown lists (list_subjects removed) h.inherited);
    }

-- ---- the entries

keys_refreshed : (lists : List Entry) (gone new : List (List ℕ)) (es : List Entry) → keys (map (refreshed lists gone new) es) ≡ keys es
keys_refreshed lists gone new [] = refl
keys_refreshed lists gone new (e ∷ es) =
    ap (λ (xs : List (List ℕ)). (refreshed lists gone new e).path ∷ xs) (keys_refreshed lists gone new es)
    ∙ ap (λ (x : List ℕ). x ∷ keys es) (by_test (is_reached gone e.path || is_reached new e.path))
  where
    by_test : (b : Bool) → (cond b (entry_of e.path (resolved_or e.resolved (resolve lists e.path))) e).path ≡ e.path
    by_test true = refl
    by_test false = refl

any_append : (f : List ℕ → Bool) (xs ys : List (List ℕ)) → list_any f (xs ++ ys) ≡ (list_any f xs || list_any f ys)
any_append f [] ys = refl
any_append f (x ∷ xs) ys = ap (λ (b : Bool). f x || b) (any_append f xs ys) ∙ or_assoc (f x) (list_any f xs) (list_any f ys)
  where
    or_assoc : (a b c : Bool) → (a || (b || c)) ≡ ((a || b) || c)
    or_assoc true b c = refl
    or_assoc false b c = refl

-- the same paths have lists before and after, but for the subjects of the lists that come and go
agree_beside : (paths added removed : List (List ℕ)) → AgreeBeside (is_listed paths) (is_listed_after paths added removed) (list_subjects removed ++ list_subjects added)
agree_beside paths added removed q h =
    let parts = or_parts (is_listed (list_subjects removed) q) (is_listed (list_subjects added) q) (sym (any_append (λ (x : List ℕ). bytes_eq x q) (list_subjects removed) (list_subjects added)) ∙ h) in
    stays (is_listed added (list_path q)) (is_listed removed (list_path q)) (is_listed paths (list_path q))
    (sym (subjects_listed added q) ∙ parts.1) (sym (subjects_listed removed q) ∙ parts.0)
  where
    stays : (a r l : Bool) → a ≡ false → r ≡ false → l ≡ (a || (l && not r))
    stays true r l ea er = absurd (true≢false ea)
    stays false true l ea er = absurd (true≢false er)
    stays false false true ea er = refl
    stays false false false ea er = refl

-- what is known of the lists after
record Lists (u : List ℕ → Bool) (lists : List Entry) : Type 0 where
  are : AreListsOf u lists
  root : is_listed (keys lists) root ≡ true

resolves : (u : List ℕ → Bool) (lists : List Entry) → Lists u lists → (path : List ℕ) → IsPath path → resolve lists path ≡ None → ⊥
resolves u lists l path h = always_resolved lists path h l.root

refreshed_one : (t u : List ℕ → Bool) (lists : List Entry) (gone new : List (List ℕ)) → Lists u lists → AgreeBeside t u (gone ++ new) → (e : Entry) → IsPath e.path → IsResolved t e
    → IsResolved u (refreshed lists gone new e)
refreshed_one t u lists gone new l agree e h r = by_test (is_reached gone e.path || is_reached new e.path) refl
  where
    anew : (o : Option Resolved) → resolve lists e.path ≡ o → IsResolved u (entry_of e.path (resolved_or e.resolved o))
    anew None k = absurd (resolves u lists l e.path h k)
    anew (Some x) k = resolve_is u lists l.are e.path x k

    by_test : (b : Bool) → (is_reached gone e.path || is_reached new e.path) ≡ b → IsResolved u (cond b (entry_of e.path (resolved_or e.resolved (resolve lists e.path))) e)
    by_test true k = anew (resolve lists e.path) refl
    by_test false k =
        sym (unreached t u (gone ++ new) e.path agree (any_append (λ (s : List ℕ). is_within (about e.path (subject_of e.path)) s) gone new ∙ k)) ∙ r

refreshed_all : (t u : List ℕ → Bool) (lists : List Entry) (gone new : List (List ℕ)) → Lists u lists → AgreeBeside t u (gone ++ new) → (es : List Entry) → AllByRecursion IsPath (keys es) → AllByRecursion (IsResolved t) es
    → AllByRecursion (IsResolved u) (map (refreshed lists gone new) es)
refreshed_all t u lists gone new l agree [] h r = tt
refreshed_all t u lists gone new l agree (e ∷ es) h r = (refreshed_one t u lists gone new l agree e h.0 r.0, refreshed_all t u lists gone new l agree es h.1 r.1)

record Added (u : List ℕ → Bool) (es : List Entry) (ps : List (List ℕ)) (all : List Entry) : Type 0 where
  order : AreInOrder all
  listed : (q : List ℕ) → is_listed (keys all) q ≡ (is_listed ps q || is_listed (keys es) q)
  resolved : AllByRecursion (IsResolved u) all
  paths : AllByRecursion IsPath (keys all)

to_entries : (es : List Entry) → AllByRecursion IsPath (keys es) → AllByRecursion (λ (e : Entry). IsPath e.path) es
to_entries [] h = tt
to_entries (e ∷ es) h = (h.0, to_entries es h.1)

to_keys : (es : List Entry) → AllByRecursion (λ (e : Entry). IsPath e.path) es → AllByRecursion IsPath (keys es)
to_keys [] h = tt
to_keys (e ∷ es) h = (h.0, to_keys es h.1)

added_all : (u : List ℕ → Bool) (lists : List Entry) → Lists u lists → (es : List Entry) (ps : List (List ℕ)) → AllByRecursion IsPath ps → AreInOrder es → AllByRecursion (IsResolved u) es → AllByRecursion IsPath (keys es)
    → Added u es ps (add_paths lists es ps)
added_all u lists l es [] h o r k = record { order = o; listed = λ q. refl; resolved = r; paths = k }
added_all u lists l es (p ∷ ps) h o r k =
    let g = grown es p (resolve lists p) o (resolves u lists l p h.0) in
    let next = add_found es p (entry_at es p) (resolve lists p) in
    let more = added_all u lists l next ps h.1 g.order
    (all_found (IsResolved u) es p (entry_at es p) (resolve lists p) r (λ x e. resolve_is u lists l.are p x e))
    (to_keys next (all_found (λ (e : Entry). IsPath e.path) es p (entry_at es p) (resolve lists p) (to_entries es k) (λ x e. h.0))) in
    record {
      order = more.order;
      listed =
          λ q. more.listed q ∙ ap (λ (b : Bool). is_listed ps q || b) (g.listed q)
          ∙ or_middle (bytes_eq p q) (is_listed (keys es) q) (is_listed ps q);
      resolved = more.resolved;
      paths = more.paths;
    }

same_resolved : (t u : List ℕ → Bool) → ((q : List ℕ) → t q ≡ u q) → (es : List Entry) → AllByRecursion (IsResolved t) es → AllByRecursion (IsResolved u) es
same_resolved t u same [] h = tt
same_resolved t u same (e ∷ es) h = (sym (same_effective t u e.path (λ q. same (list_path q))) ∙ h.0, same_resolved t u same es h.1)

pub root_after : (lists : List Entry) (paths added removed : List (List ℕ)) → AreListsOf (is_listed paths) lists → IsTrue (has_list (is_listed_after paths added removed) root)
    → IsTrue (is_listed (keys (lists_after lists added removed)) root)
root_after lists paths added removed h r = (lists_kept lists paths added removed h).subjects root ∙ r

pub record Changed (paths added removed : List (List ℕ)) (entries lists : List Entry) : Type 0 where
  pub index : IsIndex entries lists
  pub list : IsListOf (is_listed_after paths added removed) (keys entries)

pub index_changed : (entries lists : List Entry) (added removed : List (List ℕ)) → AreTables entries lists → AllByRecursion IsPath added → IsTrue (has_list (is_listed_after (keys entries) added removed) root)
    → Changed (keys entries) added removed (entries_after (lists_after lists added removed) entries added removed) (lists_after lists added removed)
index_changed entries lists added removed h paths r =
    let old = keys entries in
    let u = is_listed_after old added removed in
    let new = lists_after lists added removed in
    let are = lists_kept lists old added removed h.are_lists in
    let l : Lists u new = record { are = are; root = root_after lists old added removed h.are_lists r } in
    let fresh = map (refreshed new (list_subjects removed) (list_subjects added)) entries in
    let same : keys fresh ≡ old = keys_refreshed new (list_subjects removed) (list_subjects added) entries in
    let left = without_all fresh removed in
    let all = added_all u new l left added paths
    (order_without_all fresh removed (subst AreOrdered (sym same) h.order))
    (all_without_all (IsResolved u) fresh removed (refreshed_all (is_listed old) u new (list_subjects removed) (list_subjects added) l (agree_beside old added removed) entries h.paths h.resolved))
    (to_keys left (all_without_all (λ (e : Entry). IsPath e.path) fresh removed (to_entries fresh (subst (AllByRecursion IsPath) (sym same) h.paths)))) in
    let listed : (q : List ℕ) → is_listed (keys (add_paths new left added)) q ≡ u q =
    λ q. all.listed q
    ∙ ap (λ (b : Bool). is_listed added q || b)
    (listed_without_all fresh removed q ∙ ap (λ (xs : List (List ℕ)). is_listed xs q && not (is_listed removed q)) same) in
    record {
      index = record {
        tables = record {
          order = all.order;
          are_lists = record { order = are.order; subjects = λ q. are.subjects q ∙ sym (listed (list_path q)); inherited = are.inherited };
          resolved = same_resolved u (is_listed (keys (add_paths new left added))) (λ q. sym (listed q)) (add_paths new left added) all.resolved;
          paths = all.paths;
        };
        root = listed (list_path root) ∙ r;
      };
      list = record { order = all.order; listed = listed };
    }

-- ---- what the steps of a change need

pub no_tables : AreTables [] []
no_tables = record { order = order_nil; are_lists = record { order = order_nil; subjects = λ q. refl; inherited = tt }; resolved = tt; paths = tt }

pub order_after : (lists : List Entry) (added removed : List (List ℕ)) → AreInOrder lists → AreInOrder (lists_after lists added removed)
order_after lists added removed o = order_lists (without_all lists (list_subjects removed)) (list_subjects added) (order_without_all lists (list_subjects removed) o)

pub order_refreshed : (lists : List Entry) (gone new : List (List ℕ)) (es : List Entry) → AreInOrder es → AreInOrder (map (refreshed lists gone new) es)
order_refreshed lists gone new es o = subst AreOrdered (sym (keys_refreshed lists gone new es)) o
