-- What versions have, from what they keep.
use Rattle.std.proofs.Common.{◌≡◌, ◌+◌, ◌-◌, ◌≤◌, ℕ, Bool, true, false, not, cond, ◌&&◌, ◌||◌, List, [], ◌∷◌, ◌++◌, length, take, drop, filter, map, Option, Some, None, refl, sym, ap, ◌∙◌, subst, arith}
use Rattle.std.specs.Prelude.{is_some, nat_le, nat_eq}
use Rattle.std.specs.List.{list_all, starts_with}
use Rattle.std.proofs.lemmas.Bool.{true≢false, false≢true, and_parts}
use Rattle.acl_rules.specs.declared.rule.How.{How}
use Rattle.acl_rules.specs.declared.rule.Rule.{Rule}
use Rattle.acl_rules.specs.declared.rule.Rules.{Rules}
use Rattle.pod_path.specs.Hierarchy.{is_auxiliary, parent_of}
use Rattle.pod_path.specs.Norm.{IsPath, norm}
use Rattle.pod_path.proofs.Ancestors.{parent_front}
use Rattle.pod_path.proofs.NormalPaths.{norm_parts}
use Rattle.pod_command.specs.declared.edit.Edit.{Edit}
use Rattle.pod_command.specs.declared.entry.Entry.{Entry}
use Rattle.pod_command.specs.declared.row.Row.{Row}
use Rattle.pod_command.specs.declared.snapshot.Snapshot.{Snapshot}
use Rattle.pod_rows.specs.Access.{effective_of, governed}
use Rattle.pod_rows.specs.Apply.{Applies, applied, after_edits, with_rows, with_rows_if}
use Rattle.pod_rows.specs.Pod.{Pod}
use Rattle.pod_rows.specs.Tree.{children_of, has_child, is_child_of, is_the_path}
use Rattle.pod_rows.specs.WellFormed.{WellFormed, IsWellFormedSnapshot, pod_of, has_normal_path}
use Rattle.pod_rows.proofs.Tests.{parse_is}
use Rattle.row_pages.specs.Delimited.{is_direct, is_one_part, items_direct}
use Rattle.row_pages.specs.Items.{Placed, begins_with, item_at, items_below, rows_of}
use Rattle.pod_pages.specs.Edited.{AreMarkedBy}
use Rattle.pod_pages.specs.Effects.{effects_of, entry_effects, kept_effects, oldest_after}
use Rattle.pod_pages.specs.FirstChild.{has_direct_child}
use Rattle.pod_pages.specs.Lists.{list_at}
use Rattle.pod_pages.specs.Marks.{how_of, mark, path_mark}
use Rattle.pod_pages.specs.Numbering.{AreReady, AreResolved, IsTree, Places, list_rules}
use Rattle.pod_pages.specs.State.{VersionState, first_state, state_after}
use Rattle.pod_pages.specs.Versions.{IsVersion, state_of, path_of_edit, unmarked}
use Rattle.pod_pages.specs.declared.entry_effects.Effect.{Effect}
use Rattle.pod_pages.specs.declared.list_table.AccessList.{AccessList}
use Rattle.pod_pages.specs.declared.row_marks.Mark.{Mark}
use Rattle.pod_pages.proofs.Children.{one_child}
use Rattle.pod_pages.proofs.EditSteps.{beside_edits, kept_all}
use Rattle.pod_pages.proofs.Placing.{map_filter, row_of}
use Rattle.pod_pages.proofs.Readiness.{ready_after, ready_first}
use Rattle.pod_pages.proofs.Resolution.{resolve, resolved_has, resolved_lists}
use Rattle.pod_pages.proofs.Trees.{tree}
use Rattle.pod_pages.proofs.Walking.{below_all}

-- ---- states with equal parts

abbrev state_with : ℕ → List ℕ → List ℕ → List Row → List Effect → ℕ → VersionState
state_with next base owner rows effects oldest = record {
  pod = record { base = base; owner = owner; rows = rows };
  next = next;
  effects = effects;
  oldest = oldest;
}

pub same_state : (next next' : ℕ) (base base' owner owner' : List ℕ) (rows rows' : List Row) (effects effects' : List Effect) (oldest oldest' : ℕ) → next ≡ next' → base ≡ base' → owner ≡ owner' → rows ≡ rows' → effects ≡ effects' → oldest ≡ oldest'
    → state_with next base owner rows effects oldest ≡ state_with next' base' owner' rows' effects' oldest'
same_state next next' base base' owner owner' rows rows' effects effects' oldest oldest' en eb eo er ee el =
    ap (λ x. state_with x base owner rows effects oldest) en
    ∙ ap (λ x. state_with next' x owner rows effects oldest) eb
    ∙ ap (λ x. state_with next' base' x rows effects oldest) eo
    ∙ ap (λ x. state_with next' base' owner' x effects oldest) er
    ∙ ap (λ x. state_with next' base' owner' rows' x oldest) ee
    ∙ ap (λ x. state_with next' base' owner' rows' effects' x) el

pub kept_shared : (state state' : VersionState) (items items' : List Placed) (places places' : Places) → IsVersion state items places → state' ≡ state → items' ≡ items → places' ≡ places → IsVersion state' items' places'
kept_shared state state' items items' places places' k es ei ep =
    subst (λ s. IsVersion s items' places') (sym es) (subst (λ is. IsVersion state is places') (sym ei) (subst (IsVersion state items) (sym ep) k))

pub all_kept : (effects : List Effect) → kept_effects 0 effects ≡ effects
all_kept [] = refl
all_kept (e ∷ es) = ap (λ b. cond b (e ∷ kept_effects 0 es) (kept_effects 0 es)) (Rattle.std.proofs.lemmas.Bool.le-leb 0 e.seq (omega arith)) ∙ ap (λ (xs : List Effect). e ∷ xs) (all_kept es)

-- ---- which list governs

pub record Access (items : List Placed) (base path at : List ℕ) (how : How) (found : List Rule) : Type 0 where
  pub governs : effective_of (rows_of items) path ≡ Some (governed at how)
  pub rules : found ≡ list_rules base (rows_of items) at

access_list : (base : List ℕ) (items : List Placed) (places : Places) (path : List ℕ) (l : AccessList) (number : ℕ) (is_own : Bool) (at : List ℕ) (rules : Rules) (how : How) → AreResolved base items places → list_at places number ≡ Some l
    → effective_of (rows_of items) path ≡ Some (governed l.at (how_of is_own)) → list_at places number ≡ Some (record { at = at; rules = rules }) → how ≡ how_of is_own → Access items base path at how rules.list
access_list base items places path l number is_own at rules how r found governs lent is_how =
    let both : Some l ≡ Some (record { at = at; rules = rules }) = sym found ∙ lent in
    let one : l ≡ (record { at = at; rules = rules }) = cc in
    record {
      governs = governs ∙ ap (λ (x : AccessList). Some (governed x.at (how_of is_own))) one ∙ ap (λ (h : How). Some (governed at h)) (sym is_how);
      rules = r.rules number (record { at = at; rules = rules }) lent;
    }

pub access_found : (base : List ℕ) (items : List Placed) (places : Places) (path : List ℕ) (i : Placed) (number : ℕ) (is_own : Bool) (at : List ℕ) (rules : Rules) (how : How) → AreResolved base items places → item_at items path ≡ Some i
    → number ≡ i.list → is_own ≡ i.own → list_at places number ≡ Some (record { at = at; rules = rules }) → how ≡ how_of is_own → Access items base path at how rules.list
access_found base items places path i number is_own at rules how r e en eo lent is_how =
    let g = r.governed path i e in
    access_list base items places path g.list number is_own at rules how r (ap (list_at places) en ∙ g.found) (g.governs ∙ ap (λ (b : Bool). Some (governed g.list.at (how_of b))) (sym eo)) lent is_how

pub some_found : (base : List ℕ) (items : List Placed) (places : Places) (path : List ℕ) (i : Placed) (number : ℕ) → AreResolved base items places → item_at items path ≡ Some i → number ≡ i.list → is_some (list_at places number) ≡ true
some_found base items places path i number r e en = ap is_some (ap (list_at places) en ∙ (r.governed path i e).found)

-- a path without a row
walked : (pod : Pod) (items : List Placed) (places : Places) (path : List ℕ) → WellFormed pod → pod.rows ≡ rows_of items → AreResolved pod.base items places → IsPath path → Rattle.pod_pages.proofs.Resolution.Resolved (rows_of items) items path
walked pod items places path w same r h =
    let t : IsTree (rows_of items) = subst IsTree same (tree pod w) in
    resolve (rows_of items) items (resolved_has pod.base items places t r) t.rooted path h

pub access_walked : (pod : Pod) (items : List Placed) (places : Places) (path : List ℕ) (m : Mark) (at : List ℕ) (rules : Rules) (how : How) → WellFormed pod → pod.rows ≡ rows_of items → AreResolved pod.base items places → IsPath path
    → path_mark items path ≡ Some m → list_at places m.list ≡ Some (record { at = at; rules = rules }) → how ≡ how_of m.own → Access items pod.base path at how rules.list
access_walked pod items places path m at rules how w same r h e lent is_how =
    let k = walked pod items places path w same r h in
    let both : Some (mark k.number k.is_own) ≡ Some m = sym k.mark ∙ e in
    let one : mark k.number k.is_own ≡ m = cc in
    let l = resolved_lists pod.base items places r k.at k.number k.plain k.own in
    access_list pod.base items places path l.list m.list m.own at rules how r
    (ap (λ (x : Mark). list_at places x.list) (sym one) ∙ l.found)
    (k.governs ∙ ap (λ (x : List ℕ). Some (governed x (how_of k.is_own))) (sym l.is) ∙ ap (λ (x : Mark). Some (governed l.list.at (how_of x.own))) one)
    lent is_how

pub some_walked : (pod : Pod) (items : List Placed) (places : Places) (path : List ℕ) (m : Mark) → WellFormed pod → pod.rows ≡ rows_of items → AreResolved pod.base items places → IsPath path
    → path_mark items path ≡ Some m → is_some (list_at places m.list) ≡ true
some_walked pod items places path m w same r h e =
    let k = walked pod items places path w same r h in
    let both : Some (mark k.number k.is_own) ≡ Some m = sym k.mark ∙ e in
    let one : mark k.number k.is_own ≡ m = cc in
    ap is_some (ap (λ (x : Mark). list_at places x.list) (sym one) ∙ (resolved_lists pod.base items places r k.at k.number k.plain k.own).found)

pub always_walked : (pod : Pod) (items : List Placed) (places : Places) (path : List ℕ) → WellFormed pod → pod.rows ≡ rows_of items → AreResolved pod.base items places → IsPath path → path_mark items path ≡ None → ⊥
always_walked pod items places path w same r h e =
    let k = walked pod items places path w same r h in
    none_some (mark k.number k.is_own) (sym e ∙ k.mark)
  where
    none_some : (m : Mark) → None ≡ Some m → ⊥
    none_some m z = absurd cc

-- ---- children

all_begin : (paths : List ℕ) → starts_with nat_eq paths [] ≡ true
all_begin paths = refl

pub rows_below_all : (items : List Placed) → rows_of (items_below items []) ≡ rows_of items
rows_below_all items = ap rows_of (below_all items)

parent_is : (container : List ℕ) (o : Option (List ℕ)) → is_the_path container o ≡ true → o ≡ Some container
parent_is container None h = absurd (false≢true h)
parent_is container (Some other) h = ap (λ (x : List ℕ). Some x) ((Rattle.std.proofs.lemmas.Slice.Eq.bytes_eq-Decides other container).0 h)

child_begins : (container : List ℕ) (r : Row) → has_normal_path r ≡ true → is_child_of container r ≡ true → starts_with nat_eq r.path container ≡ true
unfolding has_normal_path
child_begins container r n h =
    let parts = and_parts (not (is_auxiliary r.path)) (is_the_path container (parent_of r.path)) h in
    let front = parent_front r.path container (norm_parts r.path r.path (parse_is (norm r.path) r.path n)).characters (parent_is container (parent_of r.path) parts.1) in
    (Rattle.std.proofs.lemmas.Slice.Eq.bytes_eq-Decides container (take (length container) r.path)).1
    (sym (ap (take (length container)) front.whole ∙ Rattle.std.proofs.lemmas.List.take_at container front.rest (length container) refl))

-- a test that the rows which pass another pass too
twice : (p q : Row → Bool) (rows : List Row) → list_all has_normal_path rows ≡ true → ((r : Row) → has_normal_path r ≡ true → p r ≡ true → q r ≡ true) → filter p (filter q rows) ≡ filter p rows
twice p q [] n f = refl
twice p q (r ∷ rs) n f = by_tests (q r) (p r) refl refl (twice p q rs (and_parts (has_normal_path r) (list_all has_normal_path rs) n).1 f)
  where
    here : has_normal_path r ≡ true
    here = (and_parts (has_normal_path r) (list_all has_normal_path rs) n).0

    by_tests : (a b : Bool) → q r ≡ a → p r ≡ b → filter p (filter q rs) ≡ filter p rs → filter p (cond a (r ∷ filter q rs) (filter q rs)) ≡ cond b (r ∷ filter p rs) (filter p rs)
    by_tests true true ea eb more = ap (λ t. cond t (r ∷ filter p (filter q rs)) (filter p (filter q rs))) eb ∙ ap (λ (xs : List Row). r ∷ xs) more
    by_tests true false ea eb more = ap (λ t. cond t (r ∷ filter p (filter q rs)) (filter p (filter q rs))) eb ∙ more
    by_tests false true ea eb more = absurd (true≢false (sym (f r here eb) ∙ ea))
    by_tests false false ea eb more = more

child_direct : (container : List ℕ) (r : Row) → has_normal_path r ≡ true → is_child_of container r ≡ true → is_direct container r.path ≡ true
child_direct container r n h =
    let parts = and_parts (not (is_auxiliary r.path)) (is_the_path container (parent_of r.path)) h in
    ap (λ b. b && is_one_part (drop (length container) r.path)) (child_begins container r n h) ∙ one_child r.path container (parent_is container (parent_of r.path) parts.1)

pub children_direct : (pod : Pod) (items : List Placed) (container : List ℕ) → WellFormed pod → pod.rows ≡ rows_of items
    → map (λ (i : Placed). i.row.path) (filter (λ (i : Placed). is_child_of container i.row) (items_direct items container)) ≡ children_of pod.rows container
children_direct pod items container w same =
    paths_of (filter (λ (i : Placed). is_child_of container i.row) (items_direct items container))
    ∙ ap (map (λ (r : Row). r.path)) (map_filter row_of (is_child_of container) (items_direct items container))
    ∙ ap (λ (rs : List Row). map (λ (r : Row). r.path) (filter (is_child_of container) rs))
    (map_filter row_of (λ (r : Row). is_direct container r.path) items ∙ ap (filter (λ (r : Row). is_direct container r.path)) (sym same))
    ∙ ap (map (λ (r : Row). r.path)) (twice (is_child_of container) (λ (r : Row). is_direct container r.path) pod.rows w.paths (child_direct container))
  where
    paths_of : (xs : List Placed) → map (λ (i : Placed). i.row.path) xs ≡ map (λ (r : Row). r.path) (rows_of xs)
    paths_of [] = refl
    paths_of (x ∷ xs) = ap (λ (ps : List (List ℕ)). x.row.path ∷ ps) (paths_of xs)

pub direct_child : (pod : Pod) (items : List Placed) (container : List ℕ) → WellFormed pod → pod.rows ≡ rows_of items → has_direct_child items container ≡ has_child pod.rows container
direct_child pod items container w same =
    in_items items (subst (λ rs. list_all has_normal_path rs ≡ true) same w.paths) ∙ ap (λ rs. has_child rs container) (sym same)
  where
    and_false : (b : Bool) → (b && false) ≡ false
    and_false true = refl
    and_false false = refl

    in_items : (items : List Placed) → list_all has_normal_path (rows_of items) ≡ true → has_direct_child items container ≡ has_child (rows_of items) container
    in_items [] n = refl
    in_items (i ∷ items) n =
        let parts = and_parts (has_normal_path i.row) (list_all has_normal_path (rows_of items)) n in
        by_test (is_child_of container i.row) (child_direct container i.row parts.0) ∙ ap (λ b. is_child_of container i.row || b) (in_items items parts.1)
      where
        by_test : (b : Bool) → (b ≡ true → is_direct container i.row.path ≡ true) → ((is_direct container i.row.path && b) || has_direct_child items container) ≡ (b || has_direct_child items container)
        by_test true f = ap (λ t. (t && true) || has_direct_child items container) (f refl)
        by_test false f = ap (λ t. t || has_direct_child items container) (and_false (is_direct container i.row.path))

-- ---- rows without marks

unmarked_after : (p : List ℕ) (rows : List Row) → Rattle.pod_rows.proofs.OrderedRows.After p rows → Rattle.row_pages.specs.Borders.AreAfter p (map unmarked rows)
unmarked_after p [] h = tt
unmarked_after p (r ∷ rs) h = (h.0, unmarked_after p rs h.1)

pub unmarked_order : (rows : List Row) → Rattle.pod_command.specs.Encodable.AreInOrder rows → Rattle.row_pages.specs.Items.AreItemsInOrder (map unmarked rows)
unmarked_order [] o = Rattle.row_pages.proofs.Ordered.order_nil
unmarked_order (r ∷ rs) o =
    Rattle.row_pages.proofs.Ordered.order_cons (unmarked r) (map unmarked rs) (unmarked_after r.path rs (Rattle.pod_rows.proofs.OrderedRows.order_first r rs o)) (unmarked_order rs (Rattle.pod_rows.proofs.OrderedRows.order_rest r rs o))

-- all rows are done where none is left
pub unmarked_all : (items : List Placed) (rest rows : List Row) → length rest ≡ 0 → items ++ map unmarked rest ≡ map unmarked rows → items ≡ map unmarked rows
unmarked_all items [] rows none all = sym (Rattle.std.proofs.lemmas.List.append-nil items) ∙ all
unmarked_all items (r ∷ rs) rows none all = absurd (omega (arith, none))

-- ---- the version of a snapshot

pub first_ready : (snapshot : Snapshot) (items : List Placed) (places : Places) (paths : List (List ℕ)) → IsWellFormedSnapshot snapshot → items ≡ map unmarked snapshot.rows.items → places ≡ []
    → paths ≡ map (λ (r : Row). r.path) snapshot.rows.items → AreReady snapshot.base items places items paths
first_ready snapshot items places paths w is none all =
    subst (λ (ps : Places). AreReady snapshot.base items ps items paths) (sym none) (ready_first snapshot.base snapshot.rows.items items paths (tree (pod_of snapshot) w.pod) is all)

pub first_kept : (snapshot : Snapshot) (state : VersionState) (items : List Placed) (places : Places) → IsWellFormedSnapshot snapshot → state ≡ first_state snapshot → AreResolved snapshot.base items places → IsVersion state items places
first_kept snapshot state items places w same r =
    subst (λ (s : VersionState). IsVersion s items places) (sym same) (record { number = w.number; well_formed = w.pod; resolved = r; kept = omega arith })

-- ---- the version after an entry

pub after_ready : (state : VersionState) (items : List Placed) (places : Places) (entry : Entry) (first : List Placed) (paths : List (List ℕ)) → IsVersion state items places → state.pod.rows ≡ rows_of items
    → (a : Applies state.pod state.next entry) → Some (rows_of first) ≡ after_edits (Some (rows_of items)) entry.edits.items → AreMarkedBy items first → paths ≡ map path_of_edit entry.edits.items
    → AreReady state.pod.base items places first paths
after_ready state items places entry first paths k same a edits marks all =
    ready_after state.pod.base items places first paths
    (subst IsTree same (tree state.pod k.well_formed)) k.resolved
    (subst IsTree rows (tree (with_rows state.pod a.rows) a.well_formed)) marks
    (λ q h. beside_edits entry.edits.items (rows_of items) (rows_of first) q (sym edits) (ap (λ (ps : List (List ℕ)). Rattle.access_index.specs.Listing.is_listed ps q) (sym all) ∙ h))
  where
    both : Some a.rows ≡ Some (rows_of first)
    both = sym a.edits ∙ ap (λ (rs : List Row). after_edits (Some rs) entry.edits.items) same ∙ sym edits

    rows : a.rows ≡ rows_of first
    rows = cc

oldest_most : (oldest next : ℕ) → oldest ≤ next → oldest_after oldest (next + 1) ≤ next
oldest_most oldest next h = by_test (nat_le oldest (next + 1 - 256))
  where
    by_test : (b : Bool) → cond b (next + 1 - 256) oldest ≤ next
    by_test true = omega arith
    by_test false = h

pub after_kept : (state new : VersionState) (items now : List Placed) (places places' : Places) (entry : Entry) → IsVersion state items places → (a : Applies state.pod state.next entry) → new ≡ state_after state entry
    → AreResolved state.pod.base now places' → IsVersion new now places'
after_kept state new items now places places' entry k a same r =
    subst (λ (s : VersionState). IsVersion s now places') (sym same) (record {
      number = omega (arith, a.numbered);
      well_formed = subst WellFormed (sym (ap (with_rows_if state.pod) a.edits)) a.well_formed;
      resolved = subst (λ (b : List ℕ). AreResolved b now places') (sym (ap (λ o. (with_rows_if state.pod o).base) a.edits)) r;
      kept = omega (arith, oldest_most state.oldest state.next k.kept);
    })

-- the effects of the entry are kept
pub recent : (state : VersionState) (entry : Entry) → Applies state.pod state.next entry → state.oldest ≤ state.next → nat_le (oldest_after state.oldest (state.next + 1)) entry.seq ≡ true
recent state entry a most =
    Rattle.std.proofs.lemmas.Bool.le-leb (oldest_after state.oldest (state.next + 1)) entry.seq (omega (arith, a.number, oldest_most state.oldest state.next most))

pub after_state : (state : VersionState) (entry : Entry) (items now : List Placed) (next oldest : ℕ) (base owner : List ℕ) (kept effects : List Effect) → (a : Applies state.pod state.next entry) → state.pod.rows ≡ rows_of items → state.oldest ≤ state.next
    → Some (rows_of now) ≡ after_edits (Some (rows_of items)) entry.edits.items → next ≡ state.next + 1 → base ≡ state.pod.base → owner ≡ state.pod.owner → oldest ≡ oldest_after state.oldest (state.next + 1)
    → kept ≡ kept_effects oldest state.effects → effects ≡ kept ++ effects_of entry.seq (Some (rows_of items)) entry.edits.items
    → state_of next base owner now effects oldest ≡ state_after state entry
after_state state entry items now next oldest base owner kept effects a same most edits en eb eo el ek ee =
    same_state next (state.next + 1) base (applied state.pod entry).base owner (applied state.pod entry).owner (rows_of now) (applied state.pod entry).rows effects (kept_effects oldest_now (state.effects ++ entry_effects state.pod entry)) oldest oldest_now en
    (eb ∙ sym (ap (λ o. (with_rows_if state.pod o).base) a.edits))
    (eo ∙ sym (ap (λ o. (with_rows_if state.pod o).owner) a.edits))
    (sym rows ∙ sym (ap (λ o. (with_rows_if state.pod o).rows) a.edits))
    (ee ∙ ap (λ (xs : List Effect). xs ++ effects_of entry.seq (Some (rows_of items)) entry.edits.items) (ek ∙ ap (λ (n : ℕ). kept_effects n state.effects) el)
    ∙ ap (λ (rs : List Row). kept_effects oldest_now state.effects ++ effects_of entry.seq (Some rs) entry.edits.items) (sym same)
    ∙ kept_all oldest_now entry.seq state.effects (Some state.pod.rows) entry.edits.items (recent state entry a most))
    el
  where
    oldest_now : ℕ
    oldest_now = oldest_after state.oldest (state.next + 1)

    both : Some a.rows ≡ Some (rows_of now)
    both = sym a.edits ∙ ap (λ (rs : List Row). after_edits (Some rs) entry.edits.items) same ∙ sym edits

    rows : a.rows ≡ rows_of now
    rows = cc

-- other effects
pub kept_with : (next : ℕ) (base owner : List ℕ) (items : List Placed) (effects others : List Effect) (oldest : ℕ) (places : Places) → IsVersion (state_of next base owner items effects oldest) items places
    → IsVersion (state_of next base owner items others oldest) items places
kept_with next base owner items effects others oldest places k = record { number = k.number; well_formed = k.well_formed; resolved = k.resolved; kept = k.kept }

-- ---- all of an entry

pub record After (state new : VersionState) (now : List Placed) (places : Places) (entry : Entry) : Type 0 where
  pub is : new ≡ state_after state entry
  pub kept : IsVersion new now places

pub after_all : (next : ℕ) (base owner : List ℕ) (items : List Placed) (effects : List Effect) (oldest : ℕ) (places : Places) (entry : Entry) (list : List Edit) (first now : List Placed) (touched : List (List ℕ)) (places' : Places)
    (next' oldest' : ℕ) (base' owner' : List ℕ) (kept effects' : List Effect)
    → IsVersion (state_of next base owner items effects oldest) items places → Applies (state_of next base owner items effects oldest).pod next entry
    → list ≡ entry.edits.items → Some (rows_of first) ≡ after_edits (Some (rows_of items)) list → AreMarkedBy items first → touched ≡ map path_of_edit list
    → (AreReady base items places first touched → rows_of now ≡ rows_of first) → (AreReady base items places first touched → AreResolved base now places')
    → next' ≡ next + 1 → base' ≡ base → owner' ≡ owner → oldest' ≡ oldest_after oldest next' → kept ≡ kept_effects oldest' effects
    → effects' ≡ kept ++ effects_of entry.seq (Some (rows_of items)) list
    → After (state_of next base owner items effects oldest) (state_of next' base' owner' now effects' oldest') now places' entry
after_all next base owner items effects oldest places entry list first now touched places' next' oldest' base' owner' kept effects' k a el done marks et same resolved en eb eo eold ek ee =
    record { is = is; kept = after_kept state new items now places places' entry k a is (resolved ready) }
  where
    state : VersionState
    state = state_of next base owner items effects oldest

    new : VersionState
    new = state_of next' base' owner' now effects' oldest'

    done_all : Some (rows_of first) ≡ after_edits (Some (rows_of items)) entry.edits.items
    done_all = done ∙ ap (after_edits (Some (rows_of items))) el

    ready : AreReady base items places first touched
    ready = after_ready state items places entry first touched k refl a done_all marks (et ∙ ap (map path_of_edit) el)

    is : new ≡ state_after state entry
    is = after_state state entry items now next' oldest' base' owner' kept effects' a refl k.kept
        (ap (λ (rs : List Row). Some rs) (same ready) ∙ done_all) en eb eo (eold ∙ ap (oldest_after oldest) en) ek
        (ee ∙ ap (λ (xs : List Edit). kept ++ effects_of entry.seq (Some (rows_of items)) xs) el)

-- ---- all of a snapshot

pub record First (snapshot : Snapshot) (new : VersionState) (now : List Placed) (places : Places) : Type 0 where
  pub is : new ≡ first_state snapshot
  pub kept : IsVersion new now places

pub first_all : (snapshot : Snapshot) (items : List Placed) (places : Places) (paths : List (List ℕ)) (now : List Placed) (places' : Places) (base owner : List ℕ) (effects : List Effect) → IsWellFormedSnapshot snapshot
    → items ≡ map unmarked snapshot.rows.items → places ≡ [] → paths ≡ map (λ (r : Row). r.path) snapshot.rows.items
    → (AreReady snapshot.base items places items paths → rows_of now ≡ rows_of items) → (AreReady snapshot.base items places items paths → AreResolved snapshot.base now places')
    → base ≡ snapshot.base → owner ≡ snapshot.owner → effects ≡ []
    → First snapshot (state_of snapshot.seq base owner now effects snapshot.seq) now places'
first_all snapshot items places paths now places' base owner effects w marked none all same resolved eb eo ee =
    record { is = is; kept = first_kept snapshot (state_of snapshot.seq base owner now effects snapshot.seq) now places' w is (resolved ready) }
  where
    ready : AreReady snapshot.base items places items paths
    ready = first_ready snapshot items places paths w marked none all

    is : state_of snapshot.seq base owner now effects snapshot.seq ≡ first_state snapshot
    is = same_state snapshot.seq snapshot.seq base snapshot.base owner snapshot.owner (rows_of now) snapshot.rows.items effects [] snapshot.seq snapshot.seq refl eb eo
        (same ready ∙ ap rows_of marked ∙ Rattle.pod_pages.proofs.Readiness.unmarked_rows snapshot.rows.items) ee refl

-- the edits of an entry that applies can be carried out
pub never_stopped : (pod : Pod) (next : ℕ) (items : List Placed) (list : List Edit) (entry : Entry) → Applies pod next entry → pod.rows ≡ rows_of items → list ≡ entry.edits.items → None ≡ after_edits (Some (rows_of items)) list → ⊥
never_stopped pod next items list entry a same el none = none_some a.rows (none ∙ ap (after_edits (Some (rows_of items))) el ∙ ap (λ (rs : List Row). after_edits (Some rs) entry.edits.items) (sym same) ∙ a.edits)
  where
    none_some : (rs : List Row) → None ≡ Some rs → ⊥
    none_some rs z = absurd cc
