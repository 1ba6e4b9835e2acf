-- An item that is put where there is no access list: what governs the others stays.
use Rattle.std.proofs.Common.{◌≡◌, ◌+◌, ℕ, Bool, true, false, cond, List, [], ◌∷◌, ◌++◌, Option, Some, None, refl, sym, ap, ◌∙◌, subst, option_map}
use Rattle.std.specs.Prelude.{IfSome, is_some, bytes_eq, codes}
use Rattle.std.specs.List.{find}
use Rattle.std.proofs.lemmas.Bool.{true≢false}
use Rattle.std.proofs.lemmas.Slice.Eq.{bytes_eq-Decides}
use Rattle.acl_rules.specs.declared.rule.How.TheVariants.{Own}
use Rattle.pod_path.specs.Hierarchy.{is_acl, subject_of}
use Rattle.pod_path.specs.Norm.{IsPath}
use Rattle.pod_path.proofs.Names.{ends_append}
use Rattle.pod_base.specs.declared.moment.Moment.{Moment}
use Rattle.rdf_graph.specs.declared.change.Change.{Change}
use Rattle.pod_command.specs.declared.edit.Edit.{Edit}
use Rattle.pod_command.specs.declared.edit.Edit.TheVariants as edits
use Rattle.pod_command.specs.declared.entry.Entry.{Entry}
use Rattle.pod_command.specs.declared.row.Content.{Content}
use Rattle.pod_command.specs.declared.row.Content.TheVariants as contents
use Rattle.pod_command.specs.declared.row.Row.{Row}
use Rattle.pod_rows.specs.Access.{Governs, about, effective_of, governed, has_own_list, inherited, list_path, rules_of_row}
use Rattle.pod_rows.specs.Apply.{Applies, after_edits, change_found, changed_row, edited, put_found as found_put, put_row, touch_found, with_content, with_moment, with_rows}
use Rattle.pod_rows.specs.GraphSets.{changed_graph, has_triples}
use Rattle.pod_rows.specs.Pod.{row_at, is_row}
use Rattle.pod_rows.specs.Tree.{ancestors}
use Rattle.row_pages.specs.Items.{Placed, item_at, put_item, rows_of}
use Rattle.pod_pages.specs.Effects.{effect_of, effect_on, effects_of, kept_effects, oldest_after, put_kind}
use Rattle.pod_pages.specs.Lists.{list_at}
use Rattle.pod_pages.specs.Marks.{how_of, mark, own_if, own_number, own_of, path_mark}
use Rattle.pod_pages.specs.Numbering.{AreResolved, IsGoverned, IsTree, Places}
use Rattle.pod_pages.specs.Placings.{IsEditPlacing, IsPlacing, mark_found, row_if, row_made}
use Rattle.pod_pages.specs.State.{VersionState, state_after, with_effects}
use Rattle.pod_pages.specs.Versions.{IsVersion, path_of_edit, state_of}
use Rattle.pod_pages.specs.declared.entry_effects.Effect.{Effect}
use Rattle.pod_pages.specs.declared.list_table.AccessList.{AccessList}
use Rattle.pod_pages.specs.declared.row_marks.Mark.{Mark}
use Rattle.pod_pages.specs.declared.single_put.Placing.{Placing}
use Rattle.pod_pages.proofs.Found.{put_found}
use Rattle.pod_pages.proofs.Listing.{path_of}
use Rattle.pod_pages.proofs.Placing.{found_is, found_rows, row_of, rows_put}
use Rattle.pod_pages.proofs.Resolution.{resolve, resolved_has, resolved_lists}
use Rattle.pod_pages.proofs.Trees.{row_path, tree}
use Rattle.pod_pages.proofs.VersionLaws.{after_kept, after_state, kept_with}

-- ---- access lists stay

no_list : (path p : List ℕ) → is_acl path ≡ false → bytes_eq path (list_path p) ≡ false
no_list path p h = by_test (bytes_eq path (list_path p)) refl
  where
    by_test : (b : Bool) → bytes_eq path (list_path p) ≡ b → b ≡ false
    by_test true e = absurd (true≢false (sym (ap is_acl ((bytes_eq-Decides path (list_path p)).0 e) ∙ ends_append p (codes ".acl")) ∙ h))
    by_test false e = refl

lists_stay : (items : List Placed) (item : Placed) (p : List ℕ) → is_acl item.row.path ≡ false → row_at (rows_of (put_item items item)) (list_path p) ≡ row_at (rows_of items) (list_path p)
lists_stay items item p h =
    ap (λ (rs : List Row). row_at rs (list_path p)) (rows_put items item)
    ∙ put_found (λ (r : Row). r.path) (rows_of items) item.row (list_path p)
    ∙ ap (λ (b : Bool). cond b (Some item.row) (row_at (rows_of items) (list_path p))) (no_list item.row.path p h)

abbrev governs_by : (List ℕ → Bool) → List ℕ → Option Governs
governs_by has path = cond (has path) (Some (governed path Own)) (inherited (find has (ancestors path)))

governs_stay : (items : List Placed) (item : Placed) (path : List ℕ) → is_acl item.row.path ≡ false → effective_of (rows_of (put_item items item)) path ≡ effective_of (rows_of items) path
governs_stay items item path h =
    let same : has_own_list (rows_of (put_item items item)) ≡ has_own_list (rows_of items) = λ i p. ap is_some (lists_stay items item p h) i in
    ap (λ (has : List ℕ → Bool). governs_by has (about path (subject_of path))) same

-- ---- the items stay resolved

item_found : (items : List Placed) (item : Placed) (q : List ℕ) → item_at (put_item items item) q ≡ cond (bytes_eq item.row.path q) (Some item) (item_at items q)
item_found items item q = put_found path_of items item q

itself_found : (items : List Placed) (item : Placed) → item_at (put_item items item) item.row.path ≡ Some item
itself_found items item =
    item_found items item item.row.path
    ∙ ap (λ (b : Bool). cond b (Some item) (item_at items item.row.path)) ((bytes_eq-Decides item.row.path item.row.path).1 refl)

-- an item with the mark of another one at the path
moved : (items : List Placed) (item : Placed) (places : Places) (p : List ℕ) (x y : Placed) → is_acl item.row.path ≡ false → x.list ≡ y.list → x.own ≡ y.own → IsGoverned items places p x → IsGoverned (put_item items item) places p y
moved items item places p x y plain en eo g = record {
  list = g.list;
  found = ap (list_at places) (sym en) ∙ g.found;
  governs = governs_stay items item p plain ∙ g.governs ∙ ap (λ (b : Bool). Some (governed g.list.at (how_of b))) eo;
}

-- the item that is put
placed_here : (base : List ℕ) (items : List Placed) (places : Places) (item : Placed) → IsTree (rows_of items) → IsPath item.row.path → AreResolved base items places → is_acl item.row.path ≡ false
    → (o : Option Placed) → item_at items item.row.path ≡ o → mark_found o (path_mark items item.row.path) ≡ Some (mark item.list item.own) → IsGoverned (put_item items item) places item.row.path item
placed_here base items places item before normal r plain (Some old) e m =
    let one : mark old.list old.own ≡ mark item.list item.own = cc in
    moved items item places item.row.path old item plain (ap (λ (x : Mark). x.list) one) (ap (λ (x : Mark). x.own) one) (r.governed item.row.path old e)
placed_here base items places item before normal r plain None e m =
    let k = resolve (rows_of items) items (resolved_has base items places before r) before.rooted item.row.path normal in
    let both : Some (mark k.number k.is_own) ≡ Some (mark item.list item.own) = sym k.mark ∙ m in
    let one : mark k.number k.is_own ≡ mark item.list item.own = cc in
    let l = resolved_lists base items places r k.at k.number k.plain k.own in
    record {
      list = l.list;
      found = ap (list_at places) (sym (ap (λ (x : Mark). x.list) one)) ∙ l.found;
      governs =
          governs_stay items item item.row.path plain
          ∙ k.governs
          ∙ ap (λ (x : List ℕ). Some (governed x (how_of k.is_own))) (sym l.is)
          ∙ ap (λ (b : Bool). Some (governed l.list.at (how_of b))) (ap (λ (x : Mark). x.own) one);
    }

-- the number of a list of the path
same_number : (item : Placed) (walked : Option Mark) (k : ℕ) (o : Option Placed) → mark_found o walked ≡ Some (mark item.list item.own) → own_of o ≡ Some k → own_of (Some item) ≡ Some k
same_number item walked k None m n = absurd cc
same_number item walked k (Some old) m n =
    let one : mark old.list old.own ≡ mark item.list item.own = cc in
    ap (λ (x : Mark). own_if x.own x.list) (sym one) ∙ n

placed_resolved : (base : List ℕ) (items : List Placed) (places : Places) (item : Placed) → IsTree (rows_of items) → IsTree (rows_of (put_item items item)) → AreResolved base items places
    → is_acl item.row.path ≡ false → mark_found (item_at items item.row.path) (path_mark items item.row.path) ≡ Some (mark item.list item.own) → AreResolved base (put_item items item) places
placed_resolved base items places item before after r plain marked = record {
  governed = λ p x e. by_path p x (bytes_eq item.row.path p) refl (sym (item_found items item p) ∙ e);
  numbers = λ k l e. by_number k l e (bytes_eq item.row.path l.at) refl;
  owners = λ k l e. ap is_some (lists_stay items item l.at plain) ∙ r.owners k l e;
  rules = λ k l e. r.rules k l e ∙ ap (rules_of_row base) (sym (lists_stay items item l.at plain));
}
  where
    normal : IsPath item.row.path
    normal = after.paths item.row.path (sym (found_is (put_item items item) item.row.path) ∙ ap is_some (itself_found items item))

    here : IsGoverned (put_item items item) places item.row.path item
    here = placed_here base items places item before normal r plain (item_at items item.row.path) refl marked

    by_path : (p : List ℕ) (x : Placed) (t : Bool) → bytes_eq item.row.path p ≡ t → cond t (Some item) (item_at items p) ≡ Some x → IsGoverned (put_item items item) places p x
    by_path p x true h k =
        let one : item ≡ x = cc in
        subst (λ (y : Placed). IsGoverned (put_item items item) places p y) one
        (subst (λ (q : List ℕ). IsGoverned (put_item items item) places q item) ((bytes_eq-Decides item.row.path p).0 h) here)
    by_path p x false h k = moved items item places p x x plain refl refl (r.governed p x k)

    by_number : (k : ℕ) (l : AccessList) → list_at places k ≡ Some l → (t : Bool) → bytes_eq item.row.path l.at ≡ t → own_number (put_item items item) l.at ≡ Some k
    by_number k l e true h =
        let same = (bytes_eq-Decides item.row.path l.at).0 h in
        ap (own_number (put_item items item)) (sym same)
        ∙ ap own_of (itself_found items item)
        ∙ same_number item (path_mark items item.row.path) k (item_at items item.row.path) marked (ap (own_number items) same ∙ r.numbers k l e)
    by_number k l e false h =
        ap own_of (item_found items item l.at ∙ ap (λ (b : Bool). cond b (Some item) (item_at items l.at)) h) ∙ r.numbers k l e

-- ---- an edit that puts a row

record Made (rows : List Row) (edit : Edit) (r : Row) : Type 0 where
  path : r.path ≡ path_of_edit edit
  puts : edited rows edit ≡ Some (put_row rows r)
  effect : (seq : ℕ) → effect_of seq rows edit ≡ effect_on seq (path_of_edit edit) (put_kind (is_row rows (path_of_edit edit)))

changed_path : (change : Change) (modified : Moment) (row r : Row) (content : Content) → changed_row change modified row content ≡ Some r → r.path ≡ row.path
changed_path change modified row r (contents.Graph triples) e = by_fit (has_triples triples change.removed) e
  where
    by_fit : (b : Bool) → cond b (Some (with_content row (contents.Graph (changed_graph triples change.removed change.added)) modified)) None ≡ Some r → r.path ≡ row.path
    by_fit true k =
        let one : with_content row (contents.Graph (changed_graph triples change.removed change.added)) modified ≡ r = cc in
        ap (λ (x : Row). x.path) (sym one)
    by_fit false k = absurd cc
changed_path change modified row r (contents.Bytes ctype bytes) e = absurd cc

made_of : (rows : List Row) (edit : Edit) (r : Row) → row_made edit (row_at rows (path_of_edit edit)) ≡ Some r → Made rows edit r
made_of rows (edits.Put new) r e =
    let one : new ≡ r = cc in
    record { path = ap (λ (x : Row). x.path) (sym one); puts = ap (λ (x : Row). Some (put_row rows x)) one; effect = λ seq. refl }
made_of rows (edits.Change path change modified) r e = by_row (row_at rows path) refl e
  where
    by_row : (o : Option Row) → row_at rows path ≡ o → row_made (edits.Change path change modified) o ≡ Some r → Made rows (edits.Change path change modified) r
    by_row None f k = absurd cc
    by_row (Some row) f k = record {
      path = changed_path change modified row r row.content k ∙ row_path rows path row f;
      puts = ap (change_found rows change modified) f ∙ ap (found_put rows) k;
      effect = λ seq. ap (λ (b : Bool). effect_on seq path (put_kind b)) (sym (ap is_some f));
    }
made_of rows (edits.Touch path modified) r e = by_row (row_at rows path) refl e
  where
    by_row : (o : Option Row) → row_at rows path ≡ o → row_made (edits.Touch path modified) o ≡ Some r → Made rows (edits.Touch path modified) r
    by_row None f k = absurd cc
    by_row (Some row) f k =
        let one : with_moment row modified ≡ r = cc in
        record {
          path = ap (λ (x : Row). x.path) (sym one) ∙ row_path rows path row f;
          puts = ap (touch_found rows modified) f ∙ ap (λ (x : Row). Some (put_row rows x)) one;
          effect = λ seq. ap (λ (b : Bool). effect_on seq path (put_kind b)) (sym (ap is_some f));
        }
made_of rows (edits.Remove path) r e = absurd cc

row_if_of : (items : List Placed) (p : List ℕ) → row_if (item_at items p) ≡ row_at (rows_of items) p
row_if_of items p = by_item (item_at items p) ∙ found_rows items p
  where
    by_item : (o : Option Placed) → row_if o ≡ option_map row_of o
    by_item None = refl
    by_item (Some i) = refl

-- the item that an edit puts, by what was found of it
pub edit_placed : (items : List Placed) (edit : Edit) (path : List ℕ) (is_list : Bool) (old : Option Placed) (row : Row) (found : Option Placing) → path ≡ path_of_edit edit → is_list ≡ is_acl path → is_list ≡ false → old ≡ item_at items path
    → Some row ≡ row_made edit (row_if old) → IfSome found (λ (placing : Placing). placing.item.row ≡ row) → IfSome found (λ (placing : Placing). placing.replaces ≡ is_some old)
    → IfSome found (λ (placing : Placing). mark_found old (path_mark items path) ≡ Some (mark placing.item.list placing.item.own)) → IfSome found (IsEditPlacing items edit)
edit_placed items edit path is_list old row None ep el plain eo made rows replaced marked = tt
edit_placed items edit path is_list old row (Some placing) ep el plain eo made rows replaced marked = record {
  made =
      ap (row_made edit) (sym (row_if_of items (path_of_edit edit)) ∙ ap row_if (sym at)) ∙ sym made ∙ ap (λ (x : Row). Some x) (sym rows);
  plain = ap is_acl (sym ep) ∙ sym el ∙ plain;
  replaces = replaced ∙ ap is_some at;
  marked = ap (λ (o : Option Placed). mark_found o (path_mark items (path_of_edit edit))) (sym at) ∙ ap (λ (q : List ℕ). mark_found old (path_mark items q)) (sym ep) ∙ marked;
}
  where
    at : old ≡ item_at items (path_of_edit edit)
    at = eo ∙ ap (item_at items) ep

-- ---- an entry that puts a row

pub record EntryPlaced (items : List Placed) (entry : Entry) (placing : Placing) : Type 0 where
  pub rows : Some (rows_of (put_item items placing.item)) ≡ after_edits (Some (rows_of items)) entry.edits.items
  pub plain : is_acl placing.item.row.path ≡ false
  pub replaces : placing.replaces ≡ is_some (item_at items placing.item.row.path)
  pub marked : mark_found (item_at items placing.item.row.path) (path_mark items placing.item.row.path) ≡ Some (mark placing.item.list placing.item.own)
  pub effects : (seq : ℕ) → effects_of seq (Some (rows_of items)) entry.edits.items ≡ effect_on seq placing.item.row.path (put_kind placing.replaces) ∷ []

pub entry_placed : (items : List Placed) (entry : Entry) (placing : Placing) → IsPlacing items entry placing → EntryPlaced items entry placing
entry_placed items entry placing p = record {
  rows =
      ap (λ (rs : List Row). Some rs) (rows_put items placing.item)
      ∙ sym (ap (after_edits (Some (rows_of items))) p.only ∙ made.puts);
  plain = ap is_acl made.path ∙ p.is.plain;
  replaces = replaced;
  marked = ap (λ (q : List ℕ). mark_found (item_at items q) (path_mark items q)) made.path ∙ p.is.marked;
  effects = λ seq.
      ap (effects_of seq (Some (rows_of items))) p.only
      ∙ ap (λ (e : Effect). e ∷ [])
      (made.effect seq
      ∙ ap (λ (q : List ℕ). effect_on seq q (put_kind (is_row (rows_of items) q))) (sym made.path)
      ∙ ap (λ (b : Bool). effect_on seq placing.item.row.path (put_kind b)) (sym (found_is items placing.item.row.path) ∙ sym replaced));
}
  where
    made : Made (rows_of items) p.edit placing.item.row
    made = made_of (rows_of items) p.edit placing.item.row p.is.made

    replaced : placing.replaces ≡ is_some (item_at items placing.item.row.path)
    replaced = p.is.replaces ∙ ap (λ (q : List ℕ). is_some (item_at items q)) (sym made.path)

-- ---- the version after the entry, without effects

same_rows : (xs ys : List Row) → Some xs ≡ Some ys → xs ≡ ys
same_rows xs ys e = cc

pub record Bare (state new : VersionState) (now : List Placed) (places : Places) (entry : Entry) : Type 0 where
  pub is : new ≡ with_effects [] (state_after state entry)
  pub kept : IsVersion new now places

pub placed_all : (next : ℕ) (base owner : List ℕ) (items : List Placed) (effects : List Effect) (oldest : ℕ) (places : Places) (entry : Entry) (placing : Placing) (now : List Placed) (none : List Effect) (oldest' : ℕ)
    → IsVersion (state_of next base owner items effects oldest) items places → Applies (state_of next base owner items effects oldest).pod next entry → IsPlacing items entry placing
    → now ≡ put_item items placing.item → none ≡ [] → oldest' ≡ oldest_after oldest (next + 1)
    → Bare (state_of next base owner items effects oldest) (state_of (next + 1) base owner now none oldest') now places entry
placed_all next base owner items effects oldest places entry placing now none oldest' k a p is_now is_none eold = record {
  is = ap (λ (es : List Effect). state_of (next + 1) base owner now es oldest') is_none ∙ ap (with_effects []) full;
  kept = kept_with (next + 1) base owner now changed none oldest' places (after_kept state new items now places places entry k a full resolved);
}
  where
    state : VersionState
    state = state_of next base owner items effects oldest

    changed : List Effect
    changed = kept_effects oldest' effects ++ effects_of entry.seq (Some (rows_of items)) entry.edits.items

    new : VersionState
    new = state_of (next + 1) base owner now changed oldest'

    one : EntryPlaced items entry placing
    one = entry_placed items entry placing p

    done : Some (rows_of now) ≡ after_edits (Some (rows_of items)) entry.edits.items
    done = ap (λ (is : List Placed). Some (rows_of is)) is_now ∙ one.rows

    full : new ≡ state_after state entry
    full = after_state state entry items now (next + 1) oldest' base owner (kept_effects oldest' effects) changed a refl k.kept done refl refl refl eold refl refl

    rows : a.rows ≡ rows_of (put_item items placing.item)
    rows = same_rows a.rows (rows_of (put_item items placing.item)) (sym a.edits ∙ sym one.rows)

    resolved : AreResolved base now places
    resolved = subst (λ (is : List Placed). AreResolved base is places) (sym is_now)
        (placed_resolved base items places placing.item (tree state.pod k.well_formed)
        (subst IsTree rows (tree (with_rows state.pod a.rows) a.well_formed)) k.resolved one.plain one.marked)
