-- Rows with the same paths and kinds have the same after the same edits.
use Rattle.std.proofs.Common.{◌≡◌, ℕ, Bool, true, false, cond, not, List, [], ◌∷◌, ◌++◌, map, filter, Option, Some, None, refl, sym, ap, ap₂, ◌∙◌, inl, inr, ⊎_elim}
use Rattle.std.specs.Prelude.{bytes_eq}
use Rattle.std.specs.Option.{option_map}
use Rattle.pod_base.specs.declared.agent.Agent.{Agent}
use Rattle.pod_base.specs.declared.moment.Moment.{Moment}
use Rattle.pod_command.specs.declared.edit.Edit.{Edit}
use Rattle.pod_command.specs.declared.edit.Edit.TheVariants as edits
use Rattle.pod_command.specs.declared.entry.Entry.{Entry}
use Rattle.pod_command.specs.declared.row.Content.{Content}
use Rattle.pod_command.specs.declared.row.Content.TheVariants as contents
use Rattle.pod_command.specs.declared.row.Kind.{Kind}
use Rattle.pod_command.specs.declared.row.Row.{Row}
use Rattle.pod_edits.proofs.FoundRows.{found_path}
use Rattle.pod_edits.proofs.Pointwise.{same_after}
use Rattle.pod_rows.proofs.Steps.{edits_none}
use Rattle.pod_rows.specs.Apply.{Applies, after_edits, applied, change_found, changed_row, edited, is_before, put_found, put_row, remove_found, remove_row, touch_found, with_content, with_moment, with_rows, with_rows_if}
use Rattle.pod_rows.specs.GraphSets.{changed_graph, has_triples}
use Rattle.pod_rows.specs.Pod.{Pod, row_at}
use Rattle.rdf_graph.specs.declared.change.Change.{Change}
use Rattle.reply_laws.proofs.SamePaths.{same_kind}
use Rattle.reply_laws.specs.Alike.{Alike, IsHidden, kind_of, path_of}

-- ---- rows by path and kind

abbrev pub Key : Type 0
Key = List ℕ × Kind

abbrev pub key_of : Row → Key
key_of row = (row.path, row.kind)

same_keys : (p q : List Row) → map path_of p ≡ map path_of q → map kind_of p ≡ map kind_of q → map key_of p ≡ map key_of q
same_keys [] [] e k = refl
same_keys [] (s ∷ q) e k = absurd cc
same_keys (r ∷ p) [] e k = absurd cc
same_keys (r ∷ p) (s ∷ q) e k =
    let paths : map path_of p ≡ map path_of q = cc in
    let kinds : map kind_of p ≡ map kind_of q = cc in
    let path_is : r.path ≡ s.path = cc in
    let kind_is : r.kind ≡ s.kind = cc in
    λ i. (path_is i, kind_is i) ∷ same_keys p q paths kinds i

map_map : (rows : List Row) → map (λ (k : Key). k.0) (map key_of rows) ≡ map path_of rows
map_map [] = refl
map_map (row ∷ rows) = ap (λ (ps : List (List ℕ)). row.path ∷ ps) (map_map rows)

map_kinds : (rows : List Row) → map (λ (k : Key). k.1) (map key_of rows) ≡ map kind_of rows
map_kinds [] = refl
map_kinds (row ∷ rows) = ap (λ (ks : List Kind). row.kind ∷ ks) (map_kinds rows)

paths_from : (p q : List Row) → map key_of p ≡ map key_of q → map path_of p ≡ map path_of q
paths_from p q e = sym (map_map p) ∙ ap (map (λ (k : Key). k.0)) e ∙ map_map q

kinds_from : (p q : List Row) → map key_of p ≡ map key_of q → map kind_of p ≡ map kind_of q
kinds_from p q e = sym (map_kinds p) ∙ ap (map (λ (k : Key). k.1)) e ∙ map_kinds q

-- ---- rows that are put and removed

kept : (test : List ℕ → Bool) (rows : List Row) → map key_of (filter (λ row. test row.path) rows) ≡ filter (λ (k : Key). test k.0) (map key_of rows)
kept test [] = refl
kept test (row ∷ rows) =
    by_test (test row.path) ∙ ap (λ (ks : List Key). cond (test row.path) (key_of row ∷ ks) ks) (kept test rows)
  where
    by_test : (b : Bool) → map key_of (cond b (row ∷ filter (λ row. test row.path) rows) (filter (λ row. test row.path) rows))
        ≡ cond b (key_of row ∷ map key_of (filter (λ row. test row.path) rows)) (map key_of (filter (λ row. test row.path) rows))
    by_test true = refl
    by_test false = refl

map_append : (xs ys : List Row) → map key_of (xs ++ ys) ≡ map key_of xs ++ map key_of ys
map_append [] ys = refl
map_append (x ∷ xs) ys = ap (λ (ks : List Key). key_of x ∷ ks) (map_append xs ys)

keys_put : (rows : List Row) (row : Row) → map key_of (put_row rows row)
    ≡ filter (λ (k : Key). is_before k.0 row.path) (map key_of rows) ++ key_of row ∷ filter (λ (k : Key). is_before row.path k.0) (map key_of rows)
keys_put rows row =
    map_append (filter (λ other. is_before other.path row.path) rows) (row ∷ filter (λ other. is_before row.path other.path) rows)
    ∙ ap₂ (λ (a b : List Key). a ++ key_of row ∷ b) (kept (λ path. is_before path row.path) rows) (kept (λ path. is_before row.path path) rows)

same_put : (p q : List Row) (r s : Row) → map key_of p ≡ map key_of q → key_of r ≡ key_of s → map key_of (put_row p r) ≡ map key_of (put_row q s)
same_put p q r s e k =
    keys_put p r
    ∙ (λ i. filter (λ (x : Key). is_before x.0 (k i).0) (e i) ++ k i ∷ filter (λ (x : Key). is_before (k i).0 x.0) (e i))
    ∙ sym (keys_put q s)

same_remove : (p q : List Row) (r s : List ℕ) → map key_of p ≡ map key_of q → r ≡ s → map key_of (remove_row p r) ≡ map key_of (remove_row q s)
same_remove p q r s e is =
    kept (λ path. not (bytes_eq path r)) p
    ∙ (λ i. filter (λ (x : Key). not (bytes_eq x.0 (is i))) (e i))
    ∙ sym (kept (λ path. not (bytes_eq path s)) q)

-- ---- an edit

module _ (p q x y : List Row) (e : map key_of p ≡ map key_of q) where
  kind_at : (path : List ℕ) (r s : Row) → row_at p path ≡ Some r → row_at q path ≡ Some s → r.kind ≡ s.kind
  kind_at path r s fr fs =
      let both : Some r.kind ≡ Some s.kind =
      sym (ap (option_map kind_of) fr) ∙ same_kind p q (paths_from p q e) (kinds_from p q e) path ∙ ap (option_map kind_of) fs in
      cc

  key_at : (path : List ℕ) (r s : Row) → row_at p path ≡ Some r → row_at q path ≡ Some s → key_of r ≡ key_of s
  key_at path r s fr fs =
      let path_is : r.path ≡ s.path = found_path p path r fr ∙ sym (found_path q path s fs) in
      λ i. (path_is i, kind_at path r s fr fs i)

  changed_key : (change : Change) (modified : Moment) (r new : Row) (content : Content) → changed_row change modified r content ≡ Some new → key_of r ≡ key_of new
  changed_key change modified r new (contents.Graph triples) h = by_test (has_triples triples change.removed) h
    where
      by_test : (t : Bool) → cond t (Some (with_content r (contents.Graph (changed_graph triples change.removed change.added)) modified)) None ≡ Some new → key_of r ≡ key_of new
      by_test true k = let same : with_content r (contents.Graph (changed_graph triples change.removed change.added)) modified ≡ new = cc in ap key_of same
      by_test false k = absurd cc
  changed_key change modified r new (contents.Bytes ctype bytes) h = absurd cc

  put_both : (o u : Option Row) → put_found p o ≡ Some x → put_found q u ≡ Some y → ((r s : Row) → o ≡ Some r → u ≡ Some s → key_of r ≡ key_of s) → map key_of x ≡ map key_of y
  put_both None u hx hy k = absurd cc
  put_both (Some r) None hx hy k = absurd cc
  put_both (Some r) (Some s) hx hy k =
      let sx : put_row p r ≡ x = cc in
      let sy : put_row q s ≡ y = cc in
      ap (map key_of) (sym sx) ∙ same_put p q r s e (k r s refl refl) ∙ ap (map key_of) sy

  change_both : (path : List ℕ) (change : Change) (modified : Moment) (o u : Option Row) → row_at p path ≡ o → row_at q path ≡ u
      → change_found p change modified o ≡ Some x → change_found q change modified u ≡ Some y → map key_of x ≡ map key_of y
  change_both path change modified None u fo fu hx hy = absurd cc
  change_both path change modified (Some r) None fo fu hx hy = absurd cc
  change_both path change modified (Some r) (Some s) fo fu hx hy =
      put_both (changed_row change modified r r.content) (changed_row change modified s s.content) hx hy
      (λ m n em en. sym (changed_key change modified r m r.content em) ∙ key_at path r s fo fu ∙ changed_key change modified s n s.content en)

  touch_both : (path : List ℕ) (modified : Moment) (o u : Option Row) → row_at p path ≡ o → row_at q path ≡ u
      → touch_found p modified o ≡ Some x → touch_found q modified u ≡ Some y → map key_of x ≡ map key_of y
  touch_both path modified None u fo fu hx hy = absurd cc
  touch_both path modified (Some r) None fo fu hx hy = absurd cc
  touch_both path modified (Some r) (Some s) fo fu hx hy =
      let sx : put_row p (with_moment r modified) ≡ x = cc in
      let sy : put_row q (with_moment s modified) ≡ y = cc in
      ap (map key_of) (sym sx) ∙ same_put p q (with_moment r modified) (with_moment s modified) e (key_at path r s fo fu) ∙ ap (map key_of) sy

  remove_both : (path : List ℕ) (o u : Option Row) → row_at p path ≡ o → row_at q path ≡ u
      → remove_found p o ≡ Some x → remove_found q u ≡ Some y → map key_of x ≡ map key_of y
  remove_both path None u fo fu hx hy = absurd cc
  remove_both path (Some r) None fo fu hx hy = absurd cc
  remove_both path (Some r) (Some s) fo fu hx hy =
      let sx : remove_row p r.path ≡ x = cc in
      let sy : remove_row q s.path ≡ y = cc in
      ap (map key_of) (sym sx) ∙ same_remove p q r.path s.path e (ap (λ (k : Key). k.0) (key_at path r s fo fu)) ∙ ap (map key_of) sy

  edit_both : (edit : Edit) → edited p edit ≡ Some x → edited q edit ≡ Some y → map key_of x ≡ map key_of y
  edit_both (edits.Put row) hx hy =
      let sx : put_row p row ≡ x = cc in
      let sy : put_row q row ≡ y = cc in
      ap (map key_of) (sym sx) ∙ same_put p q row row e refl ∙ ap (map key_of) sy
  edit_both (edits.Change path change modified) hx hy = change_both path change modified (row_at p path) (row_at q path) refl refl hx hy
  edit_both (edits.Touch path modified) hx hy = touch_both path modified (row_at p path) (row_at q path) refl refl hx hy
  edit_both (edits.Remove path) hx hy = remove_both path (row_at p path) (row_at q path) refl refl hx hy

-- ---- edits in their order

none_after : (list : List Edit) (rows : List Row) → after_edits None list ≡ Some rows → ⊥
none_after list rows h = let none : after_edits None list ≡ None = edits_none list in cc

keys_after : (list : List Edit) (p q x y : List Row) → map key_of p ≡ map key_of q → after_edits (Some p) list ≡ Some x → after_edits (Some q) list ≡ Some y → map key_of x ≡ map key_of y
keys_after [] p q x y e hx hy =
    let sx : p ≡ x = cc in
    let sy : q ≡ y = cc in
    ap (map key_of) (sym sx) ∙ e ∙ ap (map key_of) sy
keys_after (edit ∷ list) p q x y e hx hy =
    by_step (λ u v k gu gv. keys_after list u v x y k gu gv) (edited p edit) (edited q edit) refl refl hx hy
  where
    by_step : ((u v : List Row) → map key_of u ≡ map key_of v → after_edits (Some u) list ≡ Some x → after_edits (Some v) list ≡ Some y → map key_of x ≡ map key_of y)
        → (a b : Option (List Row)) → edited p edit ≡ a → edited q edit ≡ b → after_edits a list ≡ Some x → after_edits b list ≡ Some y → map key_of x ≡ map key_of y
    by_step rest None b ea eb ga gb = absurd (none_after list x ga)
    by_step rest (Some u) None ea eb ga gb = absurd (none_after list y gb)
    by_step rest (Some u) (Some v) ea eb ga gb = rest u v (edit_both p q u v e edit ea eb) ga gb

-- ---- pods that are alike stay so while what is hidden stays hidden

pub stays_alike : (agent : Agent) (p q : Pod) (seq : ℕ) (entry : Entry) → Alike agent p q → Applies p seq entry → Applies q seq entry
    → ((path : List ℕ) → IsHidden agent p path → IsHidden agent q path → IsHidden agent (applied p entry) path × IsHidden agent (applied q entry) path)
    → Alike agent (applied p entry) (applied q entry)
stays_alike agent p q seq entry alike a b hidden =
    let pa : applied p entry ≡ with_rows p a.rows = ap (with_rows_if p) a.edits in
    let qa : applied q entry ≡ with_rows q b.rows = ap (with_rows_if q) b.edits in
    let keys : map key_of a.rows ≡ map key_of b.rows =
    keys_after entry.edits.items p.rows q.rows a.rows b.rows (same_keys p.rows q.rows alike.paths alike.kinds) a.edits b.edits in
    record {
      base = ap (λ (x : Pod). x.base) pa ∙ alike.base ∙ sym (ap (λ (x : Pod). x.base) qa);
      owner = ap (λ (x : Pod). x.owner) pa ∙ alike.owner ∙ sym (ap (λ (x : Pod). x.owner) qa);
      paths = ap (λ (x : Pod). map path_of x.rows) pa ∙ paths_from a.rows b.rows keys ∙ sym (ap (λ (x : Pod). map path_of x.rows) qa);
      kinds = ap (λ (x : Pod). map kind_of x.rows) pa ∙ kinds_from a.rows b.rows keys ∙ sym (ap (λ (x : Pod). map kind_of x.rows) qa);
      rows = λ path. ⊎_elim
          (λ same. inl (ap (λ (x : Pod). row_at x.rows path) pa ∙ same_after entry.edits.items p.rows q.rows a.rows b.rows path a.edits b.edits same
          ∙ sym (ap (λ (x : Pod). row_at x.rows path) qa)))
          (λ both. inr (hidden path both.0 both.1))
          (alike.rows path);
    }
