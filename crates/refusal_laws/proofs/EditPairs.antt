-- Edits that differ in pairs at some paths alone make rows that differ at these alone.
use Rattle.std.proofs.Common.{◌≡◌, ◌⊎◌, inl, inr, ℕ, Bool, true, false, cond, not, List, [], ◌∷◌, ◌++◌, map, filter, Option, Some, None, refl, sym, ap, ap₂, subst, ◌∙◌}
use Rattle.std.specs.Prelude.{bytes_eq}
use Rattle.std.proofs.lemmas.Slice.Eq.{bytes_eq-Decides}
use Rattle.pod_base.specs.declared.moment.Moment.{Moment}
use Rattle.pod_command.specs.declared.edit.Edit.{Edit}
use Rattle.pod_command.specs.declared.edit.Edit.TheVariants as edits
use Rattle.pod_command.specs.declared.row.Content.{Content}
use Rattle.pod_command.specs.declared.row.Content.TheVariants as contents
use Rattle.pod_command.specs.declared.row.Row.{Row}
use Rattle.pod_edits.proofs.FoundRows.{found_path, put_found, removed_found}
use Rattle.pod_rows.proofs.Steps.{edits_none}
use Rattle.pod_rows.specs.Apply.{after_edits, change_found, changed_row, edited, is_before, put_found as found_put, put_row, remove_found, remove_row, touch_found, with_content, with_moment}
use Rattle.pod_rows.specs.GraphSets.{changed_graph, has_triples}
use Rattle.pod_rows.specs.Pod.{row_at}
use Rattle.rdf_graph.specs.declared.change.Change.{Change}
use Rattle.reply_laws.specs.Alike.{path_of}

-- ---- pairs

-- Two edits of one kind at one path. They are the same, or the path is one that may differ.
pub data IsPair (Differ : List ℕ → Type 0) : Edit → Edit → Type 0 where
  puts : (r s : Row) → r.path ≡ s.path → (r ≡ s) ⊎ Differ r.path → IsPair Differ (edits.Put r) (edits.Put s)
  changes : (path : List ℕ) (c d : Change) (m n : Moment) → ((c ≡ d) × (m ≡ n)) ⊎ Differ path → IsPair Differ (edits.Change path c m) (edits.Change path d n)
  touches : (path : List ℕ) (m n : Moment) → (m ≡ n) ⊎ Differ path → IsPair Differ (edits.Touch path m) (edits.Touch path n)
  removes : (path : List ℕ) → IsPair Differ (edits.Remove path) (edits.Remove path)

pub data ArePairs (Differ : List ℕ → Type 0) : List Edit → List Edit → Type 0 where
  no_more : ArePairs Differ [] []
  one_more : (e f : Edit) (es fs : List Edit) → IsPair Differ e f → ArePairs Differ es fs → ArePairs Differ (e ∷ es) (f ∷ fs)

module _ (Differ : List ℕ → Type 0) where
  pair_itself : (e : Edit) → IsPair Differ e e
  pair_itself (edits.Put r) = puts r r refl (inl refl)
  pair_itself (edits.Change path c m) = changes path c c m m (inl (refl, refl))
  pair_itself (edits.Touch path m) = touches path m m (inl refl)
  pair_itself (edits.Remove path) = removes path

  pairs_itself : (es : List Edit) → ArePairs Differ es es
  pairs_itself [] = no_more
  pairs_itself (e ∷ es) = one_more e e es es (pair_itself e) (pairs_itself es)

  pub pairs_same : (es fs : List Edit) → es ≡ fs → ArePairs Differ es fs
  pairs_same es fs same = subst (ArePairs Differ es) same (pairs_itself es)

  pub pairs_append : (es fs gs hs : List Edit) → ArePairs Differ es fs → ArePairs Differ gs hs → ArePairs Differ (es ++ gs) (fs ++ hs)
  pairs_append es fs gs hs no_more k = k
  pairs_append es fs gs hs (one_more e f es2 fs2 h more) k = one_more e f (es2 ++ gs) (fs2 ++ hs) h (pairs_append es2 fs2 gs hs more k)

-- ---- a row that is changed

changed_path : (change : Change) (modified : Moment) (r new : Row) (content : Content) → changed_row change modified r content ≡ Some new → new.path ≡ r.path
changed_path change modified r new (contents.Graph triples) h = by_test (has_triples triples change.removed) h
  where
    by_test : (t : Bool) → cond t (Some (with_content r (contents.Graph (changed_graph triples change.removed change.added)) modified)) None ≡ Some new → new.path ≡ r.path
    by_test true k = let same : with_content r (contents.Graph (changed_graph triples change.removed change.added)) modified ≡ new = cc in ap (λ (x : Row). x.path) (sym same)
    by_test false k = absurd cc
changed_path change modified r new (contents.Bytes ctype bytes) h = absurd cc

changed_both : (c d : Change) (m n : Moment) (r s new other : Row) → c ≡ d → m ≡ n → r ≡ s → changed_row c m r r.content ≡ Some new → changed_row d n s s.content ≡ Some other → new ≡ other
changed_both c d m n r s new other ec em er h k =
    let both : Some new ≡ Some other = sym h ∙ (λ i. changed_row (ec i) (em i) (er i) (er i).content) ∙ k in cc

-- ---- what is at one path, where nothing may differ

module _ (Differ : List ℕ → Type 0) (at : List ℕ) (never : Differ at → ⊥) where
  here : {X : Type 0} (path : List ℕ) → X ⊎ Differ path → path ≡ at → X
  here path (inl x) is = x
  here path (inr differs) is = absurd (never (subst Differ is differs))

  both_put : (a b : List Row) (r s : Row) (path : List ℕ) → r.path ≡ path → s.path ≡ path → (path ≡ at → r ≡ s) → row_at a at ≡ row_at b at → row_at (put_row a r) at ≡ row_at (put_row b s) at
  both_put a b r s path er es same e =
      put_found a r at ∙ ap (λ (x : List ℕ). cond (bytes_eq x at) (Some r) (row_at a at)) er ∙ by_test (bytes_eq path at) refl
      ∙ sym (put_found b s at ∙ ap (λ (x : List ℕ). cond (bytes_eq x at) (Some s) (row_at b at)) es)
    where
      by_test : (t : Bool) → bytes_eq path at ≡ t → cond t (Some r) (row_at a at) ≡ cond t (Some s) (row_at b at)
      by_test true h = ap (λ (x : Row). Some x) (same ((bytes_eq-Decides path at).0 h))
      by_test false h = e

  same_row : (a b : List Row) (path : List ℕ) (r s : Row) → row_at a at ≡ row_at b at → row_at a path ≡ Some r → row_at b path ≡ Some s → path ≡ at → r ≡ s
  same_row a b path r s e fr fs is = let both : Some r ≡ Some s = sym fr ∙ ap (row_at a) is ∙ e ∙ ap (row_at b) (sym is) ∙ fs in cc

  put_once : (a b x y : List Row) (path : List ℕ) (o u : Option Row) → found_put a o ≡ Some x → found_put b u ≡ Some y
      → ((r s : Row) → o ≡ Some r → u ≡ Some s → (r.path ≡ path) × (s.path ≡ path) × (path ≡ at → r ≡ s)) → row_at a at ≡ row_at b at → row_at x at ≡ row_at y at
  put_once a b x y path None u hx hy k e = absurd cc
  put_once a b x y path (Some r) None hx hy k e = absurd cc
  put_once a b x y path (Some r) (Some s) hx hy k e =
      let sx : put_row a r ≡ x = cc in
      let sy : put_row b s ≡ y = cc in
      let is = k r s refl refl in
      ap (λ (rows : List Row). row_at rows at) (sym sx) ∙ both_put a b r s path is.0 is.1 is.2 e ∙ ap (λ (rows : List Row). row_at rows at) sy

  change_once : (a b x y : List Row) (path : List ℕ) (c d : Change) (m n : Moment) (o u : Option Row) → row_at a path ≡ o → row_at b path ≡ u → change_found a c m o ≡ Some x → change_found b d n u ≡ Some y
      → (path ≡ at → (c ≡ d) × (m ≡ n)) → row_at a at ≡ row_at b at → row_at x at ≡ row_at y at
  change_once a b x y path c d m n None u fo fu hx hy k e = absurd cc
  change_once a b x y path c d m n (Some r) None fo fu hx hy k e = absurd cc
  change_once a b x y path c d m n (Some r) (Some s) fo fu hx hy k e =
      put_once a b x y path (changed_row c m r r.content) (changed_row d n s s.content) hx hy
      (λ new other en eo. (
        changed_path c m r new r.content en ∙ found_path a path r fo,
        changed_path d n s other s.content eo ∙ found_path b path s fu,
        λ is. changed_both c d m n r s new other (k is).0 (k is).1 (same_row a b path r s e fo fu is) en eo,
      )) e

  touch_once : (a b x y : List Row) (path : List ℕ) (m n : Moment) (o u : Option Row) → row_at a path ≡ o → row_at b path ≡ u → touch_found a m o ≡ Some x → touch_found b n u ≡ Some y
      → (path ≡ at → m ≡ n) → row_at a at ≡ row_at b at → row_at x at ≡ row_at y at
  touch_once a b x y path m n None u fo fu hx hy k e = absurd cc
  touch_once a b x y path m n (Some r) None fo fu hx hy k e = absurd cc
  touch_once a b x y path m n (Some r) (Some s) fo fu hx hy k e =
      let sx : put_row a (with_moment r m) ≡ x = cc in
      let sy : put_row b (with_moment s n) ≡ y = cc in
      ap (λ (rows : List Row). row_at rows at) (sym sx)
      ∙ both_put a b (with_moment r m) (with_moment s n) path (found_path a path r fo) (found_path b path s fu) (λ is. ap₂ with_moment (same_row a b path r s e fo fu is) (k is)) e
      ∙ ap (λ (rows : List Row). row_at rows at) sy

  remove_once : (a b x y : List Row) (path : List ℕ) (o u : Option Row) → row_at a path ≡ o → row_at b path ≡ u → remove_found a o ≡ Some x → remove_found b u ≡ Some y → row_at a at ≡ row_at b at → row_at x at ≡ row_at y at
  remove_once a b x y path None u fo fu hx hy e = absurd cc
  remove_once a b x y path (Some r) None fo fu hx hy e = absurd cc
  remove_once a b x y path (Some r) (Some s) fo fu hx hy e =
      let sx : remove_row a r.path ≡ x = cc in
      let sy : remove_row b s.path ≡ y = cc in
      let one : r.path ≡ s.path = found_path a path r fo ∙ sym (found_path b path s fu) in
      ap (λ (rows : List Row). row_at rows at) (sym sx) ∙ removed_found a r.path at ∙ (λ i. cond (bytes_eq at (one i)) None (e i)) ∙ sym (removed_found b s.path at)
      ∙ ap (λ (rows : List Row). row_at rows at) sy

  edit_once : (f g : Edit) → IsPair Differ f g → (a b x y : List Row) → edited a f ≡ Some x → edited b g ≡ Some y → row_at a at ≡ row_at b at → row_at x at ≡ row_at y at
  edit_once f g (puts r s one same) a b x y hx hy e =
      let sx : put_row a r ≡ x = cc in
      let sy : put_row b s ≡ y = cc in
      ap (λ (rows : List Row). row_at rows at) (sym sx) ∙ both_put a b r s r.path refl (sym one) (here r.path same) e ∙ ap (λ (rows : List Row). row_at rows at) sy
  edit_once f g (changes path c d m n same) a b x y hx hy e = change_once a b x y path c d m n (row_at a path) (row_at b path) refl refl hx hy (here path same) e
  edit_once f g (touches path m n same) a b x y hx hy e = touch_once a b x y path m n (row_at a path) (row_at b path) refl refl hx hy (here path same) e
  edit_once f g (removes path) a b x y hx hy e = remove_once a b x y path (row_at a path) (row_at b path) refl refl hx hy e

  pub rows_after : (es fs : List Edit) → ArePairs Differ es fs → (a b x y : List Row) → after_edits (Some a) es ≡ Some x → after_edits (Some b) fs ≡ Some y → row_at a at ≡ row_at b at → row_at x at ≡ row_at y at
  rows_after es fs no_more a b x y hx hy e =
      let sx : a ≡ x = cc in
      let sy : b ≡ y = cc in
      ap (λ (rows : List Row). row_at rows at) (sym sx) ∙ e ∙ ap (λ (rows : List Row). row_at rows at) sy
  rows_after es fs (one_more f g es2 fs2 h more) a b x y hx hy e = by_first (edited a f) (edited b g) refl refl hx hy (λ u v. rows_after es2 fs2 more u v x y)
    where
      by_first : (o p : Option (List Row)) → edited a f ≡ o → edited b g ≡ p → after_edits o es2 ≡ Some x → after_edits p fs2 ≡ Some y
          → ((u v : List Row) → after_edits (Some u) es2 ≡ Some x → after_edits (Some v) fs2 ≡ Some y → row_at u at ≡ row_at v at → row_at x at ≡ row_at y at) → row_at x at ≡ row_at y at
      by_first None p eo ep ko kp rest = let none : None ≡ Some x = sym (edits_none es2) ∙ ko in absurd cc
      by_first (Some u) None eo ep ko kp rest = let none : None ≡ Some y = sym (edits_none fs2) ∙ kp in absurd cc
      by_first (Some u) (Some v) eo ep ko kp rest = rest u v ko kp (edit_once f g h a b u v eo ep e)

-- ---- the paths of rows

paths_kept : (test : List ℕ → Bool) (rows : List Row) → map path_of (filter (λ row. test row.path) rows) ≡ filter test (map path_of rows)
paths_kept test [] = refl
paths_kept test (row ∷ rows) = by_test (test row.path) ∙ ap (λ (ps : List (List ℕ)). cond (test row.path) (row.path ∷ ps) ps) (paths_kept test rows)
  where
    by_test : (b : Bool) → map path_of (cond b (row ∷ filter (λ row. test row.path) rows) (filter (λ row. test row.path) rows))
        ≡ cond b (row.path ∷ map path_of (filter (λ row. test row.path) rows)) (map path_of (filter (λ row. test row.path) rows))
    by_test true = refl
    by_test false = refl

map_append : (xs ys : List Row) → map path_of (xs ++ ys) ≡ map path_of xs ++ map path_of ys
map_append [] ys = refl
map_append (x ∷ xs) ys = ap (λ (ps : List (List ℕ)). x.path ∷ ps) (map_append xs ys)

paths_put : (rows : List Row) (row : Row) → map path_of (put_row rows row)
    ≡ filter (λ path. is_before path row.path) (map path_of rows) ++ row.path ∷ filter (λ path. is_before row.path path) (map path_of rows)
paths_put rows row =
    map_append (filter (λ other. is_before other.path row.path) rows) (row ∷ filter (λ other. is_before row.path other.path) rows)
    ∙ ap₂ (λ (a b : List (List ℕ)). a ++ row.path ∷ b) (paths_kept (λ path. is_before path row.path) rows) (paths_kept (λ path. is_before row.path path) rows)

put_paths : (p q : List Row) (r s : Row) → map path_of p ≡ map path_of q → r.path ≡ s.path → map path_of (put_row p r) ≡ map path_of (put_row q s)
put_paths p q r s e k =
    paths_put p r
    ∙ (λ i. filter (λ x. is_before x (k i)) (e i) ++ k i ∷ filter (λ x. is_before (k i) x) (e i))
    ∙ sym (paths_put q s)

remove_paths : (p q : List Row) (r s : List ℕ) → map path_of p ≡ map path_of q → r ≡ s → map path_of (remove_row p r) ≡ map path_of (remove_row q s)
remove_paths p q r s e k =
    paths_kept (λ path. not (bytes_eq path r)) p ∙ (λ i. filter (λ x. not (bytes_eq x (k i))) (e i)) ∙ sym (paths_kept (λ path. not (bytes_eq path s)) q)

module _ (a b x y : List Row) (e : map path_of a ≡ map path_of b) where
  paths_put_found : (path : List ℕ) (o u : Option Row) → found_put a o ≡ Some x → found_put b u ≡ Some y → ((r : Row) → o ≡ Some r → r.path ≡ path) → ((s : Row) → u ≡ Some s → s.path ≡ path) → map path_of x ≡ map path_of y
  paths_put_found path None u hx hy k l = absurd cc
  paths_put_found path (Some r) None hx hy k l = absurd cc
  paths_put_found path (Some r) (Some s) hx hy k l =
      let sx : put_row a r ≡ x = cc in
      let sy : put_row b s ≡ y = cc in
      ap (map path_of) (sym sx) ∙ put_paths a b r s e (k r refl ∙ sym (l s refl)) ∙ ap (map path_of) sy

  paths_changed : (path : List ℕ) (c d : Change) (m n : Moment) (o u : Option Row) → row_at a path ≡ o → row_at b path ≡ u → change_found a c m o ≡ Some x → change_found b d n u ≡ Some y → map path_of x ≡ map path_of y
  paths_changed path c d m n None u fo fu hx hy = absurd cc
  paths_changed path c d m n (Some r) None fo fu hx hy = absurd cc
  paths_changed path c d m n (Some r) (Some s) fo fu hx hy =
      paths_put_found path (changed_row c m r r.content) (changed_row d n s s.content) hx hy
      (λ new h. changed_path c m r new r.content h ∙ found_path a path r fo) (λ new h. changed_path d n s new s.content h ∙ found_path b path s fu)

  paths_touched : (path : List ℕ) (m n : Moment) (o u : Option Row) → row_at a path ≡ o → row_at b path ≡ u → touch_found a m o ≡ Some x → touch_found b n u ≡ Some y → map path_of x ≡ map path_of y
  paths_touched path m n None u fo fu hx hy = absurd cc
  paths_touched path m n (Some r) None fo fu hx hy = absurd cc
  paths_touched path m n (Some r) (Some s) fo fu hx hy =
      let sx : put_row a (with_moment r m) ≡ x = cc in
      let sy : put_row b (with_moment s n) ≡ y = cc in
      ap (map path_of) (sym sx) ∙ put_paths a b (with_moment r m) (with_moment s n) e (found_path a path r fo ∙ sym (found_path b path s fu)) ∙ ap (map path_of) sy

  paths_removed : (path : List ℕ) (o u : Option Row) → row_at a path ≡ o → row_at b path ≡ u → remove_found a o ≡ Some x → remove_found b u ≡ Some y → map path_of x ≡ map path_of y
  paths_removed path None u fo fu hx hy = absurd cc
  paths_removed path (Some r) None fo fu hx hy = absurd cc
  paths_removed path (Some r) (Some s) fo fu hx hy =
      let sx : remove_row a r.path ≡ x = cc in
      let sy : remove_row b s.path ≡ y = cc in
      ap (map path_of) (sym sx) ∙ remove_paths a b r.path s.path e (found_path a path r fo ∙ sym (found_path b path s fu)) ∙ ap (map path_of) sy

  paths_edited : (Differ : List ℕ → Type 0) (f g : Edit) → IsPair Differ f g → edited a f ≡ Some x → edited b g ≡ Some y → map path_of x ≡ map path_of y
  paths_edited Differ f g (puts r s one same) hx hy =
      let sx : put_row a r ≡ x = cc in
      let sy : put_row b s ≡ y = cc in
      ap (map path_of) (sym sx) ∙ put_paths a b r s e one ∙ ap (map path_of) sy
  paths_edited Differ f g (changes path c d m n same) hx hy = paths_changed path c d m n (row_at a path) (row_at b path) refl refl hx hy
  paths_edited Differ f g (touches path m n same) hx hy = paths_touched path m n (row_at a path) (row_at b path) refl refl hx hy
  paths_edited Differ f g (removes path) hx hy = paths_removed path (row_at a path) (row_at b path) refl refl hx hy

pub paths_after : (Differ : List ℕ → Type 0) (es fs : List Edit) → ArePairs Differ es fs → (a b x y : List Row) → map path_of a ≡ map path_of b → after_edits (Some a) es ≡ Some x → after_edits (Some b) fs ≡ Some y → map path_of x ≡ map path_of y
paths_after Differ es fs no_more a b x y e hx hy =
    let sx : a ≡ x = cc in
    let sy : b ≡ y = cc in
    ap (map path_of) (sym sx) ∙ e ∙ ap (map path_of) sy
paths_after Differ es fs (one_more f g es2 fs2 h more) a b x y e hx hy = by_first (edited a f) (edited b g) refl refl hx hy (λ u v k. paths_after Differ es2 fs2 more u v x y k)
  where
    by_first : (o p : Option (List Row)) → edited a f ≡ o → edited b g ≡ p → after_edits o es2 ≡ Some x → after_edits p fs2 ≡ Some y
        → ((u v : List Row) → map path_of u ≡ map path_of v → after_edits (Some u) es2 ≡ Some x → after_edits (Some v) fs2 ≡ Some y → map path_of x ≡ map path_of y) → map path_of x ≡ map path_of y
    by_first None p eo ep ko kp rest = let none : None ≡ Some x = sym (edits_none es2) ∙ ko in absurd cc
    by_first (Some u) None eo ep ko kp rest = let none : None ≡ Some y = sym (edits_none fs2) ∙ kp in absurd cc
    by_first (Some u) (Some v) eo ep ko kp rest = rest u v (paths_edited a b u v e Differ f g h eo ep) ko kp
