-- Numbers that are freed, and rows that are ready for new numbers.
use Rattle.std.proofs.Common.{◌≡◌, ◌==◌, ◌||◌, ◌&&◌, ◌+◌, ◌<◌, ℕ, Bool, true, false, not, cond, List, [], ◌∷◌, ◌++◌, length, take, get_or, filter, Option, Some, None, refl, sym, ap, ◌∙◌, subst, arith, inl, inr, ◌⊎◌, ⊎_elim}
use Rattle.std.specs.Prelude.{bytes_eq}
use Rattle.std.specs.List.{list_any}
use Rattle.std.proofs.lemmas.Bool.{true≢false, false≢true, eqb-true, and_parts, and_from}
use Rattle.std.proofs.lemmas.List.{take_more}
use Rattle.std.proofs.lemmas.Slice.Eq.{bytes_eq-Decides}
use Rattle.pod_path.specs.Hierarchy.{subject_of}
use Rattle.pod_command.specs.declared.row.Row.{Row}
use Rattle.pod_rows.specs.Access.{has_own_list, list_path}
use Rattle.access_index.specs.Listing.{is_listed}
use Rattle.access_index.specs.Tables.{ArePlain, list_subjects}
use Rattle.access_index.proofs.Kept.{subjects_listed}
use Rattle.row_pages.specs.Items.{Placed, rows_of}
use Rattle.pod_pages.specs.Lists.{list_at}
use Rattle.pod_pages.specs.Marks.{own_number}
use Rattle.pod_pages.specs.Numbering.{AreNumbered, AreReady, IsListOf, Places, frees, is_freed, is_number}
use Rattle.pod_pages.specs.declared.list_table.AccessList.{AccessList}

-- ---- one more subject

cond_or : {X : Type 0} (a b : Bool) (x y : X) → cond a x (cond b x y) ≡ cond (b || a) x y
cond_or true true x y = refl
cond_or true false x y = refl
cond_or false true x y = refl
cond_or false false x y = refl

or_none : (a : Bool) → (a || false) ≡ a
or_none true = refl
or_none false = refl

or_group : (a b c : Bool) → (a || (b || c)) ≡ ((a || b) || c)
or_group true b c = refl
or_group false b c = refl

any_end : {X : Type 0} (p : X → Bool) (xs : List X) (x : X) → list_any p (xs ++ x ∷ []) ≡ (list_any p xs || p x)
any_end p [] x = or_none (p x)
any_end p (y ∷ ys) x = ap (λ (b : Bool). p y || b) (any_end p ys x) ∙ or_group (p y) (list_any p ys) (p x)

pub freed_more : (rows : List Row) (old : List Placed) (subjects : List (List ℕ)) (i : ℕ) (s : List ℕ) (first now next : Places) (k : ℕ) → i < length subjects → s ≡ get_or subjects i s
    → list_at now k ≡ cond (is_freed rows old (take i subjects) k) None (list_at first k) → list_at next k ≡ cond (frees rows old k s) None (list_at now k)
    → list_at next k ≡ cond (is_freed rows old (take (i + 1) subjects) k) None (list_at first k)
freed_more rows old subjects i s first now next k lt e before step =
    step ∙ ap (cond (frees rows old k s) None) before
    ∙ cond_or (frees rows old k s) (is_freed rows old (take i subjects) k) None (list_at first k)
    ∙ ap (λ (b : Bool). cond b None (list_at first k))
    (sym (ap (list_any (frees rows old k)) (take_more subjects i s lt ∙ ap (λ (x : List ℕ). take i subjects ++ x ∷ []) (sym e)) ∙ any_end (frees rows old k) (take i subjects) s))

-- ---- which numbers are freed

record Freed (rows : List Row) (old : List Placed) (subjects : List (List ℕ)) (k : ℕ) : Type 0 where
  at : List ℕ
  listed : is_listed subjects at ≡ true
  plain : subject_of at ≡ None
  lacks : has_own_list rows at ≡ false
  number : own_number old at ≡ Some k

not_false : (b : Bool) → not b ≡ true → b ≡ false
not_false true h = absurd (false≢true h)
not_false false h = refl

number_is : (k : ℕ) (o : Option ℕ) → is_number k o ≡ true → o ≡ Some k
number_is k None h = absurd (false≢true h)
number_is k (Some n) h = ap (λ (x : ℕ). Some x) (sym (eqb-true k n h))

or_true : (a : Bool) → (a || true) ≡ true
or_true true = refl
or_true false = refl

freed_by : (rows : List Row) (old : List Placed) (subjects : List (List ℕ)) (k : ℕ) → ArePlain subjects → is_freed rows old subjects k ≡ true → Freed rows old subjects k
freed_by rows old [] k plain h = absurd (false≢true h)
freed_by rows old (s ∷ ss) k plain h = by_test (frees rows old k s) refl h (freed_by rows old ss k plain.1)
  where
    by_test : (b : Bool) → frees rows old k s ≡ b → (b || is_freed rows old ss k) ≡ true → (is_freed rows old ss k ≡ true → Freed rows old ss k) → Freed rows old (s ∷ ss) k
    by_test true e z more =
        let parts = and_parts (not (has_own_list rows s)) (is_number k (own_number old s)) e in
        record {
          at = s;
          listed = ap (λ (b : Bool). b || is_listed ss s) ((bytes_eq-Decides s s).1 refl);
          plain = plain.0;
          lacks = not_false (has_own_list rows s) parts.0;
          number = number_is k (own_number old s) parts.1;
        }
    by_test false e z more =
        let f = more z in
        record { at = f.at; listed = ap (λ (b : Bool). bytes_eq s f.at || b) f.listed ∙ or_true (bytes_eq s f.at); plain = f.plain; lacks = f.lacks; number = f.number }

frees_it : (rows : List Row) (old : List Placed) (k : ℕ) (s : List ℕ) → has_own_list rows s ≡ false → own_number old s ≡ Some k → frees rows old k s ≡ true
frees_it rows old k s lacks e =
    and_from (not (has_own_list rows s)) (is_number k (own_number old s)) (ap not lacks) (ap (is_number k) e ∙ Rattle.std.proofs.Common.eq-eqb k k refl)

freed_at : (rows : List Row) (old : List Placed) (subjects : List (List ℕ)) (k : ℕ) (s : List ℕ) → is_listed subjects s ≡ true → has_own_list rows s ≡ false → own_number old s ≡ Some k → is_freed rows old subjects k ≡ true
freed_at rows old [] k s h lacks e = absurd (false≢true h)
freed_at rows old (t ∷ ts) k s h lacks e = by_test (bytes_eq t s) refl h (λ z. freed_at rows old ts k s z lacks e)
  where
    by_test : (b : Bool) → bytes_eq t s ≡ b → (b || is_listed ts s) ≡ true → (is_listed ts s ≡ true → is_freed rows old ts k ≡ true) → is_freed rows old (t ∷ ts) k ≡ true
    by_test true q z more =
        let same : t ≡ s = (bytes_eq-Decides t s).0 q in
        ap (λ (b : Bool). b || is_freed rows old ts k) (frees_it rows old k t (ap (has_own_list rows) same ∙ lacks) (ap (own_number old) same ∙ e))
    by_test false q z more = ap (λ (b : Bool). frees rows old k t || b) (more z) ∙ or_true (frees rows old k t)

-- ---- rows that are ready for new numbers

pub ready : (base : List ℕ) (old : List Placed) (places : Places) (first : List Placed) (touched subjects : List (List ℕ)) (freed : Places)
    → AreReady base old places first touched → subjects ≡ list_subjects touched → ArePlain subjects
    → ((k : ℕ) → list_at freed k ≡ cond (is_freed (rows_of first) old subjects k) None (list_at places k))
    → AreNumbered base first subjects first freed
ready base old places first touched subjects freed a is plain set = record {
  rows = refl;
  has = λ q p h. a.has q p (sym (touches q) ∙ h);
  lists = by_lists;
  numbers = λ k l e. a.back l.at k (a.numbers k l (was k l e)) (a.tree.subjects l.at (owns k l e));
  owners = owns;
  rules = λ k l e h. a.rules k l (was k l e) (sym (touches l.at) ∙ h);
  stable = λ q k e h. e;
}
  where
    touches : (q : List ℕ) → is_listed subjects q ≡ is_listed touched (list_path q)
    touches q = ap (λ (xs : List (List ℕ)). is_listed xs q) is ∙ subjects_listed touched q

    kept_or : (k : ℕ) (l : AccessList) (b : Bool) → is_freed (rows_of first) old subjects k ≡ b → list_at freed k ≡ Some l → (b ≡ false) × (list_at places k ≡ Some l)
    kept_or k l true e f =
        let none : None ≡ Some l = sym (set k ∙ ap (λ (b : Bool). cond b None (list_at places k)) e) ∙ f in
        absurd cc
    kept_or k l false e f = (refl, sym (set k ∙ ap (λ (b : Bool). cond b None (list_at places k)) e) ∙ f)

    was : (k : ℕ) (l : AccessList) → list_at freed k ≡ Some l → list_at places k ≡ Some l
    was k l f = (kept_or k l (is_freed (rows_of first) old subjects k) refl f).1

    owns : (k : ℕ) (l : AccessList) → list_at freed k ≡ Some l → has_own_list (rows_of first) l.at ≡ true
    owns k l f = by_touched (is_listed touched (list_path l.at)) refl
      where
        by_own : is_listed touched (list_path l.at) ≡ true → (b : Bool) → has_own_list (rows_of first) l.at ≡ b → b ≡ true
        by_own t true h = refl
        by_own t false h =
            absurd (true≢false (sym (freed_at (rows_of first) old subjects k l.at (touches l.at ∙ t) h (a.numbers k l (was k l f))) ∙ (kept_or k l (is_freed (rows_of first) old subjects k) refl f).0))

        by_touched : (b : Bool) → is_listed touched (list_path l.at) ≡ b → has_own_list (rows_of first) l.at ≡ true
        by_touched true t = by_own t (has_own_list (rows_of first) l.at) refl
        by_touched false t = a.owners k l (was k l f) t

    -- a number of a path with a list isn't freed
    stays : (q : List ℕ) (k : ℕ) → IsListOf places k q → has_own_list (rows_of first) q ≡ true → is_freed (rows_of first) old subjects k ≡ false
    stays q k old_list has = by_freed (is_freed (rows_of first) old subjects k) refl
      where
        by_freed : (b : Bool) → is_freed (rows_of first) old subjects k ≡ b → b ≡ false
        by_freed false e = refl
        by_freed true e =
            let f = freed_by (rows_of first) old subjects k plain e in
            let other = a.lists f.at k f.plain f.number in
            let both : Some other.list ≡ Some old_list.list = sym other.found ∙ old_list.found in
            let one : other.list ≡ old_list.list = cc in
            absurd (true≢false (sym has ∙ ap (has_own_list (rows_of first)) (sym old_list.is ∙ sym (ap (λ (x : AccessList). x.at) one) ∙ other.is) ∙ f.lacks))

    by_lists : (q : List ℕ) (k : ℕ) → subject_of q ≡ None → own_number first q ≡ Some k → has_own_list (rows_of first) q ≡ true → IsListOf freed k q
    by_lists q k p e h =
        let l = a.lists q k p (a.marks q k e) in
        record { list = l.list; found = set k ∙ ap (λ (b : Bool). cond b None (list_at places k)) (stays q k l h) ∙ l.found; is = l.is }
