-- The notices of looks, one after another, are those of all changes.
use Rattle.std.proofs.Common.{◌≡◌, ◌≤◌, ◌<◌, ℕ, suc, ◌+◌, Bool, true, false, cond, List, [], ◌∷◌, ◌++◌, length, filter, map, Option, Some, None, refl, sym, ap, subst, ◌∙◌, arith, append_assoc}
use Rattle.std.specs.Prelude.{nat_le, ◌&&◌, bytes_eq}
use Rattle.std.specs.List.{AllByRecursion}
use Rattle.std.proofs.lemmas.Bool.{leb-true, le-leb}
use Rattle.std.proofs.lemmas.List.{append-nil}
use mathlib.Core.List.{IsPrefix}
use Rattle.pod_base.specs.declared.agent.Agent.{Agent}
use Rattle.pod_base.proofs.Prefixes.{prefix_length}
use Rattle.pod_command.specs.declared.edit.Edit.{Edit}
use Rattle.pod_command.specs.declared.edit.Edit.TheVariants as edits
use Rattle.pod_command.specs.declared.entry.Entry.{Entry}
use Rattle.pod_command.specs.declared.row.Row.{Row}
use Rattle.pod_rows.specs.Apply.{AllApply, after_edits, applied, edited_if, replayed, with_rows_if}
use Rattle.pod_rows.specs.Pod.{Pod}
use Rattle.pod_pages.specs.Effects.{effect_of, effects_if, effects_of, entry_effects, history_effects, kept_effects}
use Rattle.pod_pages.specs.State.{VersionState, state_after, states_after}
use Rattle.pod_pages.specs.declared.entry_effects.Effect.{Effect}
use Rattle.pod_pages.proofs.EditSteps.{filter_append}
use Rattle.pod_pages.proofs.History.{kept_later, next_replayed, oldest_grows, pod_replayed}
use Rattle.pod_feed.specs.News.{is_news, notices_of}
use Rattle.pod_feed.specs.Notices.{notice_of}
use Rattle.pod_feed.specs.EachChange.{all_effects, all_notices}
use Rattle.pod_feed.specs.Feeds.{AllReport, Continues, notices_from}
use Rattle.pod_feed.proofs.FeedLemmas.{continues_prefix}

-- ---- what versions keep

grows : (v : VersionState) (history : List Entry) → v.oldest ≤ (states_after v history).oldest
grows v [] = omega arith
grows v (entry ∷ more) = omega (arith, grows (state_after v entry) more, oldest_grows v.oldest (v.next + 1))

kept_append : (last : ℕ) (xs ys : List Effect) → kept_effects last (xs ++ ys) ≡ kept_effects last xs ++ kept_effects last ys
kept_append last xs ys = filter_append (λ (e : Effect). nat_le last e.seq) xs ys

-- from the oldest entry on that a version keeps, it keeps all effects
kept_all : (v : VersionState) (history : List Entry) (last : ℕ) → (states_after v history).oldest ≤ last → kept_effects last (states_after v history).effects ≡ kept_effects last (v.effects ++ history_effects v.pod history)
kept_all v [] last le = ap (kept_effects last) (sym (append-nil v.effects))
kept_all v (entry ∷ more) last le =
    kept_all next more last le
    ∙ (kept_append last (kept_effects next.oldest both) later
    ∙ (ap (λ (xs : List Effect). xs ++ kept_effects last later) (kept_later next.oldest last (omega (arith, le, grows next more)) both)
    ∙ (sym (kept_append last both later)
    ∙ ap (kept_effects last) (append_assoc v.effects (entry_effects v.pod entry) later))))
  where
    next : VersionState
    next = state_after v entry

    both : List Effect
    both = v.effects ++ entry_effects v.pod entry

    later : List Effect
    later = history_effects (applied v.pod entry) more

-- ---- numbers of effects

-- the number of an effect is that of its entry
effect_number : (seq : ℕ) (rows : List Row) (edit : Edit) → (effect_of seq rows edit).seq ≡ seq
effect_number seq rows (edits.Put row) = refl
effect_number seq rows (edits.Change path change modified) = refl
effect_number seq rows (edits.Touch path modified) = refl
effect_number seq rows (edits.Remove path) = refl

all_append : (P : Effect → Type 0) (xs ys : List Effect) → AllByRecursion P xs → AllByRecursion P ys → AllByRecursion P (xs ++ ys)
all_append P [] ys p q = q
all_append P (x ∷ xs) ys p q = (p.0, all_append P xs ys p.1 q)

all_weaker : (P Q : Effect → Type 0) → ((e : Effect) → P e → Q e) → (xs : List Effect) → AllByRecursion P xs → AllByRecursion Q xs
all_weaker P Q f [] p = tt
all_weaker P Q f (x ∷ xs) p = (f x p.0, all_weaker P Q f xs p.1)

numbers_if : (seq : ℕ) (rows : Option (List Row)) (edit : Edit) → AllByRecursion (λ (e : Effect). e.seq ≡ seq) (effects_if seq rows edit)
numbers_if seq None edit = tt
numbers_if seq (Some rows) edit = (effect_number seq rows edit, tt)

numbers : (seq : ℕ) (rows : Option (List Row)) (list : List Edit) → AllByRecursion (λ (e : Effect). e.seq ≡ seq) (effects_of seq rows list)
numbers seq rows [] = tt
numbers seq rows (edit ∷ more) = all_append (λ (e : Effect). e.seq ≡ seq) (effects_if seq rows edit) (effects_of seq (edited_if rows edit) more) (numbers_if seq rows edit) (numbers seq (edited_if rows edit) more)

-- entries that apply in order have the numbers from the next one on
from_next : (pod : Pod) (next : ℕ) (entries : List Entry) → AllApply pod next entries → AllByRecursion (λ (e : Effect). next ≤ e.seq) (history_effects pod entries)
from_next pod next [] a = tt
from_next pod next (entry ∷ more) a = all_append (λ (e : Effect). next ≤ e.seq) (entry_effects pod entry) (history_effects (applied pod entry) more)
    (all_weaker (λ (e : Effect). e.seq ≡ entry.seq) (λ (e : Effect). next ≤ e.seq) (λ e is. omega (arith, is, a.0.number)) (entry_effects pod entry) (numbers entry.seq (Some pod.rows) entry.edits.items))
    (all_weaker (λ (e : Effect). next + 1 ≤ e.seq) (λ (e : Effect). next ≤ e.seq) (λ e le. omega (arith, le)) (history_effects (applied pod entry) more) (from_next (applied pod entry) (next + 1) more a.1))

below_end : (pod : Pod) (next : ℕ) (entries : List Entry) → AllApply pod next entries → AllByRecursion (λ (e : Effect). e.seq < next + length entries) (history_effects pod entries)
below_end pod next [] a = tt
below_end pod next (entry ∷ more) a = all_append (λ (e : Effect). e.seq < next + suc (length more)) (entry_effects pod entry) (history_effects (applied pod entry) more)
    (all_weaker (λ (e : Effect). e.seq ≡ entry.seq) (λ (e : Effect). e.seq < next + suc (length more)) (λ e is. omega (arith, is, a.0.number)) (entry_effects pod entry) (numbers entry.seq (Some pod.rows) entry.edits.items))
    (all_weaker (λ (e : Effect). e.seq < next + 1 + length more) (λ (e : Effect). e.seq < next + suc (length more)) (λ e le. omega (arith, le)) (history_effects (applied pod entry) more) (below_end (applied pod entry) (next + 1) more a.1))

kept_none : (n : ℕ) (xs : List Effect) → AllByRecursion (λ (e : Effect). e.seq < n) xs → kept_effects n xs ≡ []
kept_none n [] a = refl
kept_none n (x ∷ xs) a = by_test (nat_le n x.seq) refl (kept_none n xs a.1)
  where
    by_test : (b : Bool) → nat_le n x.seq ≡ b → kept_effects n xs ≡ [] → cond b (x ∷ kept_effects n xs) (kept_effects n xs) ≡ []
    by_test true is rest = absurd (omega (arith, a.0, leb-true n x.seq is))
    by_test false is rest = rest

kept_whole : (n : ℕ) (xs : List Effect) → AllByRecursion (λ (e : Effect). n ≤ e.seq) xs → kept_effects n xs ≡ xs
kept_whole n [] a = refl
kept_whole n (x ∷ xs) a =
    ap (λ (b : Bool). cond b (x ∷ kept_effects n xs) (kept_effects n xs)) (le-leb n x.seq a.0)
    ∙ ap (λ (ys : List Effect). x ∷ ys) (kept_whole n xs a.1)

-- ---- two parts of a history

history_parts : (pod : Pod) (xs ys : List Entry) → history_effects pod (xs ++ ys) ≡ history_effects pod xs ++ history_effects (replayed pod xs) ys
history_parts pod [] ys = refl
history_parts pod (entry ∷ xs) ys =
    ap (λ (es : List Effect). entry_effects pod entry ++ es) (history_parts (applied pod entry) xs ys)
    ∙ sym (append_assoc (entry_effects pod entry) (history_effects (applied pod entry) xs) (history_effects (replayed (applied pod entry) xs) ys))

first_part : (pod : Pod) (next : ℕ) (xs ys : List Entry) → AllApply pod next (xs ++ ys) → AllApply pod next xs
first_part pod next [] ys a = tt
first_part pod next (entry ∷ xs) ys a = (a.0, first_part (applied pod entry) (next + 1) xs ys a.1)

later_part : (pod : Pod) (next : ℕ) (xs ys : List Entry) → AllApply pod next (xs ++ ys) → AllApply (replayed pod xs) (next + length xs) ys
later_part pod next [] ys a = subst (λ (n : ℕ). AllApply pod n ys) (zero_more next) a
  where
    zero_more : (n : ℕ) → n ≡ n + 0
    zero_more n = omega arith
later_part pod next (entry ∷ xs) ys a =
    subst (λ (n : ℕ). AllApply (replayed (applied pod entry) xs) n ys) (one_more next (length xs)) (later_part (applied pod entry) (next + 1) xs ys a.1)
  where
    one_more : (n m : ℕ) → n + 1 + m ≡ n + suc m
    one_more n m = omega arith

base_kept : (pod : Pod) (rows : Option (List Row)) → (with_rows_if pod rows).base ≡ pod.base
base_kept pod None = refl
base_kept pod (Some rows) = refl

base_replayed : (pod : Pod) (entries : List Entry) → (replayed pod entries).base ≡ pod.base
base_replayed pod [] = refl
base_replayed pod (entry ∷ more) = base_replayed (applied pod entry) more ∙ base_kept pod (after_edits (Some pod.rows) entry.edits.items)

-- ---- notices

module _ (base topic : List ℕ) where
  -- the notices on the topic of the effects from a number on
  told : ℕ → List Effect → List (List ℕ)
  told last xs = map (notice_of base) (filter (λ (e : Effect). bytes_eq e.path topic) (kept_effects last xs))

  map_append : (f : Effect → List ℕ) (xs ys : List Effect) → map f (xs ++ ys) ≡ map f xs ++ map f ys
  map_append f [] ys = refl
  map_append f (x ∷ xs) ys = ap (λ (zs : List (List ℕ)). f x ∷ zs) (map_append f xs ys)

  news_kept : (last : ℕ) (xs : List Effect) → filter (is_news last topic) xs ≡ filter (λ (e : Effect). bytes_eq e.path topic) (kept_effects last xs)
  news_kept last [] = refl
  news_kept last (x ∷ xs) = by_tests (nat_le last x.seq) (bytes_eq x.path topic) refl (news_kept last xs)
    where
      by_tests : (a b : Bool) → bytes_eq x.path topic ≡ b → filter (is_news last topic) xs ≡ filter (λ (e : Effect). bytes_eq e.path topic) (kept_effects last xs)
          → cond (a && b) (x ∷ filter (is_news last topic) xs) (filter (is_news last topic) xs) ≡ filter (λ (e : Effect). bytes_eq e.path topic) (cond a (x ∷ kept_effects last xs) (kept_effects last xs))
      by_tests true true is more = ap (λ (ys : List Effect). x ∷ ys) more ∙ sym (ap (λ (b : Bool). cond b (x ∷ filter (λ (e : Effect). bytes_eq e.path topic) (kept_effects last xs)) (filter (λ (e : Effect). bytes_eq e.path topic) (kept_effects last xs))) is)
      by_tests true false is more = more ∙ sym (ap (λ (b : Bool). cond b (x ∷ filter (λ (e : Effect). bytes_eq e.path topic) (kept_effects last xs)) (filter (λ (e : Effect). bytes_eq e.path topic) (kept_effects last xs))) is)
      by_tests false b is more = more

  news_told : (last : ℕ) (xs : List Effect) → map (notice_of base) (filter (is_news last topic) xs) ≡ told last xs
  unfolding told
  news_told last xs = ap (map (notice_of base)) (news_kept last xs)

  told_append : (last : ℕ) (xs ys : List Effect) → told last (xs ++ ys) ≡ told last xs ++ told last ys
  unfolding told
  told_append last xs ys =
      ap (λ (es : List Effect). map (notice_of base) (filter (λ (e : Effect). bytes_eq e.path topic) es)) (kept_append last xs ys)
      ∙ (ap (map (notice_of base)) (filter_append (λ (e : Effect). bytes_eq e.path topic) (kept_effects last xs) (kept_effects last ys))
      ∙ map_append (notice_of base) (filter (λ (e : Effect). bytes_eq e.path topic) (kept_effects last xs)) (filter (λ (e : Effect). bytes_eq e.path topic) (kept_effects last ys)))

  told_kept : (last : ℕ) (xs ys : List Effect) → kept_effects last xs ≡ kept_effects last ys → told last xs ≡ told last ys
  unfolding told
  told_kept last xs ys e = ap (λ (es : List Effect). map (notice_of base) (filter (λ (e : Effect). bytes_eq e.path topic) es)) e

  told_none : (n : ℕ) (xs : List Effect) → AllByRecursion (λ (e : Effect). e.seq < n) xs → told n xs ≡ []
  unfolding told
  told_none n xs a = ap (λ (es : List Effect). map (notice_of base) (filter (λ (e : Effect). bytes_eq e.path topic) es)) (kept_none n xs a)

  -- effects from a number on, after others before it
  told_later : (last n : ℕ) (xs ys : List Effect) → last ≤ n → AllByRecursion (λ (e : Effect). e.seq < n) xs → AllByRecursion (λ (e : Effect). n ≤ e.seq) ys → told last xs ++ told n (xs ++ ys) ≡ told last (xs ++ ys)
  unfolding told
  told_later last n xs ys le below from =
      let whole : kept_effects last ys ≡ ys = kept_whole last ys (all_weaker (λ (e : Effect). n ≤ e.seq) (λ (e : Effect). last ≤ e.seq) (λ e more. omega (arith, le, more)) ys from) in
      let same : told n ys ≡ told last ys = ap (λ (es : List Effect). map (notice_of base) (filter (λ (e : Effect). bytes_eq e.path topic) es)) (kept_whole n ys from ∙ sym whole) in
      ap (λ (ns : List (List ℕ)). told last xs ++ ns) (told_append n xs ys ∙ (ap (λ (ns : List (List ℕ)). ns ++ told n ys) (told_none n xs below) ∙ same))
      ∙ sym (told_append last xs ys)

module _ (opened : VersionState) (topic : List ℕ) (agent : Agent) (old : AllByRecursion (λ (e : Effect). e.seq < opened.next) opened.effects) where
  abbrev base : List ℕ
  base = opened.pod.base

  same_base : (seen : List Entry) → (states_after opened seen).pod.base ≡ base
  same_base seen = ap (λ (p : Pod). p.base) (pod_replayed opened seen) ∙ base_replayed opened.pod seen

  -- one look reports all there is
  look_told : (last : ℕ) (seen : List Entry) → (states_after opened seen).oldest ≤ last → notices_of (states_after opened seen) last topic ≡ told base topic last (all_effects opened seen)
  look_told last seen le =
      ap (λ (b : List ℕ). map (notice_of b) (filter (is_news last topic) (states_after opened seen).effects)) (same_base seen)
      ∙ (news_told base topic last (states_after opened seen).effects
      ∙ told_kept base topic last (states_after opened seen).effects (all_effects opened seen) (kept_all opened seen last le))

  below_more : (seen : List Entry) → AllApply opened.pod opened.next seen → AllByRecursion (λ (e : Effect). e.seq < opened.next + length seen) (all_effects opened seen)
  below_more seen a = all_append (λ (e : Effect). e.seq < opened.next + length seen) opened.effects (history_effects opened.pod seen)
      (all_weaker (λ (e : Effect). e.seq < opened.next) (λ (e : Effect). e.seq < opened.next + length seen) (λ e lt. omega (arith, lt)) opened.effects old)
      (below_end opened.pod opened.next seen a)

  -- a look, and then all that follows
  step : (last : ℕ) (seen more after : List Entry) → seen ++ more ≡ after → AllApply opened.pod opened.next after → last ≤ opened.next + length seen
      → told base topic last (all_effects opened seen) ++ told base topic (opened.next + length seen) (all_effects opened after) ≡ told base topic last (all_effects opened after)
  step last seen more after is apply le =
      let whole : all_effects opened after ≡ all_effects opened seen ++ history_effects (replayed opened.pod seen) more =
      ap (all_effects opened) (sym is) ∙ (ap (λ (es : List Effect). opened.effects ++ es) (history_parts opened.pod seen more) ∙ sym (append_assoc opened.effects (history_effects opened.pod seen) (history_effects (replayed opened.pod seen) more))) in
      let both : AllApply opened.pod opened.next (seen ++ more) = subst (AllApply opened.pod opened.next) (sym is) apply in
      subst (λ (es : List Effect). told base topic last (all_effects opened seen) ++ told base topic (opened.next + length seen) es ≡ told base topic last es) (sym whole)
      (told_later base topic last (opened.next + length seen) (all_effects opened seen) (history_effects (replayed opened.pod seen) more) le
      (below_more seen (first_part opened.pod opened.next seen more both))
      (from_next (replayed opened.pod seen) (opened.next + length seen) more (later_part opened.pod opened.next seen more both)))

  tells : (last : ℕ) (look : List Entry) (looks : List (List Entry)) (after : List Entry) → AllApply opened.pod opened.next after → last ≤ opened.next + length look → Continues look looks after → AllReport opened topic agent last (look ∷ looks)
      → notices_from opened topic last (look ∷ looks) ≡ told base topic last (all_effects opened after)
  tells last look [] after apply le c r =
      append-nil (notices_of (states_after opened look) last topic)
      ∙ (look_told last look r.0.1 ∙ ap (λ (seen : List Entry). told base topic last (all_effects opened seen)) c)
  tells last look (other ∷ looks) after apply le c r =
      let next : (states_after opened look).next ≡ opened.next + length look = next_replayed opened look in
      let ahead : IsPrefix look after = continues_prefix look (other ∷ looks) after c in
      ap (λ (ns : List (List ℕ)). ns ++ notices_from opened topic (states_after opened look).next (other ∷ looks)) (look_told last look r.0.1)
      ∙ (ap (λ (ns : List (List ℕ)). told base topic last (all_effects opened look) ++ ns) (tells (states_after opened look).next other looks after apply (omega (arith, next, prefix_length look other c.0)) c.1 r.1)
      ∙ (ap (λ (n : ℕ). told base topic last (all_effects opened look) ++ told base topic n (all_effects opened after)) next
      ∙ step last look ahead.0 after ahead.1 apply le))

  pub tells_each_change : (last : ℕ) (before look : List Entry) (looks : List (List Entry)) (after : List Entry) → AllApply opened.pod opened.next after → last ≤ opened.next + length before → Continues before (look ∷ looks) after → AllReport opened topic agent last (look ∷ looks)
      → notices_from opened topic last (look ∷ looks) ≡ all_notices opened topic last after
  tells_each_change last before look looks after apply le c r =
      tells last look looks after apply (omega (arith, le, prefix_length before look c.0)) c.1 r
      ∙ sym (news_told base topic last (all_effects opened after))
