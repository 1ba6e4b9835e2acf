-- Lists of entries that grow at their end.
use Rattle.std.proofs.Common.{◌≡◌, ℕ, ◌+◌, List, [], ◌∷◌, ◌++◌, length, map, Option, Some, refl, ap, subst, ◌∙◌, arith, rules}
use Rattle.std.specs.List.{AllByRecursion}
use Rattle.pod_base.specs.declared.moment.Moment.{Moment}
use Rattle.pod_command.specs.declared.entry.Entry.{Entry}
use Rattle.pod_rows.specs.Apply.{Applies, AllApply, applied, replayed}
use Rattle.pod_rows.specs.Pod.{Pod}
use Rattle.pod_records.specs.Records.{last_after}

pub replayed_more : (pod : Pod) (entries : List Entry) (entry : Entry) → replayed pod (entries ++ entry ∷ []) ≡ applied (replayed pod entries) entry
replayed_more pod [] entry = refl
replayed_more pod (one ∷ more) entry = replayed_more (applied pod one) more entry

pub last_more : (last : Option Moment) (entries : List Entry) (entry : Entry) → last_after last (entries ++ entry ∷ []) ≡ Some entry.moment
last_more last [] entry = refl
last_more last (one ∷ more) entry = last_more (Some one.moment) more entry

pub apply_more : (pod : Pod) (next : ℕ) (entries : List Entry) (entry : Entry) → AllApply pod next entries → Applies (replayed pod entries) (next + length entries) entry → AllApply pod next (entries ++ entry ∷ [])
apply_more pod next [] entry h a = (subst (λ n. Applies pod n entry) (omega arith) a, tt)
apply_more pod next (one ∷ more) entry h a = (h.0, apply_more (applied pod one) (next + 1) more entry h.1 (subst (λ n. Applies (replayed (applied pod one) more) n entry) (omega arith) a))

pub apply_split : (pod : Pod) (next : ℕ) (entries : List Entry) (entry : Entry) → AllApply pod next (entries ++ entry ∷ []) → AllApply pod next entries × Applies (replayed pod entries) (next + length entries) entry
apply_split pod next [] entry h = (tt, subst (λ n. Applies pod n entry) (omega arith) h.0)
apply_split pod next (one ∷ more) entry h =
    let rest = apply_split (applied pod one) (next + 1) more entry h.1 in
    ((h.0, rest.0), subst (λ n. Applies (replayed (applied pod one) more) n entry) (omega arith) rest.1)

pub all_more : {X : Type 0} (P : X → Type 0) (xs : List X) (x : X) → AllByRecursion P xs → P x → AllByRecursion P (xs ++ x ∷ [])
all_more P [] x h p = (p, tt)
all_more P (y ∷ ys) x h p = (h.0, all_more P ys x h.1 p)

pub all_split : {X : Type 0} (P : X → Type 0) (xs : List X) (x : X) → AllByRecursion P (xs ++ x ∷ []) → AllByRecursion P xs × P x
all_split P [] x h = (tt, h.0)
all_split P (y ∷ ys) x h = let rest = all_split P ys x h.1 in ((h.0, rest.0), rest.1)

pub map_more : {X Y : Type 0} (f : X → Y) (xs : List X) (x : X) → map f (xs ++ x ∷ []) ≡ map f xs ++ f x ∷ []
map_more f [] x = refl
map_more f (y ∷ ys) x = ap (λ l. f y ∷ l) (map_more f ys x)

-- a list whose texts end in this one
pub record EndsIn {X Y : Type 0} (f : X → Y) (texts : List Y) (text : Y) (xs : List X) : Type 0 where
  pub front : List X
  pub last : X
  pub are : xs ≡ front ++ last ∷ []
  pub texts_are : texts ≡ map f front
  pub text_is : text ≡ f last

pub ends_in : {X Y : Type 0} (f : X → Y) (texts : List Y) (text : Y) (xs : List X) → texts ++ text ∷ [] ≡ map f xs → EndsIn f texts text xs
ends_in f [] text [] e = search rules
ends_in f (t ∷ ts) text [] e = search rules
ends_in f [] text (x ∷ []) e = record { front = []; last = x; are = refl; texts_are = refl; text_is = search (rules, e) }
ends_in f [] text (x ∷ y ∷ ys) e = search (rules, e)
ends_in f (t ∷ ts) text (x ∷ xs) e =
    let tails : ts ++ text ∷ [] ≡ map f xs = search (rules, e) in
    let heads : t ≡ f x = search (rules, e) in
    let rest = ends_in f ts text xs tails in record {
      front = x ∷ rest.front;
      last = rest.last;
      are = ap (λ l. x ∷ l) rest.are;
      texts_are = ap (λ l. l ∷ ts) heads ∙ ap (λ l. f x ∷ l) rest.texts_are;
      text_is = rest.text_is;
    }
