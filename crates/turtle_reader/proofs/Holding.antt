-- What is kept and what nodes refer to with more meanings, and that no later production names what a reader drops.
use Rattle.std.proofs.Common.{◌≡◌, ◌⊎◌, inl, inr, ⊎_elim, ℕ, zero, suc, ◌<◌, Bool, true, false, List, [], ◌∷◌, ◌++◌, length, Option, Some, None}
use Rattle.std.proofs.Common.{slice_get, refl, sym, ap, ◌∙◌, subst, arith}
use Rattle.std.specs.Prelude.{slice_index_or}
use Rattle.std.proofs.lemmas.List.Elements.{All-head, All-tail, All-cons, All-push, All-weaker}
use Rattle.std.proofs.lemmas.List.{append_assoc}
use Rattle.std.proofs.lemmas.Option.{none-some, slice_get_within}
use Rattle.std.specs.List.{All}
use Rattle.rdf_graph.proofs.Members.{All-left, slice_get-push_before}
use Rattle.rdf_graph.specs.declared.term.Term.TheVariants.{Literal}
use Rattle.turtle_grammar.specs.declared.machine.Machine.{Machine}
use Rattle.turtle_grammar.specs.declared.production.Node.{Node}
use Rattle.turtle_grammar.specs.declared.production.Node.TheVariants as node
use Rattle.turtle_grammar.specs.declared.production.SymbolicTriple.{SymbolicTriple}
use Rattle.turtle_grammar.specs.declared.production.Production.{Production}
use Rattle.turtle_grammar.specs.declared.production.Production.TheVariants.{Prefix, Base, Triple}
use Rattle.turtle_grammar.specs.Names.{IsOther, NodeNames, Names}
use Rattle.turtle_grammar.specs.Readings.{Avoids, WaitingNames}
use Rattle.turtle_reader.specs.declared.kept_meanings.Kept.{Kept}
use Rattle.turtle_reader.specs.declared.kept_meanings.KeptMeanings.{KeptMeanings}
use Rattle.turtle_reader.specs.declared.meaning.Meaning.{Meaning}
use Rattle.turtle_reader.specs.declared.meaning.Meaning.TheVariants as meaning_of
use Rattle.turtle_reader.specs.declared.reader.Reader.{Reader}
use Rattle.turtle_reader.specs.declared.referent.Referent.{Referent}
use Rattle.turtle_reader.specs.Kept.{IsKept, AreKept, Has, entries, is_referred_to, with_meaning, DropsUnnamed, ShortensTo}
use Rattle.turtle_reader.specs.Readings.{IsHeld, AreHeld, produced_last}
use Rattle.turtle_reader.specs.Referents.{term_referent, tagged, typed, referent}

-- the items after one more
pub slice_get_push : {X : Type 0} (xs : List X) (y : X) (k : ℕ) (x : X) → slice_get (xs ++ y ∷ []) k ≡ Some x
    → (slice_get xs k ≡ Some x) ⊎ ((k ≡ length xs) × (y ≡ x))
slice_get_push [] y zero x e = inr (refl, cc)
slice_get_push [] y (suc k) x e = cc
slice_get_push (z ∷ xs) y zero x e = inl e
slice_get_push (z ∷ xs) y (suc k) x e = ⊎_elim (λ l. inl l) (λ r. inr (ap suc r.0, r.1)) (slice_get_push xs y k x e)

still_there : (ms : List Meaning) (more : Meaning) (i : ℕ) (m : Meaning) → slice_get ms i ≡ Some m → slice_get (ms ++ more ∷ []) i ≡ Some m
still_there ms more i m h = slice_get-push_before ms more i (slice_get_within ms i m h) ∙ h

-- What is kept

last_there : (ms : List Meaning) (m : Meaning) → slice_get (ms ++ m ∷ []) (length ms) ≡ Some m
last_there [] m = refl
last_there (n ∷ ms) m = last_there ms m

keeps_more : (m : Meaning) (ms : List Meaning) (list : List Kept) → All (IsKept ms) list → All (IsKept (ms ++ m ∷ [])) list
keeps_more m ms list h = All-weaker (IsKept ms) (IsKept (ms ++ m ∷ [])) (λ k. still_there ms m k.index k.meaning) list h

-- with one lexeme more, what is kept of the others and of this one
pub keeps_with : (b : Bool) (ms : List Meaning) (m : Meaning) (list : List Kept) → All (IsKept ms) list
    → All (IsKept (ms ++ m ∷ [])) (with_meaning b (length ms) m list)
keeps_with true ms m list h = All-push (IsKept (ms ++ m ∷ [])) list _ (keeps_more m ms list h) (last_there ms m)
keeps_with false ms m list h = keeps_more m ms list h

-- What nodes refer to

abbrev got : Referent → Option Referent
got r = Some r

term_still : (a b : Option Meaning) (r : Referent) → ((m : Meaning) → a ≡ Some m → b ≡ Some m) → term_referent a ≡ Some r → term_referent b ≡ Some r
term_still None b r f h = absurd (none-some r h)
term_still (Some m) b r f h = subst (λ (z : Option Meaning). term_referent z ≡ got r) (sym (f m refl)) h

abbrev none : Option Referent
none = None

no_tag : (m : Meaning) → tagged (Some m) None ≡ none
no_tag (meaning_of.Term (Literal l d)) = refl
no_tag (meaning_of.Term _) = refl
no_tag _ = refl

no_type : (m : Meaning) → typed (Some m) None ≡ none
no_type (meaning_of.Term (Literal l d)) = refl
no_type (meaning_of.Term _) = refl
no_type _ = refl

-- what two meanings make together
both_still : (make : Option Meaning → Option Meaning → Option Referent) → ((o : Option Meaning) → make None o ≡ none) → ((m : Meaning) → make (Some m) None ≡ none)
    → (a b c d : Option Meaning) (r : Referent) → ((m : Meaning) → a ≡ Some m → b ≡ Some m) → ((m : Meaning) → c ≡ Some m → d ≡ Some m)
    → make a c ≡ Some r → make b d ≡ Some r
both_still make first second None b c d r f g h = absurd (none-some r (sym (first c) ∙ h))
both_still make first second (Some m) b None d r f g h = absurd (none-some r (sym (second m) ∙ h))
both_still make first second (Some m) b (Some n) d r f g h =
    subst (λ (z : Option Meaning). make z d ≡ got r) (sym (f m refl)) (subst (λ (z : Option Meaning). make (Some m) z ≡ got r) (sym (g n refl)) h)

pub referent_still : (ms : List Meaning) (more : Meaning) (n : Node) (r : Referent) → referent ms n ≡ Some r → referent (ms ++ more ∷ []) n ≡ Some r
referent_still ms more (node.Token i) r h = term_still (slice_get ms i) (slice_get (ms ++ more ∷ []) i) r (still_there ms more i) h
referent_still ms more (node.Tagged i k) r h =
    both_still tagged (λ o. refl) no_tag (slice_get ms i) (slice_get (ms ++ more ∷ []) i) (slice_get ms k) (slice_get (ms ++ more ∷ []) k) r (still_there ms more i) (still_there ms more k) h
referent_still ms more (node.Typed i k) r h =
    both_still typed (λ o. refl) no_type (slice_get ms i) (slice_get (ms ++ more ∷ []) i) (slice_get ms k) (slice_get (ms ++ more ∷ []) k) r (still_there ms more i) (still_there ms more k) h
referent_still ms more _ r h = h

-- What is among kept meanings

pub has_left : (i : ℕ) (xs ys : List Kept) → Has i xs → Has i (xs ++ ys)
has_left i [] ys h = absurd h
has_left i (x ∷ xs) ys (inl e) = inl e
has_left i (x ∷ xs) ys (inr h) = inr (has_left i xs ys h)

pub has_right : (i : ℕ) (xs ys : List Kept) → Has i ys → Has i (xs ++ ys)
has_right i [] ys h = h
has_right i (x ∷ xs) ys h = inr (has_right i xs ys h)

pub has_parts : (i : ℕ) (xs ys : List Kept) → Has i (xs ++ ys) → Has i xs ⊎ Has i ys
has_parts i [] ys h = inr h
has_parts i (x ∷ xs) ys (inl e) = inl (inl e)
has_parts i (x ∷ xs) ys (inr h) = ⊎_elim (λ l. inl (inr l)) (λ r. inr r) (has_parts i xs ys h)

-- what isn't the last one is among those before it
pub has_before : (i : ℕ) (list rest : List Kept) (last : Kept) → list ≡ rest ++ last ∷ [] → (last.index ≡ i → ⊥) → Has i list → Has i rest
has_before i list rest last is other h =
    ⊎_elim (λ left. left) (λ here. ⊎_elim (λ same. absurd (other same)) (λ none. absurd none) here)
    (has_parts i rest (last ∷ []) (subst (Has i) is h))

pub before_kept : (all : List Meaning) (list rest : List Kept) (last : Kept) → list ≡ rest ++ last ∷ [] → All (IsKept all) list → All (IsKept all) rest
before_kept all list rest last is h = All-left (IsKept all) rest (last ∷ []) (subst (All (IsKept all)) is h)

module _ (machine : Machine) where
  abbrev Unnamed : Kept → Type 0
  Unnamed k = Avoids k.index machine

  unnamed_avoided : (i : ℕ) (ks : List Kept) → All Unnamed ks → Has i ks → Avoids i machine
  unnamed_avoided i [] h has = absurd has
  unnamed_avoided i (k ∷ ks) h (inl e) = subst (λ n. Avoids n machine) e (All-head Unnamed k ks h)
  unnamed_avoided i (k ∷ ks) h (inr more) = unnamed_avoided i ks (All-tail Unnamed k ks h) more

  -- one more is dropped at the end
  pub shortens_on : (old mid new : List Kept) (last : Kept) → ShortensTo machine old mid → mid ≡ new ++ last ∷ [] → Avoids last.index machine
      → ShortensTo machine old new
  shortens_on old mid new last (dropped, is, unnamed) parts avoids =
      (last ∷ dropped, is ∙ ap (λ ks. ks ++ dropped) parts ∙ append_assoc new (last ∷ []) dropped, All-cons Unnamed last dropped avoids unnamed)

  pub drops_unnamed : (old new : KeptMeanings) → ShortensTo machine old.list.items new.list.items → DropsUnnamed machine old new
  drops_unnamed old new (dropped, is, unnamed) i h =
      ⊎_elim (λ left. inl left) (λ gone. inr (unnamed_avoided i dropped unnamed gone)) (has_parts i new.list.items dropped (subst (Has i) is h))

  pub drops_kept : (old new : KeptMeanings) → ShortensTo machine old.list.items new.list.items → (all : List Meaning) → AreKept all old → AreKept all new
  drops_kept old new (dropped, is, unnamed) all h = All-left (IsKept all) new.list.items dropped (subst (All (IsKept all)) is h)

-- What productions name is kept

module _ (ms : List Meaning) (kept : KeptMeanings) where
  -- a lexeme to which a production can refer is kept, or P holds
  abbrev HeldOr : ℕ → Type 0 → Type 0
  HeldOr i P = (m : Meaning) → slice_get ms i ≡ Some m → is_referred_to m ≡ true → Has i (entries kept) ⊎ P

  held_at : (i : ℕ) → HeldOr i (IsOther i i) → IsHeld ms kept i
  held_at i h m e r = ⊎_elim (λ has. has) (λ other. absurd (other refl)) (h m e r)

  held_as : (P Q : Type 0) (i : ℕ) → (P → Q) → HeldOr i P → HeldOr i Q
  held_as P Q i f h m e r = ⊎_elim (λ has. inl has) (λ p. inr (f p)) (h m e r)

  node_held : (n : Node) → ((i : ℕ) → HeldOr i (NodeNames (IsOther i) n)) → NodeNames (IsHeld ms kept) n
  node_held (node.Token i) h = held_at i (h i)
  node_held (node.Tagged i k) h = (held_at i (held_as _ _ i (λ names. names.0) (h i)), held_at k (held_as _ _ k (λ names. names.1) (h k)))
  node_held (node.Typed i k) h = (held_at i (held_as _ _ i (λ names. names.0) (h i)), held_at k (held_as _ _ k (λ names. names.1) (h k)))
  node_held _ h = tt

  pub production_held : (x : Production) → ((i : ℕ) → HeldOr i (Names (IsOther i) x)) → Names (IsHeld ms kept) x
  production_held (Prefix i k) h = (held_at i (held_as _ _ i (λ names. names.0) (h i)), held_at k (held_as _ _ k (λ names. names.1) (h k)))
  production_held (Base i) h = held_at i (h i)
  production_held (Triple t) h = (
    node_held t.subject (λ i. held_as _ _ i (λ names. names.0) (h i)),
    node_held t.predicate (λ i. held_as _ _ i (λ names. names.1) (h i)),
    node_held t.object (λ i. held_as _ _ i (λ names. names.2) (h i)),
  )

  pub productions_held : (ps : List Production) → ((i : ℕ) → HeldOr i (All (Names (IsOther i)) ps)) → All (Names (IsHeld ms kept)) ps
  productions_held ps h k d lt = production_held (slice_index_or ps k d) (λ i. held_as _ _ i (λ all. all k d lt) (h i))

-- One lexeme more

more_has : (b : Bool) (i index : ℕ) (m : Meaning) (list : List Kept) → Has i list → Has i (with_meaning b index m list)
more_has true i index m list h = has_left i list _ h
more_has false i index m list h = h

new_has : (b : Bool) (index : ℕ) (m : Meaning) (list : List Kept) → b ≡ true → Has index (with_meaning b index m list)
new_has true index m list e = has_right index list _ (inl refl)
new_has false index m list e = absurd (let f : false ≡ true = e in cc)

module _ (ms : List Meaning) (m : Meaning) (symbols : ℕ) (size : length ms ≡ symbols) (old new : Reader) (mid : KeptMeanings)
    (drops : DropsUnnamed old.machine old.kept mid) (is : entries new.kept ≡ with_meaning (is_referred_to m) (length ms) m (entries mid))
    (held : AreHeld ms old) where
  -- of each lexeme: it is kept, or wasn't named before
  kept_or_avoided : (i : ℕ) (n : Meaning) → slice_get (ms ++ m ∷ []) i ≡ Some n → is_referred_to n ≡ true
      → Has i (entries new.kept) ⊎ (IsOther i symbols × Avoids i old.machine)
  kept_or_avoided i n e r =
      ⊎_elim
      (λ earlier. ⊎_elim
      (λ has. ⊎_elim (λ left. inl (subst (Has i) (sym is) (more_has (is_referred_to m) i (length ms) m (entries mid) left))) (λ avoids. inr (before earlier, avoids)) (drops i has))
      (λ avoids. inr (before earlier, avoids))
      (held i n earlier r))
      (λ last. inl (subst (Has i) (sym is) (subst (λ k. Has k (with_meaning (is_referred_to m) (length ms) m (entries mid))) (sym last.0)
      (new_has (is_referred_to m) (length ms) m (entries mid) (ap is_referred_to last.1 ∙ r)))))
      (slice_get_push ms m i n e)
    where
      before : slice_get ms i ≡ Some n → IsOther i symbols
      before e' same = let lt : i < length ms = slice_get_within ms i n e' in let at : symbols ≡ i = same in absurd (omega (arith, lt, at, size))

  pub held_on : ((i : ℕ) → IsOther i symbols → Avoids i old.machine → Avoids i new.machine × All (Names (IsOther i)) (produced_last new))
      → AreHeld (ms ++ m ∷ []) new × All (Names (IsHeld (ms ++ m ∷ []) new.kept)) (produced_last new)
  held_on names = (
    (λ i n e r. ⊎_elim (λ has. inl has) (λ avoids. inr (names i avoids.0 avoids.1).0) (kept_or_avoided i n e r)),
    productions_held (ms ++ m ∷ []) new.kept (produced_last new)
        (λ i n e r. ⊎_elim (λ has. inl has) (λ avoids. inr (names i avoids.0 avoids.1).1) (kept_or_avoided i n e r)),
  )

pub waiting_held : (ms : List Meaning) (reader : Reader) → AreHeld ms reader → (x : SymbolicTriple) → WaitingNames x reader.machine
    → Names (IsHeld ms reader.kept) (Triple x)
waiting_held ms reader held x names =
    production_held ms reader.kept (Triple x) (λ i m e r. ⊎_elim (λ has. inl has) (λ avoids. inr (names i avoids)) (held i m e r))
