-- Patterns that are put in one after another, each once.
use Rattle.std.proofs.Common.{◌≡◌, ◌||◌, ℕ, Bool, true, false, not, cond, List, [], ◌∷◌, ◌++◌, Option, Some, None, if◌then◌else◌, refl, sym, ap, ◌∙◌}
use Rattle.std.specs.BTreeSet.{BTreeSet, contains}
use Rattle.std.specs.Cmp.{IsEquivalence, eq_by_cmp_equiv}
use Rattle.std.specs.List.{list_any}
use Rattle.std.specs.Ordering.{eq_by_cmp}
use Rattle.std.proofs.Math.Bool.{or-false, or-true}
use Rattle.std.proofs.lemmas.List.Folds.{list_any-append}
use Rattle.std.proofs.lemmas.Map.Steps.{list_any_congr}
use Rattle.graph_patch.specs.PatternOrder.{pattern_cmp}
use Rattle.graph_patch.specs.PatternOrderLaws.{pattern_cmp_total}
use Rattle.graph_patch.specs.declared.pattern.Pattern.{Pattern}
use Rattle.graph_patch.specs.declared.pattern.Slot.{Slot}
use Rattle.n3_patch.specs.declared.triples.PatchNode.{PatchNode}
use Rattle.n3_patch.specs.declared.triples.PatchNode.TheVariants.{Term, Variable, Formula}
use Rattle.n3_patch.specs.declared.triples.PatchTriple.{PatchTriple}
use Rattle.n3_patch.specs.Nodes.{is_this_formula, pattern_from, pattern_of, slot_of}
use Rattle.n3_patch.specs.Parts.{with_pattern}
use Rattle.n3_patch.specs.Progress.{AddsPattern, pattern_like, slot_like}

abbrev pattern_eq : Pattern → Pattern → Bool
pattern_eq = eq_by_cmp pattern_cmp

pattern_eq_laws : IsEquivalence (eq_by_cmp pattern_cmp)
pattern_eq_laws = eq_by_cmp_equiv pattern_cmp_total

last : (b c : Bool) → (c || (b || false)) ≡ cond b true c
last true c = or-true c
last false c = or-false c

either : (b : Bool) (ps qs : List Pattern) → (if not b then ps else qs) ≡ (if b then qs else ps)
either true ps qs = refl
either false ps qs = refl

-- the patterns with one more, as a set
taken : (x y : Pattern) (old : List Pattern) (b had : Bool) → pattern_eq x y ≡ b → list_any (pattern_eq x) old ≡ had
    → cond b true (list_any (pattern_eq y) old) ≡ list_any (pattern_eq y) (if had then old else old ++ x ∷ [])
taken x y old true true e had = sym had ∙ list_any_congr pattern_eq_laws x y old e
taken x y old false true e had = refl
taken x y old b false e had =
    sym (list_any-append (pattern_eq y) old (x ∷ []) ∙ ap (λ c. list_any (pattern_eq y) old || (c || false)) (pattern_eq_laws.symm y x ∙ e)
    ∙ last b (list_any (pattern_eq y) old))

-- a triple with a pattern is that pattern
like_slot : (n : PatchNode) (s : Slot) → slot_of n ≡ Some s → slot_like n ≡ s
like_slot (Term t) s e = cc
like_slot (Variable name) s e = cc
like_slot (Formula i) s e = cc

like_parts : (a b c : Option Slot) (x : Pattern) → pattern_from a b c ≡ Some x → (a ≡ Some x.s) × (b ≡ Some x.p) × (c ≡ Some x.o)
like_parts (Some s) (Some p) (Some o) x e = (cc, cc, cc)
like_parts None b c x e = cc
like_parts (Some s) None c x e = cc
like_parts (Some s) (Some p) None x e = cc

like_pattern : (t : PatchTriple) (x : Pattern) → pattern_of t ≡ Some x → pattern_like t ≡ x
like_pattern t x e =
    let (s, p, o) = like_parts (slot_of t.subject) (slot_of t.predicate) (slot_of t.object) x e in
    let s' = like_slot t.subject x.s s in let p' = like_slot t.predicate x.p p in let o' = like_slot t.object x.o o in
    cc

-- the pattern of a triple in the formula, which is new or known
pub added : (i : ℕ) (t : PatchTriple) (seen after : BTreeSet Pattern) (old new : List Pattern) (x : Pattern) (fresh : Bool)
    → is_this_formula i t.formula ≡ true → pattern_of t ≡ Some x → fresh ≡ not (contains pattern_cmp seen (pattern_like t))
    → ((y : Pattern) → contains pattern_cmp after y ≡ cond (pattern_eq (pattern_like t) y) true (contains pattern_cmp seen y))
    → new ≡ (if fresh then old ++ x ∷ [] else old) → AddsPattern i t seen old after new
added i t seen after old new x fresh inside is fresh_is step new_is h =
    let like = like_pattern t x is in
    let new_are : new ≡ (if list_any (pattern_eq x) old then old else old ++ x ∷ []) =
    new_is ∙ ap (λ b. if b then old ++ x ∷ [] else old) (fresh_is ∙ ap not (ap (contains pattern_cmp seen) like ∙ h x))
    ∙ either (list_any (pattern_eq x) old) (old ++ x ∷ []) old in
    record {
      patterns_are = new_are ∙ sym (ap (λ b. if b then with_pattern old (pattern_of t) else old) inside ∙ ap (with_pattern old) is);
      seen_are = λ y. step y ∙ ap (λ z. cond (pattern_eq z y) true (contains pattern_cmp seen y)) like ∙ ap (cond (pattern_eq x y) true) (h y)
          ∙ taken x y old (pattern_eq x y) (list_any (pattern_eq x) old) refl refl ∙ ap (list_any (pattern_eq y)) (sym new_are);
    }
