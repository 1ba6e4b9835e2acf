-- What is made of productions, more of them at a time, and with more meanings.
use Rattle.std.proofs.Common.{◌≡◌, ℕ, List, [], ◌∷◌, ◌++◌, Option, Some, refl, sym, ap, ◌∙◌, subst}
use Rattle.turtle_grammar.specs.declared.production.Within.{Within}
use Rattle.turtle_grammar.specs.declared.production.SymbolicTriple.{SymbolicTriple}
use Rattle.turtle_grammar.specs.declared.production.Production.{Production}
use Rattle.turtle_grammar.specs.declared.production.Production.TheVariants.{Prefix, Base, Triple}
use Rattle.turtle_reader.specs.declared.meaning.Meaning.{Meaning}
use Rattle.turtle_reader.specs.declared.referent.Referent.{Referent}
use Rattle.turtle_reader.specs.declared.referent.ResolvedTriple.{ResolvedTriple}
use Rattle.turtle_reader.specs.Handed.{AreMadeOf, AreResolved, AreEach}
use Rattle.turtle_reader.specs.Referents.{referent, IsResolved}
use Rattle.turtle_reader.proofs.Holding.{referent_still}

module _ {T : Type 0} (Is : SymbolicTriple → T → Type 0) where
  -- productions after productions
  pub made_more : (ps qs : List Production) (xs ys : List T) → AreMadeOf Is ps xs → AreMadeOf Is qs ys → AreMadeOf Is (ps ++ qs) (xs ++ ys)
  made_more [] qs xs ys h k = subst (λ (z : List T). AreMadeOf Is qs (z ++ ys)) (sym h) k
  made_more (Prefix i j ∷ ps) qs xs ys h k = made_more ps qs xs ys h k
  made_more (Base i ∷ ps) qs xs ys h k = made_more ps qs xs ys h k
  made_more (Triple s ∷ ps) qs xs ys (x, rest, e, is, more) k =
      (x, rest ++ ys, ap (λ (z : List T). z ++ ys) e, is, made_more ps qs rest ys more k)

  -- what is made of the first of two lists of productions comes first
  pub made_first : (ps qs : List Production) (all : List T) → AreMadeOf Is (ps ++ qs) all
      → (xs : List T) × (ys : List T) × (all ≡ xs ++ ys) × AreMadeOf Is ps xs
  made_first [] qs all h = ([], all, refl, refl)
  made_first (Prefix i j ∷ ps) qs all h = made_first ps qs all h
  made_first (Base i ∷ ps) qs all h = made_first ps qs all h
  made_first (Triple s ∷ ps) qs all (x, rest, e, is, more) =
      let (xs, ys, split, first) = made_first ps qs rest more in
      (x ∷ xs, ys, e ∙ ap (λ (z : List T). x ∷ z) split, (x, xs, refl, is, first))

  -- productions make one list
  pub one_made : ((s : SymbolicTriple) (x y : T) → Is s x → Is s y → x ≡ y) → (ps : List Production) (xs ys : List T)
      → AreMadeOf Is ps xs → AreMadeOf Is ps ys → xs ≡ ys
  one_made one [] xs ys h k = h ∙ sym k
  one_made one (Prefix i j ∷ ps) xs ys h k = one_made one ps xs ys h k
  one_made one (Base i ∷ ps) xs ys h k = one_made one ps xs ys h k
  one_made one (Triple s ∷ ps) xs ys (x, rest, e, is, more) (y, rest', f, is', more') =
      e ∙ ap (λ (z : T). z ∷ rest) (one s x y is is') ∙ ap (λ (z : List T). y ∷ z) (one_made one ps rest rest' more more') ∙ sym f

module _ {T : Type 0} (Is IsAlso : SymbolicTriple → T → Type 0) (also : (s : SymbolicTriple) (x : T) → Is s x → IsAlso s x) where
  pub made_also : (ps : List Production) (xs : List T) → AreMadeOf Is ps xs → AreMadeOf IsAlso ps xs
  made_also [] xs h = h
  made_also (Prefix i j ∷ ps) xs h = made_also ps xs h
  made_also (Base i ∷ ps) xs h = made_also ps xs h
  made_also (Triple s ∷ ps) xs (x, rest, e, is, more) = (x, rest, e, also s x is, made_also ps rest more)

-- what is made of each that is made of productions
module _ {S T : Type 0} (Is : SymbolicTriple → S → Type 0) (IsOf : S → T → Type 0) (IsAll : SymbolicTriple → T → Type 0)
    (both : (s : SymbolicTriple) (x : S) (y : T) → Is s x → IsOf x y → IsAll s y) where
  moved : (xs zs : List S) (ys : List T) → xs ≡ zs → AreEach IsOf xs ys → AreEach IsOf zs ys
  moved xs zs ys e h = subst (λ (z : List S). AreEach IsOf z ys) e h

  pub made_each : (ps : List Production) (xs : List S) (ys : List T) → AreMadeOf Is ps xs → AreEach IsOf xs ys → AreMadeOf IsAll ps ys
  made_each [] xs ys h k = moved xs [] ys h k
  made_each (Prefix i j ∷ ps) xs ys h k = made_each ps xs ys h k
  made_each (Base i ∷ ps) xs ys h k = made_each ps xs ys h k
  made_each (Triple s ∷ ps) xs ys (x, rest, e, is, more) k =
      let (y, ys', f, of, others) = moved xs (x ∷ rest) ys e k in
      (y, ys', f, both s x y is of, made_each ps rest ys' more others)

module _ {S T : Type 0} (IsOf : S → T → Type 0) where
  -- one more
  pub each_more : (xs : List S) (x : S) (ys : List T) (y : T) → AreEach IsOf xs ys → IsOf x y → AreEach IsOf (xs ++ x ∷ []) (ys ++ y ∷ [])
  each_more [] x ys y h k = (y, [], ap (λ (z : List T). z ++ y ∷ []) h, k, refl)
  each_more (z ∷ xs) x ys y (w, rest, e, is, more) k =
      (w, rest ++ y ∷ [], ap (λ (v : List T). v ++ y ∷ []) e, is, each_more xs x rest y more k)

  pub one_each : ((x : S) (y z : T) → IsOf x y → IsOf x z → y ≡ z) → (xs : List S) (ys zs : List T) → AreEach IsOf xs ys → AreEach IsOf xs zs → ys ≡ zs
  one_each one [] ys zs h k = h ∙ sym k
  one_each one (x ∷ xs) ys zs (y, rest, e, is, more) (z, rest', f, is', more') =
      e ∙ ap (λ (v : T). v ∷ rest) (one x y z is is') ∙ ap (λ (v : List T). z ∷ v) (one_each one xs rest rest' more more') ∙ sym f

-- What nodes refer to

pub resolved_still : (ms : List Meaning) (more : Meaning) (s : SymbolicTriple) (r : ResolvedTriple) → IsResolved ms s r → IsResolved (ms ++ more ∷ []) s r
resolved_still ms more s r h = record {
  subject = referent_still ms more s.subject r.subject h.subject;
  predicate = referent_still ms more s.predicate r.predicate h.predicate;
  object = referent_still ms more s.object r.object h.object;
  within = h.within;
  end = h.end;
}

same_referent : (a b : Referent) (o : Option Referent) → o ≡ Some a → o ≡ Some b → a ≡ b
same_referent a b o e f = cc

abbrev triple_with : Referent → Referent → Referent → Within → ℕ → ResolvedTriple
triple_with s p o w e = record { subject = s; predicate = p; object = o; within = w; end = e }

one_resolved : (ms : List Meaning) (s : SymbolicTriple) (a b : ResolvedTriple) → IsResolved ms s a → IsResolved ms s b → a ≡ b
one_resolved ms s a b h k =
    let s' = same_referent a.subject b.subject (referent ms s.subject) h.subject k.subject in
    let p' = same_referent a.predicate b.predicate (referent ms s.predicate) h.predicate k.predicate in
    let o' = same_referent a.object b.object (referent ms s.object) h.object k.object in
    let w' : a.within ≡ b.within = h.within ∙ sym k.within in
    let e' : a.end ≡ b.end = h.end ∙ sym k.end in
    ap (λ (z : Referent). triple_with z a.predicate a.object a.within a.end) s' ∙ ap (λ (z : Referent). triple_with b.subject z a.object a.within a.end) p'
    ∙ ap (λ (z : Referent). triple_with b.subject b.predicate z a.within a.end) o' ∙ ap (λ (z : Within). triple_with b.subject b.predicate b.object z a.end) w'
    ∙ ap (triple_with b.subject b.predicate b.object b.within) e'

pub one_handed : (ms : List Meaning) (ps : List Production) (xs ys : List ResolvedTriple) → AreResolved ms ps xs → AreResolved ms ps ys → xs ≡ ys
one_handed ms ps xs ys h k = one_made (IsResolved ms) (one_resolved ms) ps xs ys h k

pub handed_still : (ms : List Meaning) (more : Meaning) (ps : List Production) (xs : List ResolvedTriple) → AreResolved ms ps xs → AreResolved (ms ++ more ∷ []) ps xs
handed_still ms more ps xs h = made_also (IsResolved ms) (IsResolved (ms ++ more ∷ [])) (resolved_still ms more) ps xs h
