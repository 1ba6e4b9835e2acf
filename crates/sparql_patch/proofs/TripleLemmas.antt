-- Equality of triples as a test.
use Rattle.std.proofs.Common.{◌≡◌, ◌||◌, Bool, true, false, List, cond, refl, sym, ap, subst}
use Rattle.std.specs.Bool.{Decides, one_answer}
use Rattle.std.specs.Cmp.{IsEquivalence, Equal-is}
use Rattle.std.specs.List.{Contains}
use Rattle.std.specs.Ordering.{is_eq}
use Rattle.std.proofs.lemmas.Bool.{and_parts, and_from}
use Rattle.std.proofs.lemmas.Cmp.{tied_itself}
use Rattle.std.proofs.lemmas.Map.Views.{Contains-from_any, list_any-from_Contains}
use Rattle.rdf_graph.specs.TermLaws.{term_eq_decides}
use Rattle.rdf_graph.specs.Triple.{triple_cmp}
use Rattle.rdf_graph.specs.TripleLaws.{triple_cmp_total}
use Rattle.rdf_graph.specs.declared.triple.Triple.{Triple}
use Rattle.rdf_graph.proofs.Exact.{same_parts, triple_cmp_exact}
use Rattle.sparql_patch.specs.NamedUpdate.{triple_eq, has_triple}

pub triple_eq_decides : (t u : Triple) → Decides (triple_eq t u) (t ≡ u)
triple_eq_decides t u = (
  λ h. let s = and_parts _ _ h in let rest = and_parts _ _ s.1 in
      same_parts t.s t.p t.o u.s u.p u.o ((term_eq_decides t.s u.s).0 s.0) ((term_eq_decides t.p u.p).0 rest.0) ((term_eq_decides t.o u.o).0 rest.1),
  λ e. and_from _ _ ((term_eq_decides t.s u.s).1 (ap (λ (x : Triple). x.s) e))
      (and_from _ _ ((term_eq_decides t.p u.p).1 (ap (λ (x : Triple). x.p) e)) ((term_eq_decides t.o u.o).1 (ap (λ (x : Triple). x.o) e))),
)

pub triple_eq_laws : IsEquivalence triple_eq
triple_eq_laws = record {
  refl = λ x. (triple_eq_decides x x).1 refl;
  symm = λ x y. one_answer (triple_eq x y) (triple_eq y x) (triple_eq_decides x y)
      (λ h. sym ((triple_eq_decides y x).0 h), λ e. (triple_eq_decides y x).1 (sym e));
  congr = λ x y z h. ap (λ w. triple_eq w z) ((triple_eq_decides x y).0 h);
}

-- triples tie exactly where they are equal
pub tied_is_eq : (t u : Triple) → is_eq (triple_cmp t u) ≡ triple_eq u t
tied_is_eq t u = one_answer (is_eq (triple_cmp t u)) (triple_eq u t) (
  λ h. triple_cmp_exact t u ((Equal-is (triple_cmp t u)).0 h),
  λ e. subst (λ (v : Triple). is_eq (triple_cmp t v) ≡ true) e (ap is_eq (tied_itself triple_cmp_total t)),
)
    (λ h. sym ((triple_eq_decides u t).0 h), λ e. (triple_eq_decides u t).1 (sym e))

pub has_triple_decides : (triples : List Triple) (t : Triple) → Decides (has_triple triples t) (Contains triples t)
has_triple_decides triples t = (
  Contains-from_any (λ x y. (triple_eq_decides x y).0) t triples,
  list_any-from_Contains triple_eq_laws t triples,
)

pub cond_or : (b c : Bool) → cond b true c ≡ (b || c)
cond_or true c = refl
cond_or false c = refl
