-- `==` of terms is equality.
use Rattle.std.proofs.Common.{◌≡◌, refl, sym, ap}
use Rattle.std.specs.Bool.{Decides, one_answer}
use Rattle.std.specs.Cmp.{IsEquivalence}
use Rattle.std.proofs.lemmas.Bool.{and_parts, and_from, false≢true}
use lib.Pointwise.{bytes_decides}
use Rattle.rdf_graph.specs.Term.{term_eq}
use Rattle.rdf_graph.specs.declared.term.Term.{Term}
use Rattle.rdf_graph.specs.declared.term.Term.TheVariants.{Iri, Blank, Literal, Tagged}

pub term_eq_decides : (a b : Term) → Decides (term_eq a b) (a ≡ b)
term_eq_decides (Iri i) (Iri j) =
    (λ h. ap (λ x. Iri x) ((bytes_decides i j).0 h), λ e. (bytes_decides i j).1 cc)
term_eq_decides (Iri i) (Blank m) = (λ h. absurd (false≢true h), λ e. absurd cc)
term_eq_decides (Iri i) (Literal m e) = (λ h. absurd (false≢true h), λ e. absurd cc)
term_eq_decides (Iri i) (Tagged m u) = (λ h. absurd (false≢true h), λ e. absurd cc)
term_eq_decides (Blank l) (Iri j) = (λ h. absurd (false≢true h), λ e. absurd cc)
term_eq_decides (Blank l) (Blank m) =
    (λ h. ap (λ x. Blank x) ((bytes_decides l m).0 h), λ e. (bytes_decides l m).1 cc)
term_eq_decides (Blank l) (Literal m e) = (λ h. absurd (false≢true h), λ e. absurd cc)
term_eq_decides (Blank l) (Tagged m u) = (λ h. absurd (false≢true h), λ e. absurd cc)
term_eq_decides (Literal l d) (Iri j) = (λ h. absurd (false≢true h), λ e. absurd cc)
term_eq_decides (Literal l d) (Blank m) = (λ h. absurd (false≢true h), λ e. absurd cc)
term_eq_decides (Literal l d) (Literal m e) = (
  λ h. let parts = and_parts _ _ h in let first : l ≡ m =
      (bytes_decides l m).0 parts.0 in let second : d ≡ e = (bytes_decides d e).0 parts.1 in cc,
  λ h. and_from _ _ ((bytes_decides l m).1 cc) ((bytes_decides d e).1 cc),
)
term_eq_decides (Literal l d) (Tagged m u) = (λ h. absurd (false≢true h), λ e. absurd cc)
term_eq_decides (Tagged l t) (Iri j) = (λ h. absurd (false≢true h), λ e. absurd cc)
term_eq_decides (Tagged l t) (Blank m) = (λ h. absurd (false≢true h), λ e. absurd cc)
term_eq_decides (Tagged l t) (Literal m e) = (λ h. absurd (false≢true h), λ e. absurd cc)
term_eq_decides (Tagged l t) (Tagged m u) = (
  λ h. let parts = and_parts _ _ h in let first : l ≡ m =
      (bytes_decides l m).0 parts.0 in let second : t ≡ u = (bytes_decides t u).0 parts.1 in cc,
  λ h. and_from _ _ ((bytes_decides l m).1 cc) ((bytes_decides t u).1 cc),
)

pub term_eq_laws : IsEquivalence term_eq
term_eq_laws =
    record {
      refl = λ x. (term_eq_decides x x).1 refl;
      symm = λ x y. one_answer (term_eq x y) (term_eq y x) (term_eq_decides x y)
          (λ h. sym ((term_eq_decides y x).0 h), λ e. (term_eq_decides y x).1 (sym e));
      congr = λ x y z h. ap (λ w. term_eq w z) ((term_eq_decides x y).0 h);
    }
