-- The triples of a subject are contiguous.
use Rattle.std.proofs.Common.{ℕ, ◌≡◌, ◌≢◌, ◌<◌, ◌≤◌, List, ◌++◌, true, false, ◌&&◌, ◌↔◌, Option, None, Some, length, take, drop, get_or, refl, sym, ap, ◌∙◌, subst, arith, ⊎_elim, codes}
use Rattle.std.specs.List.{Contains, filter}
use Rattle.std.specs.Bool.{Decides}
use Rattle.std.specs.List.Sorted.{IsPartitionedBy, IsPartitionPoint}
use Rattle.std.specs.Cmp.Lexicographic.{slice_cmp}
use Rattle.std.specs.Ordering.{nat_cmp, ordering_then, ordering_index, is_lt, is_le}
use Rattle.std.specs.declared.cmp.Ordering.{Ordering}
use Rattle.std.specs.declared.cmp.Ordering.TheVariants.{Equal, Less, Greater}
use Rattle.std.proofs.lemmas.Bool.{false≢true, true≢false, cases_order, and_parts, and_from}
use Rattle.std.proofs.lemmas.List.{append_assoc}
use Rattle.std.proofs.lemmas.List.Elements.{All-contains}
use Rattle.std.proofs.lemmas.Map.Keys.{Less-from_sorted}
use Rattle.rdf_graph.specs.Graph.{IsOrdered}
use Rattle.rdf_graph.specs.SubjectRange.{IsSubjectRange}
use Rattle.rdf_graph.specs.Term.{text}
use Rattle.rdf_graph.specs.Triple.{line, subject_prefix, prefix_cmp, triple_cmp, IsGivenTerm, is_given_term, HasTerms, has_terms}
use Rattle.rdf_graph.specs.TermLaws.{term_eq_decides}
use Rattle.rdf_graph.specs.declared.term.Term.{Term}
use Rattle.rdf_graph.specs.declared.triple.Triple.{Triple}
use Rattle.rdf_graph.proofs.Prefixes.{prefix_rises, prefix_itself, lt-falls, le-falls}
use Rattle.rdf_graph.proofs.Members.{contains_split, contains_take, contains_drop, All-take_within, All-drop_within, contains_filter}
use Rattle.rdf_graph.proofs.Sorted.{sorted_take, sorted_drop}

first_decides : (a b : Ordering) → ordering_then a b ≡ Less → a ≢ Greater
first_decides Less b e = λ g. absurd cc
first_decides Equal b e = λ g. absurd cc
first_decides Greater b e = absurd cc

-- triples in order have their lines in order
pub line_order : (a b : Triple) → triple_cmp a b ≡ Less → slice_cmp nat_cmp (line a) (line b) ≢ Greater
unfolding triple_cmp
line_order a b e = first_decides (slice_cmp nat_cmp (line a) (line b)) _ e

pub own_line : (t : Triple) → prefix_cmp (line t) (subject_prefix t.s) ≡ Equal
unfolding line subject_prefix
own_line t =
    subst (λ xs. prefix_cmp xs (text t.s ++ codes " ") ≡ Equal)
    (append_assoc (text t.s) (codes " ") (text t.p ++ (codes " " ++ (text t.o ++ codes " .\n"))))
    (prefix_itself (text t.s ++ codes " ") (text t.p ++ (codes " " ++ (text t.o ++ codes " .\n"))))

module _ (xs : List Triple) (subject : Term) (ordered : IsOrdered xs) where
  pub rises : (i j : ℕ) (d : Triple) → i ≤ j → j < length xs → ordering_index (prefix_cmp (line (get_or xs i d)) (subject_prefix subject)) ≤ ordering_index (prefix_cmp (line (get_or xs j d)) (subject_prefix subject))
  rises i j d h l =
      ⊎_elim
      (λ (same : i ≡ j). subst (λ k. ordering_index (prefix_cmp (line (get_or xs i d)) (subject_prefix subject)) ≤ ordering_index (prefix_cmp (line (get_or xs k d)) (subject_prefix subject))) same (omega arith))
      (λ sides. ⊎_elim
      (λ (below : i < j). prefix_rises _ _ (subject_prefix subject) (line_order _ _ (Less-from_sorted triple_cmp xs i j d ordered below l)))
      (λ (above : j < i). absurd (omega arith))
      sides)
      (cases_order i j)

  pub lines_before : IsPartitionedBy (λ t. is_lt (prefix_cmp (line t) (subject_prefix subject))) xs
  lines_before i j d h l e = lt-falls _ _ (rises i j d h l) e

  pub lines_upto : IsPartitionedBy (λ t. is_le (prefix_cmp (line t) (subject_prefix subject))) xs
  lines_upto i j d h l e = le-falls _ _ (rises i j d h l) e

  -- what is between the lines before and those after has all lines with the prefix
  pub range_between : (low n : ℕ)
      → IsPartitionPoint (λ t. is_lt (prefix_cmp (line t) (subject_prefix subject)) ≡ true) (λ t. is_lt (prefix_cmp (line t) (subject_prefix subject)) ≡ false) xs low
      → IsPartitionPoint (λ t. is_le (prefix_cmp (line t) (subject_prefix subject)) ≡ true) (λ t. is_le (prefix_cmp (line t) (subject_prefix subject)) ≡ false) (drop low xs) n
      → IsSubjectRange (Some subject) xs (take n (drop low xs))
  range_between low n before upto =
      record {
        within = λ x h. contains_drop low xs x (contains_take n (drop low xs) x h);
        complete = λ x h e.
            let own : prefix_cmp (line x) (subject_prefix subject) ≡ Equal = subst (λ s. prefix_cmp (line x) (subject_prefix s) ≡ Equal) e (own_line x) in
            ⊎_elim
            (λ front. absurd (false≢true (sym (ap is_lt own) ∙ All-contains (λ t. is_lt (prefix_cmp (line t) (subject_prefix subject)) ≡ true) (take low xs) x (All-take_within (λ t. is_lt (prefix_cmp (line t) (subject_prefix subject)) ≡ true) xs low before.0) front)))
            (λ rest. ⊎_elim
            (λ among. among)
            (λ behind. absurd (true≢false (sym (ap is_le own) ∙ All-contains (λ t. is_le (prefix_cmp (line t) (subject_prefix subject)) ≡ false) (drop n (drop low xs)) x (All-drop_within (λ t. is_le (prefix_cmp (line t) (subject_prefix subject)) ≡ false) (drop low xs) n upto.1) behind)))
            (contains_split n (drop low xs) x rest))
            (contains_split low xs x h);
        ordered = sorted_take triple_cmp n (drop low xs) (sorted_drop triple_cmp low xs ordered);
      }

-- ---- what is given for

pub given_decides : (given : Option Term) (x : Term) → Decides (is_given_term given x) (IsGivenTerm given x)
given_decides None x = (λ h. tt, λ h. refl)
given_decides (Some term) x = term_eq_decides x term

pub has_terms_decides : (s p o : Option Term) (t : Triple) → Decides (has_terms s p o t) (HasTerms s p o t)
has_terms_decides s p o t = (
  λ h.
      let both = and_parts (is_given_term s t.s && is_given_term p t.p) (is_given_term o t.o) h in
      let first = and_parts (is_given_term s t.s) (is_given_term p t.p) both.0 in
      ((given_decides s t.s).0 first.0, (given_decides p t.p).0 first.1, (given_decides o t.o).0 both.1),
  λ h. and_from (is_given_term s t.s && is_given_term p t.p) (is_given_term o t.o)
      (and_from (is_given_term s t.s) (is_given_term p t.p) ((given_decides s t.s).1 h.0) ((given_decides p t.p).1 h.1))
      ((given_decides o t.o).1 h.2),
)

-- a filter of a subject_range has what has_terms
pub range_members : (s p o : Option Term) (triples subject_range : List Triple) → IsSubjectRange s triples subject_range → (x : Triple) → Contains (filter (has_terms s p o) subject_range) x ↔ (Contains triples x × HasTerms s p o x)
range_members s p o triples subject_range is x = (
  λ h. let kept = (contains_filter (has_terms s p o) subject_range x).0 h in
      (is.within x kept.0, (has_terms_decides s p o x).0 kept.1),
  λ h. (contains_filter (has_terms s p o) subject_range x).1 (is.complete x h.0 h.1.0, (has_terms_decides s p o x).1 h.1),
)

-- all triples are the subject_range of no subject
pub whole_range : (triples : List Triple) → IsOrdered triples → IsSubjectRange None triples triples
whole_range triples ordered = record { within = λ x h. h; complete = λ x h given. h; ordered = ordered }
