-- Texts of which a stem is made, and candidates that are looked up.
use Rattle.std.specs.Prelude.{◌≡◌, ℕ, ◌<◌, Bool, true, false, not, ◌&&◌, IsTrue, List, ◌++◌, codes}
use Rattle.std.specs.List.{list_all}
use Rattle.iri_ref.specs.Characters.{Lacks, is_slash, is_question_mark}
use Rattle.pod_path.specs.Characters.{is_path_character}
use Rattle.pod_path.specs.Escapes.{prepend, normalize_escapes}
use Rattle.slug_naming.specs.Names.{candidate_end}

-- characters of one segment, with escapes in their normal form, whatever follows
pub record IsPlainText (text : List ℕ) : Type 0 where
  pub characters : IsTrue (list_all is_path_character text)
  pub slashes : Lacks is_slash text
  pub queries : Lacks is_question_mark text
  pub escapes : (rest : List ℕ)
      → normalize_escapes (text ++ rest) ≡ prepend text (normalize_escapes rest)

-- neither the text nor the text with a slash after it is a row
abbrev pub are_no_rows : (List ℕ → Bool) → List ℕ → Bool
are_no_rows is_row text = not (is_row text) && not (is_row (text ++ codes "/"))

-- the number is the first whose texts after this one are no rows
pub record IsFirstFree (is_row : List ℕ → Bool) (base : List ℕ) (number : ℕ) : Type 0 where
  pub free : are_no_rows is_row (base ++ candidate_end number) ≡ true
  pub first : (k : ℕ) → k < number → are_no_rows is_row (base ++ candidate_end k) ≡ false
