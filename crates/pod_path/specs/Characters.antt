-- Characters of paths.
use Rattle.std.specs.Prelude.{ℕ, Bool, ◌||◌, ◌==◌, codes}
use Rattle.std.specs.List.{list_any}
use Rattle.iri_ref.specs.Characters.{is_between}

abbrev pub percent : ℕ
percent = 37

abbrev pub is_letter_or_digit : ℕ → Bool
is_letter_or_digit c = is_between 97 c 122 || (is_between 65 c 90 || is_between 48 c 57)

-- a letter, a digit, - . _ or ~: what needs no escape anywhere
abbrev pub is_unreserved : ℕ → Bool
is_unreserved c = is_letter_or_digit c || list_any (λ d. c == d) (codes "-._~")

-- a character of a path; % begins an escape
abbrev pub is_path_character : ℕ → Bool
is_path_character c = is_unreserved c || list_any (λ d. c == d) (codes "!$&'()*+,;=:@/%")
