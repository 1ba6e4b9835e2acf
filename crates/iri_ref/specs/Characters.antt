-- Characters of references. All that are distinguished here are ASCII: each is one byte of UTF-8.
use Rattle.std.specs.Prelude.{ℕ, Bool, false, not, ◌&&◌, ◌||◌, ◌==◌, nat_le, IsTrue, List, [], ◌∷◌}
use Rattle.std.specs.List.{list_all}

-- is b from a up to c?
abbrev pub is_between : ℕ → ℕ → ℕ → Bool
is_between a b c = nat_le a b && nat_le b c

abbrev pub slash : ℕ
slash = 47

abbrev pub colon : ℕ
colon = 58

abbrev pub question_mark : ℕ
question_mark = 63

abbrev pub hash : ℕ
hash = 35

abbrev pub is_slash : ℕ → Bool
is_slash c = c == slash

abbrev pub is_colon : ℕ → Bool
is_colon c = c == colon

abbrev pub is_question_mark : ℕ → Bool
is_question_mark c = c == question_mark

abbrev pub is_hash : ℕ → Bool
is_hash c = c == hash

-- what Turtle's IRIREF leaves out: controls and space, and < > " { } | ^ ` \
abbrev pub is_forbidden : ℕ → Bool
is_forbidden c = nat_le c 32 || (c == 34
    || (c == 60 || (c == 62 || (c == 92 || (c == 94 || (c == 96 || is_between 123 c 125))))))

abbrev pub is_allowed : ℕ → Bool
is_allowed c = not (is_forbidden c)

-- no character of the text is forbidden
abbrev pub AllAllowed : List ℕ → Type 0
AllAllowed text = IsTrue (list_all is_allowed text)

-- no character of the text passes the test
abbrev pub Lacks : (ℕ → Bool) → List ℕ → Type 0
Lacks test text = IsTrue (list_all (λ c. not (test c)) text)

abbrev pub is_letter : ℕ → Bool
is_letter c = is_between 65 c 90 || is_between 97 c 122

abbrev pub is_digit : ℕ → Bool
is_digit c = is_between 48 c 57

-- a letter, a digit, + - or .
abbrev pub is_scheme_character : ℕ → Bool
is_scheme_character c = is_letter c || (is_digit c || (c == 43 || (c == 45 || c == 46)))

-- a letter, then letters, digits, + - and .
abbrev pub is_scheme : List ℕ → Bool
is_scheme [] = false
is_scheme (c ∷ cs) = is_letter c && list_all is_scheme_character cs
