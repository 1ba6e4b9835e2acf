-- Texts that stay in their line: literals, numbers, dates, tags, URIs, and lists of words.
use Rattle.std.proofs.Common.{◌≡◌, ℕ, zero, suc, ◌+◌, ◌-◌, ◌/◌, ◌%◌, ◌<◌, ◌≤◌, Bool, true, false, not, cond, ◌||◌, eqb, List, [], ◌∷◌, ◌++◌, length, take, drop, map, filter, get_or, codes, All, refl, sym, ap, ◌∙◌, arith}
use Rattle.std.specs.Prelude.{IsTrue, decimal, slice_index, nat_lt, min}
use Rattle.std.specs.Char.{is_ascii_graphic}
use Rattle.std.specs.Fmt.{digits, digits_onto, digit_glyph}
use Rattle.std.specs.Int.{w32, to_be_bytes, byte_at}
use Rattle.std.specs.List.{list_all, zip, join_with_byte}
use Rattle.std.proofs.lemmas.Bool.{ne_eqb}
use Rattle.std.proofs.lemmas.List.Elements.{All-nil, All-cons, All-head, All-tail, All-append, All-take}
use Rattle.std.proofs.lemmas.List.Sums.{AllPass-from_list_all}
use Rattle.conditional_req.specs.Tags.{tag_text, tagged_bytes}
use Rattle.hex.specs.Hex.{encode_with, encode_lower, lower_digits}
use Rattle.http_out.specs.Text.{stays_in_line}
use Rattle.httpdate.specs.Text.{day_name, month_name, two_digits, four_digits}
use Rattle.iri_ref.proofs.Texts.{and_left, and_right, and_both, all_append}
use Rattle.httpdate.specs.Calendar.{weekday}
use Rattle.http_out.specs.Calendar.{last_moment, year_of, month_of, day_of_month, civil_text, clock_text, second_text, date_text}
use Rattle.pod_path.specs.Characters.{is_path_character}
use Rattle.pod_path.specs.Hierarchy.{uri_of}
use Rattle.pod_path.specs.Norm.{has_path_characters}
use Rattle.range_req.specs.Multipart.{free_number, free_boundary}
use Rattle.sha2.specs.Sha256.{sha256, digest_bytes}
use Rattle.pod_access.specs.Allow.{words, granted_words, allow_text}
use Rattle.websocket.specs.Handshake.{accept_key_of}
use Rattle.websocket.proofs.AcceptKey.{accept_key_is_graphic}

abbrev pub Stays : List ℕ → Type 0
Stays text = IsTrue (list_all stays_in_line text)

pub both : (a b : List ℕ) → Stays a → Stays b → Stays (a ++ b)
both a b h k = all_append stays_in_line a b h k

pub one_of : (b : Bool) (x y : List ℕ) → Stays x → Stays y → Stays (cond b x y)
one_of true x y h k = h
one_of false x y h k = k

-- a byte that passes a test which NUL, LF and CR don't pass
pub excluded : (p : ℕ → Bool) → p 0 ≡ false → p 10 ≡ false → p 13 ≡ false → (b : ℕ) → p b ≡ true → stays_in_line b ≡ true
excluded p nul lf cr b h =
    ap (λ (x : Bool). not (x || (eqb b 10 || eqb b 13))) (other 0 nul) ∙ ap (λ (x : Bool). not (x || eqb b 13)) (other 10 lf) ∙ ap not (other 13 cr)
  where
    other : (c : ℕ) → p c ≡ false → eqb b c ≡ false
    other c e = ne_eqb b c (λ is. absurd (let no : true ≡ false = sym h ∙ ap p is ∙ e in cc))

pub excluded_all : (p : ℕ → Bool) → p 0 ≡ false → p 10 ≡ false → p 13 ≡ false → (text : List ℕ) → IsTrue (list_all p text) → Stays text
excluded_all p nul lf cr [] h = refl
excluded_all p nul lf cr (b ∷ text) h =
    and_both (stays_in_line b) (list_all stays_in_line text) (excluded p nul lf cr b (and_left (p b) (list_all p text) h))
    (excluded_all p nul lf cr text (and_right (p b) (list_all p text) h))

pub above : (b : ℕ) → 14 ≤ b → stays_in_line b ≡ true
above b h =
    ap (λ (x : Bool). not (x || (eqb b 10 || eqb b 13))) (ne_eqb b 0 (λ e. absurd (omega arith)))
    ∙ ap (λ (x : Bool). not (x || eqb b 13)) (ne_eqb b 10 (λ e. absurd (omega arith))) ∙ ap not (ne_eqb b 13 (λ e. absurd (omega arith)))

-- ---- numbers

glyph_stays : (d : ℕ) → stays_in_line (digit_glyph false d) ≡ true
glyph_stays d = by_test (nat_lt d 10)
  where
    by_test : (b : Bool) → stays_in_line (cond b (48 + d) (87 + d)) ≡ true
    by_test true = above (48 + d) (omega arith)
    by_test false = above (87 + d) (omega arith)

digits_stay : (k n : ℕ) (acc : List ℕ) → Stays acc → Stays (digits_onto k 10 false n acc)
digits_stay zero n acc h = h
digits_stay (suc k) n acc h =
    let more = and_both (stays_in_line (digit_glyph false (n % 10))) (list_all stays_in_line acc) (glyph_stays (n % 10)) h in
    one_of (eqb (n / 10) 0) (digit_glyph false (n % 10) ∷ acc) (digits_onto k 10 false (n / 10) (digit_glyph false (n % 10) ∷ acc)) more
    (digits_stay k (n / 10) (digit_glyph false (n % 10) ∷ acc) more)

pub decimal_stays : (n : ℕ) → Stays (decimal n)
unfolding digits
decimal_stays n = digits_stay 64 n [] refl

-- ---- dates

two_stay : (n : ℕ) → Stays (two_digits n)
two_stay n = and_both (stays_in_line (48 + n / 10)) _ (above (48 + n / 10) (omega arith))
    (and_both (stays_in_line (48 + n % 10)) true (above (48 + n % 10) (omega arith)) refl)

four_stay : (n : ℕ) → Stays (four_digits n)
four_stay n = both (two_digits (n / 100)) (two_digits (n % 100)) (two_stay (n / 100)) (two_stay (n % 100))

name_stays : (names : List (List ℕ)) (i : ℕ) → IsTrue (list_all (λ (name : List ℕ). list_all stays_in_line name) names) → Stays (get_or names i [])
name_stays [] i h = refl
name_stays (name ∷ names) zero h = and_left (list_all stays_in_line name) _ h
name_stays (name ∷ names) (suc i) h = name_stays names i (and_right (list_all stays_in_line name) _ h)

day_stays : (wday : ℕ) → Stays (day_name wday)
day_stays wday = name_stays (codes "Mon" ∷ codes "Tue" ∷ codes "Wed" ∷ codes "Thu" ∷ codes "Fri" ∷ codes "Sat" ∷ codes "Sun" ∷ []) (wday - 1) refl

month_stays : (month : ℕ) → Stays (month_name month)
month_stays month =
    name_stays (codes "Jan" ∷ codes "Feb" ∷ codes "Mar" ∷ codes "Apr" ∷ codes "May" ∷ codes "Jun" ∷ codes "Jul" ∷ codes "Aug" ∷ codes "Sep" ∷ codes "Oct" ∷ codes "Nov" ∷ codes "Dec" ∷ []) (month - 1) refl

civil_stays : (wday year month day : ℕ) → Stays (civil_text wday year month day)
civil_stays wday year month day =
    both (day_name wday ++ codes ", " ++ two_digits day ++ codes " " ++ month_name month ++ codes " ") (four_digits year)
    (both (day_name wday ++ codes ", " ++ two_digits day ++ codes " " ++ month_name month) (codes " ")
    (both (day_name wday ++ codes ", " ++ two_digits day ++ codes " ") (month_name month)
    (both (day_name wday ++ codes ", " ++ two_digits day) (codes " ")
    (both (day_name wday ++ codes ", ") (two_digits day) (both (day_name wday) (codes ", ") (day_stays wday) refl) (two_stay day))
    refl) (month_stays month)) refl) (four_stay year)

clock_stays : (second : ℕ) → Stays (clock_text second)
clock_stays second =
    both (two_digits (second / 3600) ++ codes ":" ++ two_digits (second % 3600 / 60) ++ codes ":") (two_digits (second % 60))
    (both (two_digits (second / 3600) ++ codes ":" ++ two_digits (second % 3600 / 60)) (codes ":")
    (both (two_digits (second / 3600) ++ codes ":") (two_digits (second % 3600 / 60))
    (both (two_digits (second / 3600)) (codes ":") (two_stay (second / 3600)) refl) (two_stay (second % 3600 / 60))) refl) (two_stay (second % 60))

dated : (civil clock : List ℕ) → Stays civil → Stays clock → Stays (civil ++ codes " " ++ clock ++ codes " GMT")
dated civil clock h k =
    both (civil ++ codes " " ++ clock) (codes " GMT") (both (civil ++ codes " ") clock (both civil (codes " ") h refl) k) refl

second_stays : (second : ℕ) → Stays (second_text second)
second_stays second =
    dated (civil_text (weekday (second / 86400)) (year_of (second / 86400)) (month_of (second / 86400)) (day_of_month (second / 86400)))
    (clock_text (second % 86400))
    (civil_stays (weekday (second / 86400)) (year_of (second / 86400)) (month_of (second / 86400)) (day_of_month (second / 86400)))
    (clock_stays (second % 86400))

pub date_stays : (moment : ℕ) → Stays (date_text moment)
unfolding date_text
date_stays moment = second_stays (min moment last_moment)

-- ---- tags

abbrev IsByte : ℕ → Type 0
IsByte b = b < 256

byte_small : (k x : ℕ) → byte_at k x < 256
byte_small zero x = omega arith
byte_small (suc i) x = omega arith

word_bytes : (x : ℕ) → All IsByte (to_be_bytes w32 x)
word_bytes x =
    let low = All-cons IsByte (byte_at 0 x) [] (byte_small 0 x) (All-nil IsByte) in
    let two = All-cons IsByte (byte_at 1 x) (byte_at 0 x ∷ []) (byte_small 1 x) low in
    let three = All-cons IsByte (byte_at 2 x) (byte_at 1 x ∷ byte_at 0 x ∷ []) (byte_small 2 x) two in
    All-cons IsByte (byte_at 3 x) (byte_at 2 x ∷ byte_at 1 x ∷ byte_at 0 x ∷ []) (byte_small 3 x) three

digest_bytes_small : (h : List ℕ) (n : ℕ) → All IsByte (digest_bytes h n)
unfolding digest_bytes
digest_bytes_small h zero = All-nil IsByte
digest_bytes_small h (suc n) = All-append IsByte _ _ (digest_bytes_small h n) (word_bytes _)

sha256_small : (m : List ℕ) → All IsByte (sha256 m)
unfolding sha256
sha256_small m = digest_bytes_small _ 8

digit_stays : (i : ℕ) → i < 16 → stays_in_line (slice_index lower_digits i) ≡ true
digit_stays i lt = AllPass-from_list_all stays_in_line lower_digits refl i 0 (omega arith)

hex_stays : (bytes : List ℕ) → All IsByte bytes → Stays (encode_with lower_digits bytes)
unfolding encode_with
hex_stays [] h = refl
hex_stays (b ∷ bytes) h =
    let small : b < 256 = All-head IsByte b bytes h in
    and_both _ _ (digit_stays (b / 16) (omega arith)) (and_both _ _ (digit_stays (b % 16) (omega arith)) (hex_stays bytes (All-tail IsByte b bytes h)))

pub tag_stays : (ctype body : List ℕ) (mark : ℕ) → stays_in_line mark ≡ true → Stays (tag_text ctype body mark)
tag_stays ctype body mark h =
    both (encode_lower (take 16 (sha256 (tagged_bytes ctype body)))) (45 ∷ mark ∷ [])
    (hex_stays (take 16 (sha256 (tagged_bytes ctype body))) (All-take IsByte 16 _ (sha256_small (tagged_bytes ctype body))))
    (and_both (stays_in_line 45) _ refl (and_both (stays_in_line mark) true h refl))

pub accept_stays : (key : List ℕ) → Stays (accept_key_of key)
accept_stays key = excluded_all is_ascii_graphic refl refl refl (accept_key_of key)
    (and_right (not (eqb (length (accept_key_of key)) 0)) _ (accept_key_is_graphic key))

-- ---- the boundary of parts

pub boundary_stays : (body : List ℕ) → Stays (free_boundary body)
unfolding free_boundary
boundary_stays body = both (codes "pod-") (decimal (free_number body)) refl (decimal_stays (free_number body))

-- ---- `WAC-Allow`

abbrev AllStay : List (List ℕ) → Type 0
AllStay texts = IsTrue (list_all (λ (text : List ℕ). list_all stays_in_line text) texts)

joined_stays : (texts : List (List ℕ)) → AllStay texts → Stays (join_with_byte 32 texts)
joined_stays [] h = refl
joined_stays (text ∷ []) h = and_left (list_all stays_in_line text) true h
joined_stays (text ∷ next ∷ texts) h =
    both text (32 ∷ join_with_byte 32 (next ∷ texts)) (and_left (list_all stays_in_line text) _ h)
    (and_both (stays_in_line 32) _ refl (joined_stays (next ∷ texts) (and_right (list_all stays_in_line text) _ h)))

abbrev granted_of : List (Bool × List ℕ) → List (List ℕ)
granted_of pairs = map (λ (pair : Bool × List ℕ). pair.1) (filter (λ (pair : Bool × List ℕ). pair.0) pairs)

granted_stay : (granted : List Bool) (texts : List (List ℕ)) → AllStay texts → AllStay (granted_of (zip granted texts))
granted_stay [] texts h = refl
granted_stay (b ∷ bs) [] h = refl
granted_stay (b ∷ bs) (text ∷ texts) h = by_test b (granted_stay bs texts (and_right (list_all stays_in_line text) _ h))
  where
    by_test : (c : Bool) → AllStay (granted_of (zip bs texts)) → AllStay (granted_of ((c, text) ∷ zip bs texts))
    by_test true k = and_both (list_all stays_in_line text) _ (and_left (list_all stays_in_line text) _ h) k
    by_test false k = k

words_stay : (granted : List Bool) → Stays (granted_words granted)
words_stay granted = joined_stays (granted_of (zip granted words)) (granted_stay granted words refl)

pub allow_stays : (user public_modes : List Bool) → Stays (allow_text user public_modes)
allow_stays user public_modes =
    let rest = both (granted_words public_modes) (codes "\"") (words_stay public_modes) refl in
    let middle = both (codes "\",public=\"") (granted_words public_modes ++ codes "\"") refl rest in
    both (codes "user=\"") (granted_words user ++ (codes "\",public=\"" ++ (granted_words public_modes ++ codes "\""))) refl
    (both (granted_words user) (codes "\",public=\"" ++ (granted_words public_modes ++ codes "\"")) (words_stay user) middle)

-- ---- URIs

pub drop_stays : (n : ℕ) (text : List ℕ) → Stays text → Stays (drop n text)
drop_stays zero text h = h
drop_stays (suc n) [] h = refl
drop_stays (suc n) (b ∷ text) h = drop_stays n text (and_right (stays_in_line b) _ h)

pub take_stays : (n : ℕ) (text : List ℕ) → Stays text → Stays (take n text)
take_stays zero text h = refl
take_stays (suc n) [] h = refl
take_stays (suc n) (b ∷ text) h = and_both (stays_in_line b) _ (and_left (stays_in_line b) _ h) (take_stays n text (and_right (stays_in_line b) _ h))

pub path_stays : (path : List ℕ) → IsTrue (has_path_characters path) → Stays path
path_stays [] h = refl
path_stays (c ∷ path) h =
    and_both (stays_in_line c) _ (excluded (λ (b : ℕ). eqb b 47) refl refl refl c (and_left (eqb c 47) _ h))
    (excluded_all is_path_character refl refl refl path (and_right (eqb c 47) _ h))

pub uri_stays : (base path : List ℕ) → Stays base → Stays path → Stays (uri_of base path)
uri_stays base path h k = both base (drop 1 path) h (drop_stays 1 path k)
