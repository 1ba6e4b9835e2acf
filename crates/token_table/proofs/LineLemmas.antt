-- One line after another.
use Rattle.std.proofs.Common.{◌≡◌, ℕ, ◌+◌, ◌≤◌, Bool, true, false, not, ◌||◌, List, [], ◌∷◌, ◌++◌, length, Option, Some, None, refl, sym, ap, subst, ◌∙◌, arith, append_assoc, length-append, inl, inr, ◌⊎◌}
use Rattle.std.specs.Prelude.{nat_lt}
use Rattle.std.specs.List.{cons_option}
use Rattle.std.specs.Option.{option_to_list}
use Rattle.std.proofs.lemmas.List.{append-nil}
use Rattle.std.proofs.lemmas.List.Elements.{filter_map-append}
use Rattle.token_table.specs.declared.table_line.TokenEntry.{TokenEntry}
use Rattle.token_table.specs.declared.table.TheConstants.{TABLE_LIMIT}
use Rattle.token_table.specs.TableLines.{lines_of, line_entry, entries, size_of, is_malformed, repeats, ends_past, is_faulty, AreSound, IsFirstFault}
use Rattle.token_table.specs.Reading.{IsRead}

-- where a line of a list with one more at its end is
split_push : (xs : List (List ℕ)) (x : List ℕ) (b : List (List ℕ)) (l : List ℕ) (a : List (List ℕ)) → xs ++ x ∷ [] ≡ b ++ l ∷ a → ((b ≡ xs) × (l ≡ x)) ⊎ ((m : List (List ℕ)) × (xs ≡ b ++ l ∷ m))
split_push [] x [] l a e = inl (refl, cc)
split_push [] x (y ∷ b) l a e = absurd (omega (arith, ap length e, length-append b (l ∷ a)))
split_push (y ∷ xs) x [] l a e = (let head : y ≡ l = cc in inr (xs, ap (λ (z : List ℕ). z ∷ xs) head))
split_push (y ∷ xs) x (z ∷ b) l a e =
    let head : y ≡ z = cc in
    let tail : xs ++ x ∷ [] ≡ b ++ l ∷ a = cc in
    elim (split_push xs x b l a tail) as (λ _. ((z ∷ b ≡ y ∷ xs) × (l ≡ x)) ⊎ ((m : List (List ℕ)) × (y ∷ xs ≡ (z ∷ b) ++ l ∷ m))) [
      | inl w ↦ inl (ap (λ (h : List ℕ). h ∷ b) (sym head) ∙ ap (λ (t : List (List ℕ)). y ∷ t) w.0, w.1)
      | inr w ↦ inr (w.0, ap (λ (h : List ℕ). h ∷ xs) head ∙ ap (λ (t : List (List ℕ)). z ∷ t) w.1)
    ]

sound_more : (before : List (List ℕ)) (line : List ℕ) → AreSound before → is_faulty before line ≡ false → AreSound (before ++ line ∷ [])
sound_more before line s good = λ b l a e.
    elim (split_push before line b l a e) as (λ _. is_faulty b l ≡ false) [
      | inl w ↦ ap (λ (x : List (List ℕ)). is_faulty x l) w.0 ∙ ap (is_faulty before) w.1 ∙ good
      | inr w ↦ s b l w.0 w.1
    ]

size_more : (before : List (List ℕ)) (line : List ℕ) → size_of (before ++ line ∷ []) ≡ size_of before + (length line + 1)
size_more [] line = omega arith
size_more (x ∷ before) line = omega (arith, size_more before line)

entries_more : (before : List (List ℕ)) (line : List ℕ) → entries (before ++ line ∷ []) ≡ entries before ++ option_to_list (line_entry line)
entries_more before line = filter_map-append line_entry before (line ∷ []) ∙ ap (λ (es : List TokenEntry). entries before ++ es) (one (line_entry line))
  where
    one : (o : Option TokenEntry) → cons_option o [] ≡ option_to_list o
    one None = refl
    one (Some e) = refl

-- nothing has been read
pub read_none : (bytes : List ℕ) → IsRead bytes bytes [] 0 0
read_none bytes = record {
  before = [];
  whole = refl;
  table_is = refl;
  start_is = refl;
  number_is = refl;
  sound = λ b l a e. absurd (omega (arith, ap length e, length-append b (l ∷ a)));
  within = omega arith;
  fewer = omega arith;
}

opposite : (a b : Bool) → a ≡ not b → (a ≡ true → b ≡ false) × (a ≡ false → b ≡ true)
opposite a true e = (λ h. (let no : true ≡ false = sym h ∙ e in cc), λ h. refl)
opposite a false e = (λ h. refl, λ h. (let no : false ≡ true = sym h ∙ e in cc))

-- the test of a line says whether it is faulty
test_is : (bytes rest : List ℕ) (table : List TokenEntry) (start number : ℕ) (line : List ℕ) (r : IsRead bytes rest table start number)
    → is_faulty r.before line ≡ (is_malformed line || (repeats table line || nat_lt TABLE_LIMIT (start + length line)))
test_is bytes rest table start number line r =
    ap (λ (es : List TokenEntry). is_malformed line || (repeats es line || ends_past r.before line)) (sym r.table_is)
    ∙ ap (λ (n : ℕ). is_malformed line || (repeats table line || nat_lt TABLE_LIMIT (n + length line))) (sym r.start_is)

-- one more line is read
pub read_more : (bytes rest after : List ℕ) (table new : List TokenEntry) (start number next : ℕ) (line : List ℕ) (good : Bool) → IsRead bytes rest table start number
    → lines_of rest ≡ line ∷ lines_of after → good ≡ not (is_malformed line || (repeats table line || nat_lt TABLE_LIMIT (start + length line))) → good ≡ true
    → new ≡ table ++ option_to_list (line_entry line) → start + length line ≤ TABLE_LIMIT → next ≡ start + (length line + 1) → IsRead bytes after new next (number + 1)
read_more bytes rest after table new start number next line good r cut is passed added end at = record {
  before = r.before ++ line ∷ [];
  whole = r.whole ∙ ap (λ (ls : List (List ℕ)). r.before ++ ls) cut ∙ sym (append_assoc r.before (line ∷ []) (lines_of after));
  table_is = added ∙ ap (λ (es : List TokenEntry). es ++ option_to_list (line_entry line)) r.table_is ∙ sym (entries_more r.before line);
  start_is = at ∙ ap (λ (n : ℕ). n + (length line + 1)) r.start_is ∙ sym (size_more r.before line);
  number_is = omega (arith, r.number_is, length-append r.before (line ∷ []));
  sound = sound_more r.before line r.sound (test_is bytes rest table start number line r ∙ (opposite good _ is).0 passed);
  within = omega (arith, at, end);
  fewer = omega (arith, at, r.fewer);
}

-- this line is the first that is faulty
pub first_fault : (bytes rest after : List ℕ) (table : List TokenEntry) (start number : ℕ) (line : List ℕ) (good : Bool) → IsRead bytes rest table start number
    → lines_of rest ≡ line ∷ lines_of after → good ≡ not (is_malformed line || (repeats table line || nat_lt TABLE_LIMIT (start + length line))) → good ≡ false
    → IsFirstFault (lines_of bytes) (number + 1)
first_fault bytes rest after table start number line good r cut is failed = record {
  before = r.before;
  line = line;
  after = lines_of after;
  whole = r.whole ∙ ap (λ (ls : List (List ℕ)). r.before ++ ls) cut;
  faulty = test_is bytes rest table start number line r ∙ (opposite good _ is).1 failed;
  sound = r.sound;
  number_is = ap (λ (n : ℕ). n + 1) r.number_is;
}

-- all has been read
pub read_all : (bytes rest : List ℕ) (table : List TokenEntry) (start number : ℕ) → IsRead bytes rest table start number → rest ≡ [] → (table ≡ entries (lines_of bytes)) × AreSound (lines_of bytes)
read_all bytes rest table start number r none =
    let whole : r.before ≡ lines_of bytes = sym (r.whole ∙ ap (λ (x : List ℕ). r.before ++ lines_of x) none ∙ append-nil r.before) in
    (r.table_is ∙ ap entries whole, subst AreSound whole r.sound)
