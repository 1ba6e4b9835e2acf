-- The labels that documents write, and those of their unnamed nodes.
use Rattle.std.proofs.Common.{◌≡◌, ◌<◌, ◌≤◌, ◌^◌, ◌||◌, ◌==◌, ℕ, zero, suc, Bool, true, false, not, List, [], ◌∷◌, ◌++◌, inl, inr, cond, length, Option, Some, Result, Ok}
use Rattle.std.proofs.Common.{if◌then◌else◌, refl, sym, ap, ◌∙◌, subst, arith, append-nil, append_assoc}
use Rattle.std.specs.List.{list_any}
use Rattle.std.specs.BTreeSet as sorted
use Rattle.std.specs.BTreeSet.{BTreeSet}
use Rattle.std.specs.FinSet as set
use Rattle.std.specs.Cmp.{nat_cmp_total, unsigned_tied, unsigned_Decides}
use Rattle.std.specs.Ordering.{eq_by_cmp, nat_cmp}
use Rattle.std.specs.Str.{bytes_eq}
use Rattle.std.proofs.lemmas.Bool.{cases_lt, cases_order, not-true, not-false}
use Rattle.std.proofs.lemmas.List.{length_push}
use Rattle.std.proofs.lemmas.Fmt.{decimal_injective}
use Rattle.std.proofs.lemmas.List.Folds.{list_any-append}
use Rattle.std.proofs.lemmas.Slice.Eq.{bytes_eq-Decides}
use Rattle.turtle_lex.specs.declared.token.Token.{Token}
use Rattle.turtle_lex.specs.declared.token.TokenKind.{TokenKind}
use Rattle.turtle_lex.specs.declared.token.TokenKind.TheVariants as Kind
use Rattle.turtle_lex.specs.declared.token.LexFault.{LexFault}
use Rattle.turtle_lex.specs.Laws.{text_of}
use Rattle.turtle_lex.specs.Tokens.{IsNext, IsAnswer, IsEnd, is_string, kind_after, listed_token, AreTokensTo}
use Rattle.turtle_lex.proofs.ListingLemmas.{first_tokens, listed_more}
use Rattle.turtle_lex.proofs.NextLemmas.{one_answer}
use Rattle.turtle_reader.specs.Documents.{IsLabelOf}
use Rattle.turtle_reader.specs.LabelLaws.{HasOneListBefore, HasOneLabel, LabelsDiffer, LabelIsNew}
use Rattle.turtle_reader.specs.Taken.{AreGiven, HasEnd, IsNextFree}
use Rattle.turtle_reader.specs.TokensBefore.{AreTokensBefore, HasTokensBefore}
use Rattle.turtle_reader.specs.Unnamed.{HasNumbersIn, HasNumbersOf, IsUnnamed, free_below, generated, is_free, label_of, written_labels}
use Rattle.turtle_reader.proofs.Holding.{slice_get_push}

-- The tokens up to the end of the bytes or to the first text without one, and the labels that they write

-- no token follows those before the end
none_after : (bytes : List ℕ) (at end : ℕ) (after string : Bool) (rest : List Token) (last : Result (Option Token) LexFault)
    → IsAnswer bytes at last → IsEnd last → AreTokensTo bytes at after rest end string → rest ≡ []
none_after bytes at end after string [] last answer ends walk = refl
none_after bytes at end after string (t ∷ ts) last answer ends (next, is_next, listed, more) =
    absurd (subst IsEnd (one_answer bytes at last (Ok (Some next)) answer is_next) ends)

pub one_list_before : HasOneListBefore
one_list_before bytes tokens others a b =
    let (rest, same, walk) = first_tokens bytes tokens others a.to b.to a.string b.string b.last a.tokens_are b.tokens_are b.answer b.ends in
    let none = none_after bytes a.to b.to a.string b.string rest a.last a.answer a.ends walk in
    sym (append-nil tokens) ∙ ap (λ (r : List Token). tokens ++ r) (sym none) ∙ same

-- a token writes the same label wherever it stands
label_of_listed : (after : Bool) (kind : TokenKind) (text : List ℕ) → label_of (kind_after after kind) text ≡ label_of kind text
label_of_listed false kind text = refl
label_of_listed true Kind.AtPrefix text = refl
label_of_listed true Kind.AtBase text = refl
label_of_listed true kind text = refl

pub labels_more : (bytes : List ℕ) (tokens : List Token) (after : Bool) (token : Token)
    → written_labels bytes (tokens ++ listed_token after token ∷ []) ≡ written_labels bytes tokens ++ label_of token.kind (text_of bytes token)
labels_more bytes [] after token = append-nil _ ∙ label_of_listed after token.kind (text_of bytes token)
labels_more bytes (t ∷ tokens) after token =
    ap (λ (ls : List (List ℕ)). label_of t.kind (text_of bytes t) ++ ls) (labels_more bytes tokens after token)
    ∙ sym (append_assoc (label_of t.kind (text_of bytes t)) (written_labels bytes tokens) (label_of token.kind (text_of bytes token)))

-- Tokens were read up to a position, and the set has the numbers of their labels.
pub record HasRead (bytes : List ℕ) (at : ℕ) (has : ℕ → Bool) : Type 0 where
  pub tokens : List Token
  pub string : Bool
  pub tokens_are : AreTokensTo bytes 0 false tokens at string
  pub numbers : HasNumbersOf has (written_labels bytes tokens)

pub read_more : (bytes : List ℕ) (at to : ℕ) (old new : ℕ → Bool) (token : Token) → HasRead bytes at old → IsNext bytes at token → to ≡ token.to
    → ((written : List (List ℕ)) → HasNumbersOf old written → HasNumbersOf new (written ++ label_of token.kind (text_of bytes token)))
    → HasRead bytes to new
read_more bytes at to old new token h next to_is more = record {
  tokens = h.tokens ++ listed_token h.string token ∷ [];
  string = is_string token.kind;
  tokens_are = subst (λ (n : ℕ). AreTokensTo bytes 0 false (h.tokens ++ listed_token h.string token ∷ []) n (is_string token.kind)) (sym to_is)
      (listed_more bytes h.tokens 0 false at h.string token h.tokens_are next);
  numbers = subst (HasNumbersOf new) (sym (labels_more bytes h.tokens h.string token)) (more (written_labels bytes h.tokens) h.numbers);
}

pub read_all : (bytes : List ℕ) (at : ℕ) (has : ℕ → Bool) → HasRead bytes at has → HasEnd bytes at → HasNumbersIn has bytes × HasTokensBefore bytes
read_all bytes at has h (last, answer, ends) =
    let before : AreTokensBefore bytes h.tokens = record {
      to = at;
      string = h.string;
      last = last;
      tokens_are = h.tokens_are;
      answer = answer;
      ends = ends;
    } in (
      λ tokens are. subst (λ (ts : List Token). HasNumbersOf has (written_labels bytes ts)) (one_list_before bytes h.tokens tokens before are) h.numbers,
      (h.tokens, before),
    )

-- The numbers of labels

-- `g` is followed by the same digits
abbrev tail_of : List ℕ → List ℕ
tail_of [] = []
tail_of (b ∷ bs) = bs

pub generated_injective : (m n : ℕ) → m < 2 ^ 64 → n < 2 ^ 64 → generated m ≡ generated n → m ≡ n
generated_injective m n small_m small_n same = decimal_injective m n small_m small_n (ap tail_of same)

step : (written : List (List ℕ)) (n : ℕ) (b : Bool) → is_free written n ≡ b
    → free_below written (suc n) ≡ (if b then suc (free_below written n) else free_below written n)
step written n b e = ap (λ (b : Bool). if b then suc (free_below written n) else free_below written n) e

-- taken numbers aren't counted
pub taken_range : (written : List (List ℕ)) (from n : ℕ) → from ≤ n → ((m : ℕ) → from ≤ m → m < n → is_free written m ≡ false)
    → free_below written n ≡ free_below written from
taken_range written from zero le taken = let z : 0 ≡ from = omega arith in ap (free_below written) z
taken_range written from (suc n) le taken = elim (cases_lt n from) [
  | inl less ↦ let z : suc n ≡ from = omega arith in ap (free_below written) z
  | inr more ↦ step written n false (taken n more (omega arith)) ∙ taken_range written from n more (λ m low high. taken m low (omega arith))
]

step_grows : (written : List (List ℕ)) (n : ℕ) (b : Bool) → is_free written n ≡ b → free_below written n ≤ free_below written (suc n)
step_grows written n true e = let s = step written n true e in omega arith
step_grows written n false e = let s = step written n false e in omega arith

pub free_grows : (written : List (List ℕ)) (m n : ℕ) → m ≤ n → free_below written m ≤ free_below written n
free_grows written m zero le = let z : m ≡ 0 = omega arith in let e = ap (free_below written) z in omega arith
free_grows written m (suc n) le = elim (cases_lt n m) [
  | inl less ↦ let z : m ≡ suc n = omega arith in let e = ap (free_below written) z in omega arith
  | inr more ↦ let a = free_grows written m n more in let b = step_grows written n (is_free written n) refl in omega arith
]

-- a free number with more below it is greater
before_less : (written : List (List ℕ)) (m n : ℕ) → is_free written m ≡ true → m < n → free_below written m < free_below written n
before_less written m n free less =
    let s = step written m true free in let g = free_grows written (suc m) n (omega arith) in omega arith

one_number : (written : List (List ℕ)) (k m n : ℕ) → is_free written m ≡ true → is_free written n ≡ true
    → free_below written m ≡ k → free_below written n ≡ k → m ≡ n
one_number written k m n a b x y = elim (cases_order m n) [
  | inl same ↦ same
  | inr (inl less) ↦ let h = before_less written m n a less in absurd (omega arith)
  | inr (inr more) ↦ let h = before_less written n m b more in absurd (omega arith)
]

pub one_label : HasOneLabel
one_label written k a b x y =
    x.label_is ∙ ap generated (one_number written k x.number y.number x.free y.free x.before y.before) ∙ sym y.label_is

pub labels_differ : LabelsDiffer
labels_differ written j k label x y =
    let same = generated_injective x.number y.number x.small y.small (sym x.label_is ∙ y.label_is) in
    sym x.before ∙ ap (free_below written) same ∙ y.before

pub label_is_new : LabelIsNew
label_is_new written k label x =
    ap (λ (l : List ℕ). list_any (bytes_eq l) written) x.label_is ∙ not-true (list_any (bytes_eq (generated x.number)) written) x.free

-- whether n is the number of one more label
free_more : (written more : List (List ℕ)) (n : ℕ) → not (is_free (written ++ more) n) ≡ (not (is_free written n) || not (is_free more n))
free_more written more n = by_bools (list_any (bytes_eq (generated n)) (written ++ more)) (list_any (bytes_eq (generated n)) written) (list_any (bytes_eq (generated n)) more) (list_any-append (bytes_eq (generated n)) written more) where
  by_bools : (c a b : Bool) → c ≡ (a || b) → not (not c) ≡ (not (not a) || not (not b))
  by_bools c true true e = ap (λ x. not (not x)) e
  by_bools c true false e = ap (λ x. not (not x)) e
  by_bools c false true e = ap (λ x. not (not x)) e
  by_bools c false false e = ap (λ x. not (not x)) e

-- labels of equal numbers alone are equal
pub generated_eq : (m n : ℕ) → m < 2 ^ 64 → n < 2 ^ 64 → (b : Bool) → (b ≡ true → m ≡ n) → (m ≡ n → b ≡ true) → b ≡ bytes_eq (generated m) (generated n)
generated_eq m n small_m small_n true to from = sym ((bytes_eq-Decides (generated m) (generated n)).1 (ap generated (to refl)))
generated_eq m n small_m small_n false to from = by_test (bytes_eq (generated m) (generated n)) refl where
  by_test : (b : Bool) → bytes_eq (generated m) (generated n) ≡ b → false ≡ b
  by_test true e = from (generated_injective m n small_m small_n ((bytes_eq-Decides (generated m) (generated n)).0 e))
  by_test false e = refl

-- the set after the number of one more label was put in
pub numbers_more : (old new : ℕ → Bool) (written more : List (List ℕ)) (number : ℕ) → number < 2 ^ 64 → more ≡ generated number ∷ []
    → ((n : ℕ) → new n ≡ cond (eq_by_cmp nat_cmp number n) true (old n))
    → HasNumbersOf old written → HasNumbersOf new (written ++ more)
numbers_more old new written more number small is step h n below =
    let decides = unsigned_Decides number n in
    let one : (number == n) ≡ bytes_eq (generated n) (generated number) =
    generated_eq n number below small (number == n) (λ e. sym (decides.0 e)) (λ e. decides.1 (sym e)) in
    step n ∙ ap (λ b. cond b true (old n)) (unsigned_tied number n ∙ one)
    ∙ ap (λ b. cond (bytes_eq (generated n) (generated number)) true b) (h n below)
    ∙ joined (bytes_eq (generated n) (generated number)) (not (is_free written n))
    ∙ ap (λ ls. not (is_free written n) || not (is_free ls n)) (sym is) ∙ sym (free_more written more n) where
      joined : (b old : Bool) → cond b true old ≡ (old || not (not (b || false)))
      joined true true = refl
      joined true false = refl
      joined false true = refl
      joined false false = refl

-- one more label, of the first free number
pub given_more : (has : ℕ → Bool) (written labels : List (List ℕ)) (from n next : ℕ) (label : List ℕ) → HasNumbersOf has written
    → AreGiven written labels from → IsNextFree has from n → n < 2 ^ 64 → next ≡ suc n → label ≡ generated n → AreGiven written (labels ++ label ∷ []) next
given_more has written labels from n next label numbers given first small is label_is =
    let free : is_free written n ≡ true = not-false (is_free written n) (sym (numbers n small) ∙ first.free) in
    let count : free_below written n ≡ length labels =
    taken_range written from n first.least (λ m low high. not-true (is_free written m) (sym (numbers m (omega arith)) ∙ first.before m low high)) ∙ given.count in
    record {
      each = λ k l at. elim (slice_get_push labels label k l at) [
        | inl h ↦ given.each k l h
        | inr (k_is, l_is) ↦ record {
          number = n;
          small = small;
          label_is = sym l_is ∙ label_is;
          free = free;
          before = count ∙ sym k_is;
        }
      ];
      count = let step = step written n true free in omega (arith, ap (free_below written) is, step, count, length_push labels label);
    }

-- the set that contracts see
pub seen_has : (taken : BTreeSet ℕ) (n : ℕ) → set.contains (set.from_list {R = nat_cmp} taken.keys) n ≡ sorted.contains nat_cmp taken n
seen_has taken n = set.contains-from_list nat_cmp_total taken.keys n

pub numbers_seen : (taken : BTreeSet ℕ) (written : List (List ℕ)) → HasNumbersOf (sorted.contains nat_cmp taken) written
    → HasNumbersOf (set.contains (set.from_list {R = nat_cmp} taken.keys)) written
numbers_seen taken written h n small = seen_has taken n ∙ h n small

pub numbers_kept : (taken : BTreeSet ℕ) (written : List (List ℕ)) → HasNumbersOf (set.contains (set.from_list {R = nat_cmp} taken.keys)) written
    → HasNumbersOf (sorted.contains nat_cmp taken) written
numbers_kept taken written h n small = sym (seen_has taken n) ∙ h n small

-- an unnamed node of a document has one label
pub one_label_of : (bytes : List ℕ) (k : ℕ) (a b : List ℕ) → IsLabelOf bytes k a → IsLabelOf bytes k b → a ≡ b
one_label_of bytes k a b (ts, before, is) (us, before', is') =
    let same : us ≡ ts = one_list_before bytes us ts before' before in
    one_label (written_labels bytes ts) k a b is (subst (λ (z : List Token). IsUnnamed (written_labels bytes z) k b) same is')
