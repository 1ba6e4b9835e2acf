-- A read behind another.
use Rattle.std.proofs.Common.{◌≡◌, ℕ, ◌+◌, ◌-◌, ◌^◌, ◌==◌, true, false, if◌then◌else◌, min, ◌≤◌, ◌<◌, List, [], ◌++◌, length, take, drop, Option, Some, None, refl, sym, ap, subst, append_assoc, ◌∙◌, arith}
use Rattle.std.specs.Option.{option_map}
use Rattle.std.proofs.Math.Seq.{take-append_seam, length-take-le}
use Rattle.std.proofs.lemmas.List.{append-nil, take-append-drop}
use Rattle.std.proofs.lemmas.Bool.Decides.{nat_tests}
use Rattle.pod_io.specs.Counts.{next_count}
use Rattle.pod_io.specs.Visible.{IfVisible, IsRead}
use Rattle.pod_pipe.specs.Streams.{Reads, AtEnd, AddsReads, AddsAllReads}

-- the front of the slice has that many bytes of the rest
front_is : (rest old piece : List ℕ) (count : ℕ) → IsRead rest count old piece → take count piece ≡ take count rest
front_is rest old piece count read =
    let front = take count rest in
    ap (take count) read.bytes
    ∙ subst (λ n. take n (front ++ drop count old) ≡ front) (length-take-le count rest read.there) (take-append_seam front (drop count old))

pub reads_more : (text old piece : List ℕ) (count : ℕ) (first middle last : Option (List ℕ)) → Reads text first middle → IfVisible middle (λ rest. IsRead rest count old piece) → last ≡ option_map (drop count) middle → Reads (text ++ take count piece) first last
reads_more text old piece count first None last reads told is = reads ∙ ap (option_map (λ rest. (text ++ take count piece) ++ rest)) (sym is)
reads_more text old piece count first (Some rest) last reads told is =
    let front = front_is rest old piece count (told rest refl) in
    let whole : text ++ rest ≡ (text ++ take count piece) ++ drop count rest =
    ap (λ r. text ++ r) (sym (take-append-drop count rest)) ∙ sym (append_assoc text (take count rest) (drop count rest))
    ∙ ap (λ f. (text ++ f) ++ drop count rest) (sym front) in
    reads ∙ ap Some whole ∙ ap (option_map (λ r. (text ++ take count piece) ++ r)) (sym is)

-- where no byte came the input is at its end
pub ended_at : (old piece : List ℕ) (count : ℕ) (middle last : Option (List ℕ)) → count ≡ 0 → IfVisible middle (λ rest. IsRead rest count old piece) → last ≡ option_map (drop count) middle → AtEnd last
ended_at old piece count None last none told is = λ bytes e. let never : None ≡ Some bytes = sym is ∙ e in cc
ended_at old piece count (Some rest) last none told is =
    let empty : rest ≡ [] = (told rest refl).ended none in
    let same : last ≡ Some [] = is ∙ ap (λ r. Some (drop count r)) empty ∙ ap (λ n. Some (drop n [])) none in
    λ bytes e. let here : Some [] ≡ Some bytes = sym same ∙ e in cc

-- and nothing more was read
pub reads_none : (text old piece : List ℕ) (count : ℕ) (first middle last : Option (List ℕ)) → count ≡ 0 → Reads text first middle → IfVisible middle (λ rest. IsRead rest count old piece) → last ≡ option_map (drop count) middle → Reads text first last
reads_none text old piece count first middle last none reads told is =
    subst (λ t. Reads t first last) (ap (λ n. text ++ take n piece) none ∙ append-nil text) (reads_more text old piece count first middle last reads told is)

pub some_read : (piece : List ℕ) (count : ℕ) → count ≤ length piece → (count ≡ 0 → ⊥) → 0 < length (take count piece)
some_read piece count within some = omega (arith, some, length-take-le count piece within)

-- a read without a byte found the end, and any other did not
pub met_end : (old new count : ℕ) → count ≡ 0 → new ≡ (if count == 0 then next_count old else old) → new ≡ next_count old
met_end old new count none is = is ∙ ap (λ n. if n == 0 then next_count old else old) none

pub met_no_end : (old new count : ℕ) → (count ≡ 0 → ⊥) → new ≡ (if count == 0 then next_count old else old) → new ≡ old
met_no_end old new count some is =
    is ∙ (elim (count == 0) as (λ b. (count == 0) ≡ b → (if b then next_count old else old) ≡ old) [
      | true ↦ λ e. absurd (some (grind (arith, nat_tests)))
      | false ↦ λ e. refl
    ] refl)

-- So many reads were counted, within their limit, by a count that holds at most 2^64 - 1.
pub record AreCounted (first pieces now : ℕ) : Type 0 where
  pub within : pieces ≤ 2 ^ 40
  pub no_fewer : first ≤ now
  pub bound : now ≤ first + pieces
  pub all : min (first + pieces) (2 ^ 64 - 1) ≤ now
  pub held : 0 < pieces → now ≤ 2 ^ 64 - 1

pub none_counted : (first : ℕ) → AreCounted first 0 first
none_counted first = record { within = omega arith; no_fewer = omega arith; bound = omega arith; all = omega arith; held = λ some. omega (arith, some) }

-- one read more
pub one_more : (first old new pieces : ℕ) → AreCounted first pieces old → pieces < 2 ^ 40 → old ≤ new → new ≡ next_count old → AreCounted first (pieces + 1) new
one_more first old new pieces so_far below le is = record {
  within = omega (arith, below);
  no_fewer = omega (arith, so_far.no_fewer, le);
  bound = omega (arith, so_far.bound, is);
  all = omega (arith, so_far.all, is);
  held = λ some. omega (arith, is);
}

pub few_counted : (first now pieces : ℕ) → AreCounted first pieces now → AddsReads first now
few_counted first now pieces counted = record { no_fewer = counted.no_fewer; bound = omega (arith, counted.bound, counted.within) }

pub all_counted : (first now pieces : ℕ) → AreCounted first pieces now → 2 ^ 40 ≤ pieces → AddsAllReads first now
all_counted first now pieces counted all = omega (arith, counted.within, counted.bound, counted.all, counted.held (omega (arith, all)), all)

-- no read
pub no_reads : (now : ℕ) → AddsReads now now
no_reads now = record { no_fewer = omega arith; bound = omega arith }

-- a read that failed isn't counted
pub fails_counted : (first old new pieces : ℕ) → AreCounted first pieces old → new ≡ old → AddsReads first new
fails_counted first old new pieces counted same = subst (AddsReads first) (sym same) (few_counted first old pieces counted)
