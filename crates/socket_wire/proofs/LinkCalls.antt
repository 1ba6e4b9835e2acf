-- What one call of a link does.
use Rattle.std.proofs.Common.{◌≡◌, ℕ, List, [], ◌++◌, Option, Some, None, Ok, Err, take, drop, sym, ap, ◌∙◌, arith}
use Rattle.std.specs.Option.{option_map}
use Rattle.std.proofs.lemmas.List.{take-append-drop}
use Rattle.pod_io.specs.declared.link.LinkCounts.{LinkCounts}
use Rattle.pod_io.specs.declared.link.LinkFailed.{LinkFailed}
use Rattle.pod_io.specs.Links.{CountsLinkRead, CountsLinkWrite}
use Rattle.pod_io.specs.Visible.{Appends, Consumes}
use Rattle.socket_wire.specs.Passing.{PassesLink}
use Rattle.socket_wire.specs.PassingLaws.{none_read, none_sent}

-- the bytes that a read of so many took
taken : ℕ → Option (List ℕ) → List ℕ
taken count None = []
taken count (Some rest) = take count rest

took : (count : ℕ) (old new : Option (List ℕ)) → new ≡ option_map (drop count) old → old ≡ option_map (λ (r : List ℕ). taken count old ++ r) new
unfolding taken
took count None new e = ap (λ (o : Option (List ℕ)). option_map (λ (r : List ℕ). [] ++ r) o) (sym e)
took count (Some rest) new e =
    ap (λ (r : List ℕ). Some r) (sym (take-append-drop count rest))
    ∙ ap (λ (o : Option (List ℕ)). option_map (λ (r : List ℕ). take count rest ++ r) o) (sym e)

pub read_some : (count : ℕ) (r s a b : Option (List ℕ)) (k l : LinkCounts) → Consumes {E = LinkFailed} (Ok count) r s → b ≡ a → CountsLinkRead (Ok count) k l → PassesLink r s a b k l
read_some count r s a b k l c same counts = record {
  read = taken count r;
  wrote = [];
  reads = took count r s c.taken;
  writes = same ∙ none_sent a;
  read_faults = counts.no_fewer;
  write_faults = omega (arith, counts.write_faults);
  ends = counts.ends.no_fewer;
}

pub read_none : (failed : LinkFailed) (r s a b : Option (List ℕ)) (k l : LinkCounts) → Consumes (Err failed) r s → b ≡ a → CountsLinkRead (Err failed) k l → PassesLink r s a b k l
read_none e r s a b k l c same counts = record {
  read = [];
  wrote = [];
  reads = none_read r ∙ ap (λ (o : Option (List ℕ)). option_map (λ (r : List ℕ). [] ++ r) o) (sym c.whole);
  writes = same ∙ none_sent a;
  read_faults = counts.no_fewer;
  write_faults = omega (arith, counts.write_faults);
  ends = counts.ends.no_fewer;
}

pub wrote_some : (count : ℕ) (piece : List ℕ) (r s a b : Option (List ℕ)) (k l : LinkCounts) → Appends {E = LinkFailed} (Ok count) piece a b → s ≡ r → CountsLinkWrite (Ok count) k l → PassesLink r s a b k l
wrote_some count piece r s a b k l w same counts = record {
  read = [];
  wrote = take count piece;
  reads = none_read r ∙ ap (λ (o : Option (List ℕ)). option_map (λ (r : List ℕ). [] ++ r) o) (sym same);
  writes = w.added;
  read_faults = omega (arith, counts.read_faults);
  write_faults = counts.write_faults.no_fewer;
  ends = omega (arith, counts.ends);
}

pub wrote_none : (failed : LinkFailed) (piece : List ℕ) (r s a b : Option (List ℕ)) (k l : LinkCounts) → Appends (Err failed) piece a b → s ≡ r → CountsLinkWrite (Err failed) k l → PassesLink r s a b k l
wrote_none e piece r s a b k l w same counts = record {
  read = [];
  wrote = [];
  reads = none_read r ∙ ap (λ (o : Option (List ℕ)). option_map (λ (r : List ℕ). [] ++ r) o) (sym same);
  writes = w.kept ∙ none_sent a;
  read_faults = omega (arith, counts.read_faults);
  write_faults = counts.write_faults.no_fewer;
  ends = omega (arith, counts.ends);
}
