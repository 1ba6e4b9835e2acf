-- Texts that a link sends.
use Rattle.std.proofs.Common.{◌≡◌, ℕ, ◌+◌, ◌-◌, List, [], ◌++◌, length, take, drop, Option, Some, None, Ok, Err, refl, sym, ap, subst, append_assoc, ◌∙◌}
use Rattle.std.specs.Option.{option_map}
use Rattle.std.proofs.lemmas.List.{drop-drop, take_rest, take-append-drop}
use Rattle.std.proofs.Math.Seq.{take-length}
use Rattle.pod_io.specs.Writing.{ExtendsBy}
use Rattle.pod_io.proofs.Extending.{nothing_added}
use Rattle.pod_io.specs.Links.{CountsLinkWrite}
use Rattle.pod_io.specs.Visible.{Appends}
use Rattle.pod_io.specs.declared.link.LinkCounts.{LinkCounts}
use Rattle.pod_io.specs.declared.link.LinkFailed.{LinkFailed}
use Rattle.pod_serve.specs.Serving.{IsWrittenTo, taken_with}
use Rattle.pod_serve.proofs.LinkLemmas.{none_waits, sent_more}

-- one write more of a text from a position on
pub text_more : (text : List ℕ) (at count : ℕ) (old new : Option (List ℕ)) → new ≡ option_map (λ bytes. bytes ++ take count (take (length text - at) (drop at text))) old → taken_with (drop (at + count) text) new ≡ taken_with (drop at text) old
text_more text at count old new is =
    sent_more text at count (take (length text - at) (drop at text)) old new (take_rest text at) is (sym (drop-drop count at text)) (take-append-drop count (drop at text))

-- a write of a link that took bytes, and one that failed
pub wrote : (rest rest_now sent sent_now : Option (List ℕ)) (old new : LinkCounts) (piece : List ℕ) (count : ℕ) → rest_now ≡ rest → Appends {E = LinkFailed} (Ok count) piece sent sent_now → CountsLinkWrite (Ok count) old new → IsWrittenTo rest rest_now sent sent_now old new
wrote rest rest_now sent sent_now old new piece count same a c = record {
  rest_is = same;
  more = take count piece;
  sends = a.added;
  reads = c.reads;
  ended = c.ends;
  read_faults = c.read_faults;
  quiet = c.quiet;
  quiet_row = c.quiet_row;
  write_faults = c.write_faults.no_fewer;
}

pub wrote_none : (rest rest_now sent sent_now : Option (List ℕ)) (old new : LinkCounts) (piece : List ℕ) (failed : LinkFailed) → rest_now ≡ rest → Appends {E = LinkFailed} (Err failed) piece sent sent_now → CountsLinkWrite (Err failed) old new → IsWrittenTo rest rest_now sent sent_now old new
wrote_none rest rest_now sent sent_now old new piece failed same a c = record {
  rest_is = same;
  more = [];
  sends = subst (λ (o : Option (List ℕ)). ExtendsBy [] sent o) (sym a.kept) (nothing_added sent);
  reads = c.reads;
  ended = c.ends;
  read_faults = c.read_faults;
  quiet = c.quiet;
  quiet_row = c.quiet_row;
  write_faults = c.write_faults.no_fewer;
}

-- what waits, with one text more
some_more : (waiting piece : List ℕ) (sent : Option (List ℕ)) → taken_with (waiting ++ piece) sent ≡ option_map (λ bytes. bytes ++ take (length piece) piece) (taken_with waiting sent)
some_more waiting piece None = refl
some_more waiting piece (Some bytes) = ap (λ b. Some b) (sym (append_assoc bytes waiting piece)) ∙ ap (λ p. Some ((bytes ++ waiting) ++ p)) (sym (take-length piece))

pub held_more : {E : Type 0} (from : ℕ) (held later piece : List ℕ) (sent before : Option (List ℕ)) → from ≡ 0 → later ≡ held ++ piece → taken_with (drop from held) sent ≡ before → Appends {E = E} (Ok (length piece)) piece before (taken_with (drop from later) sent)
held_more from held later piece sent before none is same = record {
  added =
      ap (λ n. taken_with (drop n later) sent) none
      ∙ (ap (λ xs. taken_with xs sent) is
      ∙ (some_more held piece sent
      ∙ ap (option_map (λ bytes. bytes ++ take (length piece) piece)) (ap (λ n. taken_with (drop n held) sent) (sym none) ∙ same)));
  kept = tt;
}

-- a text that is sent at once, where nothing waits
pub sent_at_once : {E : Type 0} (from count : ℕ) (held later piece : List ℕ) (before sent sent_now : Option (List ℕ)) → drop from held ≡ [] → later ≡ held → taken_with (drop from held) sent ≡ before → Appends {E = LinkFailed} (Ok count) piece sent sent_now
    → Appends {E = E} (Ok count) piece before (taken_with (drop from later) sent_now)
sent_at_once from count held later piece before sent sent_now none same is a = record {
  added =
      none_waits (drop from later) sent_now (ap (drop from) same ∙ none)
      ∙ (a.added ∙ ap (option_map (λ bytes. bytes ++ take count piece)) (sym (none_waits (drop from held) sent none) ∙ is));
  kept = tt;
}
