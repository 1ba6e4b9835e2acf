use Rattle.std.proofs.Common.{List, ℕ, length, refl, sym, ◌∙◌, ap}
use Rattle.journal_log.specs.Frames.{framed_of}
use Rattle.journal_pair.proofs.opening.pair_of.Goals as goal

pub returns-in-Some-clause-some : goal.returns-in-Some-clause-some
returns-in-Some-clause-some c = (
  refl,
  refl,
  record {
    snapshot = c.in-Some.snapshot.now;
    entries = c.in-Some._entries.now;
    are = sym c.as_slice.ensures ∙ c.in-Some.ensures.cases.0;
    size = c.record_len.ensures ∙ ap (λ (l : List ℕ). length (framed_of l)) c.as_slice-in-Some.ensures;
  },
  refl,
  sym c.epoch.ensures.epoch ∙ c.if-epoch.false,
)
