-- An image that a crash may leave of a world stands for its history, or for that with one entry more.
use Rattle.std.proofs.Common.{◌≡◌, ◌⊎◌, inl, inr, ℕ, zero, suc, ◌≤◌, Bool, List, [], ◌∷◌, ◌++◌, length, map, All, false, refl, sym, ap, subst, arith}
use Rattle.std.specs.List.{AllByRecursion}
use Rattle.journal_log.proofs.Records.{stands_closed, stands_opening}
use Rattle.journal_log.specs.CleanJournal.{IsJournalPrefix, IsShort}
use Rattle.journal_log.specs.Images.{IsEither, Stands}
use Rattle.journal_log.specs.JournalState.{JournalState}
use Rattle.pod_base.specs.declared.request.Request.{Request}
use Rattle.stored_forms.specs.StoredForms.{entry_bytes, snapshot_bytes}
use Rattle.pod_command.specs.declared.entry.Entry.{Entry}
use Rattle.pod_core.specs.History.{History, IsHistory, end_of, longer}
use Rattle.pod_core.specs.World.{Event, World, WorldRun, first_world}
use Rattle.pod_core.specs.WorldImages.{IsAllowedImage, MayFollow, journal_of, journal_records, start_snapshot}
use Rattle.pod_records.specs.Records.{IsEntryIn}
use Rattle.reply_laws.specs.Laws.{EntriesApply}
use Rattle.token_table.specs.Credentials.{AskedAgent}
use Rattle.world_laws.specs.CrashedWorlds.{HoldHistory, ImageStandsFor, ImageStandsForMore, IsRecordable, IsRecordableHistory}
use Rattle.world_laws.proofs.NextEntries.{Fits, IsNext, following, run_fits, with_next}
use Rattle.world_laws.proofs.RecordedEntries.{recordable_more}
use Rattle.world_laws.proofs.WorldLists.{map_snoc}

-- ---- the records of a history

all_short : (bodies : List (List ℕ)) → AllByRecursion IsShort bodies → All IsShort bodies
all_short [] h k d lt = absurd (omega (arith, lt))
all_short (body ∷ bodies) h zero d lt = h.0
all_short (body ∷ bodies) h (suc k) d lt = all_short bodies h.1 k d (omega (arith, lt))

short_texts : (entries : List Entry) → AllByRecursion IsRecordable entries → AllByRecursion IsShort (map entry_bytes entries)
short_texts [] h = tt
short_texts (entry ∷ entries) h = (h.0.short, short_texts entries h.1)

all_in : (entries : List Entry) → AllByRecursion IsRecordable entries → AllByRecursion (IsEntryIn 2) entries
all_in [] h = tt
all_in (entry ∷ entries) h = (record { storable = h.0.storable; bases = λ old. absurd (omega (arith, old)) }, all_in entries h.1)

hold_history : (history : History) → IsHistory history → IsRecordableHistory history → HoldHistory history (journal_records history)
hold_history history h r = record {
  snapshot = start_snapshot history;
  pod_is = refl;
  number = refl;
  holds = record {
    texts = refl;
    stored = r.storable;
    well_formed = record { number = r.number; pod = h.well_formed };
    all_stored = all_in history.entries r.entries;
    apply = h.apply;
  };
}

-- ---- the journal of a history

-- a clean journal with these records
abbrev journal_state : History → JournalState
journal_state history = record { end = length (journal_of history); doubt = false; format = 2; epoch = 1 }

is_prefix : (history : History) → IsRecordableHistory history → IsJournalPrefix (journal_state history) (journal_records history) (journal_of history)
is_prefix history r = record {
  known = record { either = inr refl; most = omega arith; old = λ e. absurd (omega (arith, e)) };
  spells = refl;
  ends = refl;
  short = all_short (journal_records history) (r.short, short_texts history.entries r.entries);
}

-- with one entry more
records_more : (history : History) (entry : Entry) → journal_records (longer history (entry ∷ [])) ≡ journal_records history ++ entry_bytes entry ∷ []
records_more history entry = ap (λ (l : List (List ℕ)). snapshot_bytes (start_snapshot history) ∷ l) (map_snoc entry_bytes history.entries entry)

module _ (history : History) (image : List ℕ) (h : IsHistory history) (r : IsRecordableHistory history) where
  stands_for : Stands 2 1 (journal_records history) image → ImageStandsFor history image
  stands_for s = record { bodies = journal_records history; stands = s; hold = hold_history history h r }

-- ---- an image that a crash may leave

module _ (world : World) (image : List ℕ) (fits : Fits world.keeper) (published : world.published ≤ end_of world.keeper.history) (r : IsRecordableHistory world.keeper.history) (each : (entry : Entry) → MayFollow world.keeper entry → IsRecordable entry) where
  abbrev here : History
  here = world.keeper.history

  stands_with : (entry : Entry) → MayFollow world.keeper entry → Stands 2 1 (journal_records here ++ entry_bytes entry ∷ []) image → ImageStandsForMore world image
  stands_with entry follows s =
      let next : IsNext here entry = following world.keeper entry fits follows in
      record {
        entry = entry;
        follows = follows;
        place = next.number;
        unpublished = omega (arith, published, next.number);
        stands = stands_for (longer here (entry ∷ [])) image (with_next here entry fits.is_history next) (recordable_more here entry r (each entry follows))
            (subst (λ (bodies : List (List ℕ)). Stands 2 1 bodies image) (sym (records_more here entry)) s);
      }

  by_gate : (entry : Entry) → MayFollow world.keeper entry → IsEither 2 1 (journal_records here) (entry_bytes entry) image → ImageStandsFor here image ⊎ ImageStandsForMore world image
  by_gate entry follows (inl s) = inl (stands_for here image fits.is_history r s)
  by_gate entry follows (inr s) = inr (stands_with entry follows s)

  pub image_stands : IsAllowedImage world.keeper image → ImageStandsFor here image ⊎ ImageStandsForMore world image
  image_stands (inl closed) =
      inl (stands_for here image fits.is_history r (stands_closed (journal_state here) (journal_records here) (journal_of here) (is_prefix here r) image closed))
  image_stands (inr (entry, follows, opening)) =
      by_gate entry follows (stands_opening (journal_state here) (journal_records here) (journal_of here) (is_prefix here r) (entry_bytes entry) image (each entry follows).short opening)

-- ---- from the first world on

module _ (applies : EntriesApply) (may_give : ℕ → Type 0) (asking : Request → AskedAgent) (history : History) (numbers : ℕ → Bool) (is_history : IsHistory history) where
  pub ends_fit : (events : List Event) (world : World) → WorldRun may_give asking (first_world history numbers) events world → Fits world.keeper
  ends_fit events world run = run_fits applies may_give asking (first_world history numbers) events world run (record { is_history = is_history; doubt = tt; holder = tt })
