-- The lines of a journal's records.
use Rattle.std.proofs.Common.{◌≡◌, ℕ, ◌+◌, ◌<◌, ◌==◌, if◌then◌else◌, Bool, true, false, List, [], ◌∷◌, ◌++◌, length, length-append, map, drop, slice_index_or, Option, Result, IsErr, refl, sym, ◌∙◌, ap, subst, append_assoc, rules, arith}
use Rattle.std.proofs.lemmas.List.{drop_more}
use Rattle.std.specs.List.{AllByRecursion, flat_map}
use Rattle.audit_trail.specs.Lines.{entry_line}
use Rattle.pod_io.specs.Writing.{ExtendsBy, ExtendsByPart, Writes}
use Rattle.pod_io.proofs.Extending.{extends_more, part_after, part_before, writes_failed}
use Rattle.stored_forms.specs.StoredForms.{entry_bytes, entry_1_bytes}
use Rattle.pod_command.specs.declared.entry.Entry.{Entry}
use Rattle.pod_records.specs.Readings.{IsEntryOf}
use Rattle.pod_records.specs.Records.{IsEntryIn, entry_text}
use Rattle.podctl_commands.specs.Records.{HasLine, HaveLines, IsRecordOf}

-- those of entries
pub have_lines : (format : ℕ) (entries : List Entry) → AllByRecursion (IsEntryIn format) entries → HaveLines (map (entry_text format) entries) (flat_map entry_line entries)
have_lines format [] all = refl
have_lines format (entry ∷ entries) all =
    (entry_line entry, flat_map entry_line entries, (entry, (format, record { form = refl; stored = all.0 }), refl), have_lines format entries all.1, refl)

-- a line isn't empty
ends_some : (xs line : List ℕ) → line ≡ xs ++ 10 ∷ [] → 0 < length line
ends_some xs line is = omega (arith, ap length is, length-append xs (10 ∷ []))

pub has_some : (body line : List ℕ) → HasLine body line → 0 < length line
has_some body line h = ends_some _ line h.2

-- the first byte of an entry
old_begins : (entry : Entry) → (rest : List ℕ) × (entry_1_bytes entry ≡ 1 ∷ rest)
unfolding entry_1_bytes
old_begins entry = (_, refl)

new_begins : (entry : Entry) (rest : List ℕ) → entry_bytes entry ≡ 1 ∷ rest → ⊥
unfolding entry_bytes
new_begins entry rest e = search (rules, e)

module _ (body : List ℕ) (entry : Entry) where
  old_by : (b : Bool) (format : ℕ) (rest : List ℕ) → (format == 1) ≡ b → body ≡ (if b then entry_1_bytes entry else entry_bytes entry) → IsEntryIn format entry → body ≡ 1 ∷ rest → IsEntryOf 1 body entry
  old_by true format rest is form stored begins = record { form = form; stored = record { storable = stored.storable; bases = λ e. stored.bases (grind (arith, is)) } }
  old_by false format rest is form stored begins = absurd (new_begins entry rest (sym form ∙ begins))

  -- of a record that begins with 1
  pub is_old_entry : (rest : List ℕ) → IsRecordOf body entry → body ≡ 1 ∷ rest → IsEntryOf 1 body entry
  is_old_entry rest (format, is) begins = old_by (format == 1) format rest refl is.form is.stored begins

  new_by : (b : Bool) (format : ℕ) → (format == 1) ≡ b → body ≡ (if b then entry_1_bytes entry else entry_bytes entry) → IsEntryIn format entry → ((rest : List ℕ) → body ≡ 1 ∷ rest → ⊥) → IsEntryOf 2 body entry
  new_by true format is form stored other = let begins = old_begins entry in absurd (other begins.0 (form ∙ begins.1))
  new_by false format is form stored other = record { form = form; stored = record { storable = stored.storable; bases = λ e. search (rules, e) } }

  -- and of one that doesn't
  pub is_new_entry : IsRecordOf body entry → ((rest : List ℕ) → body ≡ 1 ∷ rest → ⊥) → IsEntryOf 2 body entry
  is_new_entry (format, is) other = new_by (format == 1) format refl is.form is.stored other

-- The lines of the first records are printed, and those of the others are left.
pub record Split (records : List (List ℕ)) (i : ℕ) (text : List ℕ) (old now : Option (List ℕ)) : Type 0 where
  pub done : List ℕ
  pub rest : List ℕ
  pub left : HaveLines (drop i records) rest
  pub whole : text ≡ done ++ rest
  pub printed : ExtendsBy done old now

module _ (records : List (List ℕ)) (i : ℕ) (item body : List ℕ) (within : i < length records) (is : item ≡ slice_index_or records i item) (same : body ≡ item) (text : List ℕ) (old now : Option (List ℕ)) (s : Split records i text old now) where
  here : HaveLines (body ∷ drop (i + 1) records) s.rest
  here = subst (λ l. HaveLines l s.rest) (drop_more records i item within ∙ ap (λ x. x ∷ drop (i + 1) records) (sym is ∙ sym same)) s.left

  pub line_here : (line : List ℕ) × HasLine body line
  line_here = (here.0, here.2)

  pub split_more : (new : Option (List ℕ)) → ((line : List ℕ) → HasLine body line → ExtendsBy line now new) → Split records (i + 1) text old new
  split_more new written = record {
    done = s.done ++ here.0;
    rest = here.1;
    left = here.3;
    whole = s.whole ∙ ap (λ r. s.done ++ r) here.4 ∙ sym (append_assoc s.done here.0 here.1);
    printed = extends_more old now new s.done here.0 s.printed (written here.0 here.2);
  }

  pub split_fails : {T E : Type 0} (result : Result T E) (new : Option (List ℕ)) → IsErr result → ((line : List ℕ) → HasLine body line → ExtendsByPart line now new) → Writes result text old new
  split_fails result new failed part =
      let more = part_after old now new s.done (here.0 ++ here.1) s.printed (part_before now new here.0 here.1 (part here.0 here.2)) in
      writes_failed result old new text failed (subst (λ t. ExtendsByPart t old new) (sym (s.whole ∙ ap (λ r. s.done ++ r) here.4)) more)
