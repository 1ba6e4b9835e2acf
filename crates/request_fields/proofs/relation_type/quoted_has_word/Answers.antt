use Rattle.std.proofs.Common.{◌≡◌, ◌∙◌, sym, ◌∷◌, []}
use Rattle.std.specs.Option.{option_copied}
use Rattle.field_list.specs.QuotedString.{meaning, meaning_rest}
use Rattle.request_fields.proofs.ProgressLemmas.{found, ended}
use Rattle.request_fields.proofs.relation_type.quoted_has_word.Goals as goal

-- a blank ends the word
pub returns-then-is_complete : goal.returns-then-is_complete
returns-then-is_complete c =
    let next : meaning_rest c.loop-byte.bytes ≡ c.in-Some.byte ∷ meaning_rest c.next.new.self = rw c.in-Some.is at c.next.ensures.steps in
    found c.args.word.now (option_copied c.loop-byte.left) (meaning c.args.text.now) (meaning_rest c.loop-byte.bytes) (meaning_rest c.next.new.self) c.in-Some.byte
    next (sym c.is_space_or_tab.ensures ∙ c.if-not-is_space_or_tab.false) (sym c.is_complete.ensures ∙ c.if-is_complete.true) c.loop-byte.invariant

-- the text ends
pub returns : goal.returns
returns c =
    let end : meaning_rest c.loop-byte.bytes ≡ [] = (rw c.in_default.is at c.next.ensures.steps).0 in
    c.is_complete-2.ensures
    ∙ ended c.args.word.now (option_copied c.loop-byte.left) (meaning c.args.text.now) (meaning_rest c.loop-byte.bytes) end c.loop-byte.invariant
