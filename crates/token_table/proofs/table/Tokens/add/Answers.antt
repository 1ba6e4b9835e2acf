use Rattle.std.proofs.Common.{◌≡◌, [], ◌∷◌, ◌++◌, length, not, Some, None, sym, ◌∙◌, ap, subst, arith, string_bytes}
use Rattle.std.specs.Prelude.{bytes_eq, is_some}
use Rattle.std.specs.Str.{IsUtf8}
use Rattle.std.specs.Map.{update}
use Rattle.std.specs.BTreeMap.{get_by_text}
use Rattle.std.proofs.lemmas.Map.Text.{btree_map_updates_text}
use Rattle.token_table.specs.TableLines.{has_token}
use Rattle.token_table.specs.Places.{AreFiled, place_of}
use Rattle.token_table.proofs.TokenLemmas.{filed_more, filed_same, taken_is, not_some}
use Rattle.token_table.proofs.table.Tokens.add.Goals as goal

-- the token is in the table
pub returns-then-is_some-clause-added : goal.returns-then-is_some-clause-added
returns-then-is_some-clause-added c =
    let token = c.as_str-2.ensures.value ∙ c.in_ok-token.ensures.ok ∙ c.as_str.ensures in
    let is : has_token c.args.self.now c.args.entry.token ≡ c.is_some.result =
    ap (λ table. has_token table c.args.entry.token) (sym c.self.view_is) ∙ taken_is c.self.inside.entries.items c.self.inside.places c.self.invariant c.args.entry.token
    ∙ ap (λ t. is_some (get_by_text c.self.inside.places t)) (sym token) ∙ ap is_some (sym c.place.ensures) ∙ sym c.is_some.ensures in
    ap not (sym (is ∙ c.if-is_some.true))

-- the tree stays as it was
pub invariant_of-self-in_err-insert : goal.invariant_of-self-in_err-insert
invariant_of-self-in_err-insert c =
    filed_same c.self.inside.entries.items c.reserve.new.self.items c.self.inside.places c.insert.new.self c.in_ok-reserve.ensures.items c.in_err-insert.ensures.err c.self.invariant

-- the tree has one token more
pub invariant_of-self-2 : goal.invariant_of-self-2
invariant_of-self-2 c =
    let es = c.self.inside.entries.items in
    let token = c.as_str-2.ensures.value ∙ c.in_ok-token.ensures.ok ∙ c.as_str.ensures in
    let key : string_bytes c.in_ok-token.token ≡ c.args.entry.token = c.in_ok-token.ensures.ok ∙ c.as_str.ensures in
    let none : place_of c.args.entry.token es ≡ None =
    sym (c.self.invariant.filed c.args.entry.token) ∙ ap (get_by_text c.self.inside.places) (sym token) ∙ sym c.place.ensures ∙ not_some c.place.result (sym c.is_some.ensures ∙ c.if-is_some.false) in
    let place : c.len.result ≡ length es = omega (arith, c.len.ensures, c.in_ok-reserve.ensures.len, c.self.inside.entries.ok.0) in
    subst (λ items. AreFiled items c.insert.new.self) (sym (c.push_reserved.ensures.items ∙ ap (λ items. items ++ c.args.entry ∷ []) c.in_ok-reserve.ensures.items))
    (filed_more es c.args.entry c.self.inside.places c.insert.new.self c.self.invariant (subst IsUtf8 c.as_str.ensures c.as_str.utf8) none
    (λ cs. btree_map_updates_text (string_bytes c.in_ok-token.token) c.self.inside.places c.insert.new.self (Some c.len.result) c.in_ok-insert.ensures.updates cs
    ∙ ap (λ bs. update bytes_eq (get_by_text c.self.inside.places) bs (Some c.len.result) cs) key
    ∙ ap (λ n. update bytes_eq (get_by_text c.self.inside.places) c.args.entry.token (Some n) cs) place))

-- it wasn't there
pub returns-clause-added : goal.returns-clause-added
returns-clause-added c =
    let token = c.as_str-2.ensures.value ∙ c.in_ok-token.ensures.ok ∙ c.as_str.ensures in
    let is : has_token c.args.self.now c.args.entry.token ≡ c.is_some.result =
    ap (λ table. has_token table c.args.entry.token) (sym c.self.view_is) ∙ taken_is c.self.inside.entries.items c.self.inside.places c.self.invariant c.args.entry.token
    ∙ ap (λ t. is_some (get_by_text c.self.inside.places t)) (sym token) ∙ ap is_some (sym c.place.ensures) ∙ sym c.is_some.ensures in
    ap not (sym (is ∙ c.if-is_some.false))
