use Rattle.std.proofs.Common.{◌≡◌, ◌+◌, ℕ, Err, true, false, List, [], ◌∷◌, codes, drop, refl, sym, ap, ◌∙◌, subst, arith, rules, string_bytes}
use Rattle.std.proofs.lemmas.List.{drop_all, drop_more}
use Rattle.std.proofs.lemmas.Result.{on_ok_weaker}
use Rattle.rdf_graph.specs.Term.{IsLiteral}
use Rattle.rdf_graph.specs.declared.term.Term.{Term}
use Rattle.serde_json.specs.Data.{Data, array, object}
use Rattle.serde_json.specs.View.{view, items_view, members_view}
use Rattle.serde_json.specs.declared.value.Value.{Value}
use Rattle.serde_json.proofs.Views.{Entry, view-Array, view-Object}
use Rattle.jsonld_expanded.specs.Expands.{State, Says, Then, WalksArray, WalksCells, WalksEachValue, WalksMember, WalksMembers, WalksValue, WalksValues}
use Rattle.jsonld_expanded.specs.Vocabulary.{rdf_first, rdf_rest}
use Rattle.jsonld_expanded.specs.Walks.{Advances, Refuses, scope_view}
use Rattle.jsonld_expanded.proofs.Once.{once-member, once-value}
use Rattle.jsonld_expanded.proofs.Steps.{Leads, advance-same, handed, leads-same, leads-then, refuse-first}
use Rattle.jsonld_expanded.proofs.Objects.{has_of, id_ok, leads_cell, list_ok, list_out, literal_ok, literal_out, many_out, node_ok, node_out, node_value_none, node_value_ok, node_value_out, only_ok, only_out, predicate_ok, predicate_out, relative_out, type_ok, type_out, values_ok, values_out}
use Rattle.jsonld_expanded.proofs.walk_scope.Scope.+walk.Goals as goal

-- ---- value

pub value-returns-then-is_literal-clause-ok : goal.value-returns-then-is_literal-clause-ok
value-returns-then-is_literal-clause-ok t c =
    let d = view c.args.value.now in
    let ms = members_view c.in-Object.members.entries in
    let is = ap view c.in-Object.is ∙ view-Object c.in-Object.members in
    let has = has_of (codes "@value") d ms c.has_key-is_literal.result true is c.has_key-is_literal.ensures c.if-is_literal.true in
    on_ok_weaker c.literal_value.result (literal_ok (scope_view c.args.self.now) c.args.s.now c.args.p.now d ms is c.args.walk.now c.literal_value.new.walk has) c.literal_value.ensures.ok

pub value-returns-then-is_literal-clause-out : goal.value-returns-then-is_literal-clause-out
value-returns-then-is_literal-clause-out t c = λ refused.
    let d = view c.args.value.now in
    let ms = members_view c.in-Object.members.entries in
    let is = ap view c.in-Object.is ∙ view-Object c.in-Object.members in
    let has = has_of (codes "@value") d ms c.has_key-is_literal.result true is c.has_key-is_literal.ensures c.if-is_literal.true in
    literal_out (scope_view c.args.self.now) c.args.s.now c.args.p.now d ms is c.args.walk.now has (c.literal_value.ensures.out refused)

pub value-returns-then-is_list-clause-ok : goal.value-returns-then-is_list-clause-ok
value-returns-then-is_list-clause-ok t c =
    let d = view c.args.value.now in
    let ms = members_view c.in-Object.members.entries in
    let is = ap view c.in-Object.is ∙ view-Object c.in-Object.members in
    let has = has_of (codes "@value") d ms c.has_key-is_literal.result false is c.has_key-is_literal.ensures c.if-is_literal.false in
    let list = has_of (codes "@list") d ms c.has_key-is_list.result true is c.has_key-is_list.ensures c.if-is_list.true in
    on_ok_weaker c.list_value.result (list_ok (scope_view c.args.self.now) c.args.s.now c.args.p.now d ms is c.args.walk.now c.list_value.new.walk has list) c.list_value.ensures.ok

pub value-returns-then-is_list-clause-out : goal.value-returns-then-is_list-clause-out
value-returns-then-is_list-clause-out t c = λ refused.
    let d = view c.args.value.now in
    let ms = members_view c.in-Object.members.entries in
    let is = ap view c.in-Object.is ∙ view-Object c.in-Object.members in
    let has = has_of (codes "@value") d ms c.has_key-is_literal.result false is c.has_key-is_literal.ensures c.if-is_literal.false in
    let list = has_of (codes "@list") d ms c.has_key-is_list.result true is c.has_key-is_list.ensures c.if-is_list.true in
    list_out (scope_view c.args.self.now) c.args.s.now c.args.p.now d ms is c.args.walk.now has list (c.list_value.ensures.out refused)

pub value-returns-else-is_list-clause-ok : goal.value-returns-else-is_list-clause-ok
value-returns-else-is_list-clause-ok t c =
    let d = view c.args.value.now in
    let ms = members_view c.in-Object.members.entries in
    let is = ap view c.in-Object.is ∙ view-Object c.in-Object.members in
    let has = has_of (codes "@value") d ms c.has_key-is_literal.result false is c.has_key-is_literal.ensures c.if-is_literal.false in
    let list = has_of (codes "@list") d ms c.has_key-is_list.result false is c.has_key-is_list.ensures c.if-is_list.false in
    on_ok_weaker c.node_value.result (node_ok (scope_view c.args.self.now) c.args.s.now c.args.p.now d ms is c.args.walk.now c.node_value.new.walk has list) c.node_value.ensures.ok

pub value-returns-else-is_list-clause-out : goal.value-returns-else-is_list-clause-out
value-returns-else-is_list-clause-out t c = λ refused.
    let d = view c.args.value.now in
    let ms = members_view c.in-Object.members.entries in
    let is = ap view c.in-Object.is ∙ view-Object c.in-Object.members in
    let has = has_of (codes "@value") d ms c.has_key-is_literal.result false is c.has_key-is_literal.ensures c.if-is_literal.false in
    let list = has_of (codes "@list") d ms c.has_key-is_list.result false is c.has_key-is_list.ensures c.if-is_list.false in
    node_out (scope_view c.args.self.now) c.args.s.now c.args.p.now d ms is c.args.walk.now has list (c.node_value.ensures.out refused)

-- ---- list_value and array_value

pub list_value-returns-then-len-ne1-clause-out : goal.list_value-returns-then-len-ne1-clause-out
list_value-returns-then-len-ne1-clause-out t c = λ refused.
    many_out (scope_view c.args.self.now) c.args.s.now c.args.p.now c.args.walk.now c.args.members.now.entries (λ one. c.if-len-ne1.true (c.len.ensures.len ∙ one))

pub list_value-returns-in-Some-clause-ok : goal.list_value-returns-in-Some-clause-ok
list_value-returns-in-Some-clause-ok t c =
    let es = c.args.members.now.entries in
    let e : Entry = (c.in-Some._key.now, c.in-Some.value.now) in
    let is = sym c.iter.ensures.rest ∙ c.in-Some.ensures.steps in
    on_ok_weaker c.array_value.result (only_ok (scope_view c.args.self.now) c.args.s.now c.args.p.now c.args.walk.now c.array_value.new.walk es c.next.new.self e is (sym c.len.ensures.len ∙ c.if-len-ne1.false)) c.array_value.ensures.ok

pub list_value-returns-in-Some-clause-out : goal.list_value-returns-in-Some-clause-out
list_value-returns-in-Some-clause-out t c = λ refused.
    let es = c.args.members.now.entries in
    let e : Entry = (c.in-Some._key.now, c.in-Some.value.now) in
    let is = sym c.iter.ensures.rest ∙ c.in-Some.ensures.steps in
    only_out (scope_view c.args.self.now) c.args.s.now c.args.p.now c.args.walk.now es c.next.new.self e is (c.array_value.ensures.out refused)

pub array_value-returns-in-Array-clause-ok : goal.array_value-returns-in-Array-clause-ok
array_value-returns-in-Array-clause-ok t c =
    let scope = scope_view c.args.self.now in
    let u = c.args.walk.now in
    let v = c.cells.new.walk in
    let is = ap view c.in-Array.is ∙ view-Array c.in-Array.items in
    on_ok_weaker c.cells.result (λ h. subst (λ (d : Data). Advances (WalksArray scope c.args.s.now c.args.p.now d) u v) (sym is)
    (subst (λ (xs : List Value). Advances (WalksCells scope c.args.s.now c.args.p.now (items_view xs)) u v) c.deref.ensures.value h)) c.cells.ensures.ok

pub array_value-returns-in-Array-clause-out : goal.array_value-returns-in-Array-clause-out
array_value-returns-in-Array-clause-out t c = λ refused.
    let scope = scope_view c.args.self.now in
    let u = c.args.walk.now in
    let is = ap view c.in-Array.is ∙ view-Array c.in-Array.items in
    subst (λ (d : Data). Refuses (WalksArray scope c.args.s.now c.args.p.now d) u) (sym is)
    (subst (λ (xs : List Value). Refuses (WalksCells scope c.args.s.now c.args.p.now (items_view xs)) u) c.deref.ensures.value (c.cells.ensures.out refused))

-- ---- values and each_value

pub values-returns-in-Array-clause-ok : goal.values-returns-in-Array-clause-ok
values-returns-in-Array-clause-ok t c =
    let scope = scope_view c.args.self.now in
    let u = c.args.walk.now in
    let v = c.each_value.new.walk in
    let is = ap view c.in-Array.is ∙ view-Array c.in-Array.items in
    on_ok_weaker c.each_value.result (λ h. subst (λ (d : Data). Advances (WalksValues scope c.args.s.now c.args.p.now d) u v) (sym is)
    (subst (λ (xs : List Value). Advances (WalksEachValue scope c.args.s.now c.args.p.now (items_view xs)) u v) c.deref.ensures.value h)) c.each_value.ensures.ok

pub values-returns-in-Array-clause-out : goal.values-returns-in-Array-clause-out
values-returns-in-Array-clause-out t c = λ refused.
    let scope = scope_view c.args.self.now in
    let u = c.args.walk.now in
    let is = ap view c.in-Array.is ∙ view-Array c.in-Array.items in
    subst (λ (d : Data). Refuses (WalksValues scope c.args.s.now c.args.p.now d) u) (sym is)
    (subst (λ (xs : List Value). Refuses (WalksEachValue scope c.args.s.now c.args.p.now (items_view xs)) u) c.deref.ensures.value (c.each_value.ensures.out refused))

pub values-returns-in-Object-clause-ok : goal.values-returns-in-Object-clause-ok
values-returns-in-Object-clause-ok t c =
    let ms = members_view c.in-Object._members.entries in
    let is = ap view c.in-Object.is ∙ view-Object c.in-Object._members in
    on_ok_weaker c.value.result (values_ok (scope_view c.args.self.now) c.args.s.now c.args.p.now (view c.args.value.now) ms is c.args.walk.now c.value.new.walk) c.value.ensures.ok

pub values-returns-in-Object-clause-out : goal.values-returns-in-Object-clause-out
values-returns-in-Object-clause-out t c = λ refused.
    let ms = members_view c.in-Object._members.entries in
    let is = ap view c.in-Object.is ∙ view-Object c.in-Object._members in
    values_out (scope_view c.args.self.now) c.args.s.now c.args.p.now (view c.args.value.now) ms is c.args.walk.now (c.value.ensures.out refused)

pub each_value-loop-item-init : goal.each_value-loop-item-init
each_value-loop-item-init t c = leads-same (WalksEachValue (scope_view c.args.self.now) c.args.s.now c.args.p.now (items_view c.args.items.now)) c.args.walk.now

pub each_value-loop-item-preserved : goal.each_value-loop-item-preserved
each_value-loop-item-preserved t c =
    let l = c.loop-item in
    let scope = scope_view c.args.self.now in
    let s = c.args.s.now in
    let p = c.args.p.now in
    let xs = c.args.items.now in
    let x = c.item-item.result in
    let here : drop l.item-index xs ≡ x ∷ drop (l.item-index + 1) xs = drop_more xs l.item-index x (omega arith) ∙ ap (λ y. y ∷ drop (l.item-index + 1) xs) (sym c.item-item.is) in
    let Whole : State → State → Type 0 = WalksEachValue scope s p (items_view xs) in
    leads-then Whole (WalksValue scope s p (view x)) (WalksEachValue scope s p (items_view (drop (l.item-index + 1) xs))) c.args.walk.now l.walk c.value.new.walk
    (subst (λ (ys : List Value). Leads Whole (WalksEachValue scope s p (items_view ys)) c.args.walk.now l.walk) here l.invariant)
    (once-value scope s p (view x)) c.in_ok-value.ensures.ok

pub each_value-returns-in_err-value-clause-out : goal.each_value-returns-in_err-value-clause-out
each_value-returns-in_err-value-clause-out t c = λ refused.
    let l = c.loop-item in
    let scope = scope_view c.args.self.now in
    let s = c.args.s.now in
    let p = c.args.p.now in
    let xs = c.args.items.now in
    let x = c.item-item.result in
    let here : drop l.item-index xs ≡ x ∷ drop (l.item-index + 1) xs = drop_more xs l.item-index x (omega arith) ∙ ap (λ y. y ∷ drop (l.item-index + 1) xs) (sym c.item-item.is) in
    l.invariant.out (subst (λ (ys : List Value). Refuses (WalksEachValue scope s p (items_view ys)) l.walk) (sym here)
    (refuse-first (WalksValue scope s p (view x)) (WalksEachValue scope s p (items_view (drop (l.item-index + 1) xs))) l.walk
    (c.in_err-value.ensures.out (handed c.from_residual.result c.in_err-value.field-0.0 _ c.from_residual.ensures.1 refused))))

pub each_value-returns-clause-ok : goal.each_value-returns-clause-ok
each_value-returns-clause-ok t c =
    let l = c.loop-item in
    let none : drop l.item-index c.args.items.now ≡ [] = drop_all l.item-index c.args.items.now (omega arith) in
    l.invariant.ok l.walk (subst (λ (ys : List Value). Advances (WalksEachValue (scope_view c.args.self.now) c.args.s.now c.args.p.now (items_view ys)) l.walk l.walk) (sym none) (advance-same l.walk))

-- ---- cells

pub cells-loop-item-init : goal.cells-loop-item-init
cells-loop-item-init t c =
    let scope = scope_view c.args.self.now in
    let ds = items_view c.args.items.now in
    let u = c.args.walk.now in
    let Whole : State → State → Type 0 = WalksCells scope c.args.s.now c.args.p.now ds in
    record {
      leads = subst (λ (n : Term). Leads Whole (WalksCells scope n c.in_ok-link.link ds) u u) (sym c.in_ok-last.ensures)
          (subst (λ (q : List ℕ). Leads Whole (WalksCells scope c.args.s.now q ds) u u) (sym c.in_ok-link.ensures) (leads-same Whole u));
      node = subst (λ (n : Term). ¬ IsLiteral n) (sym c.in_ok-last.ensures) c.requires;
    }

pub cells-loop-item-preserved : goal.cells-loop-item-preserved
cells-loop-item-preserved t c =
    let l = c.loop-item in
    let scope = scope_view c.args.self.now in
    let xs = c.args.items.now in
    let x = c.item-item.result in
    let u = c.args.walk.now in
    let rest = drop (l.item-index + 1) xs in
    let cell = c.in_ok-cell.cell in
    let here : drop l.item-index xs ≡ x ∷ rest = drop_more xs l.item-index x (omega arith) ∙ ap (λ y. y ∷ rest) (sym c.item-item.is) in
    let Whole : State → State → Type 0 = WalksCells scope c.args.s.now c.args.p.now (items_view xs) in
    let begun = leads_cell Whole scope l.last l.link (view x) (items_view rest) cell u l.walk c.cell.new.walk
    (subst (λ (ys : List Value). Leads Whole (WalksCells scope l.last l.link (items_view ys)) u l.walk) here l.invariant.leads) c.in_ok-cell.ensures.cell in
    let first : Advances (WalksValue scope cell rdf_first (view x)) c.cell.new.walk c.value.new.walk =
    subst (λ (q : List ℕ). Advances (WalksValue scope cell q (view x)) c.cell.new.walk c.value.new.walk) c.args.self.now.words.is_first c.in_ok-value.ensures.ok in
    let link : c.in_ok-next.next ≡ rdf_rest = c.in_ok-next.ensures ∙ c.args.self.now.words.is_rest in
    record {
      leads = subst (λ (q : List ℕ). Leads Whole (WalksCells scope cell q (items_view rest)) u c.value.new.walk) (sym link)
          (leads-then Whole (WalksValue scope cell rdf_first (view x)) (WalksCells scope cell rdf_rest (items_view rest)) u c.cell.new.walk c.value.new.walk begun (once-value scope cell rdf_first (view x)) first);
      node = c.in_ok-cell.ensures.literal;
    }

pub cells-returns-in_err-value-clause-out : goal.cells-returns-in_err-value-clause-out
cells-returns-in_err-value-clause-out t c = λ refused.
    let l = c.loop-item in
    let scope = scope_view c.args.self.now in
    let xs = c.args.items.now in
    let x = c.item-item.result in
    let u = c.args.walk.now in
    let rest = drop (l.item-index + 1) xs in
    let cell = c.in_ok-cell.cell in
    let here : drop l.item-index xs ≡ x ∷ rest = drop_more xs l.item-index x (omega arith) ∙ ap (λ y. y ∷ rest) (sym c.item-item.is) in
    let Whole : State → State → Type 0 = WalksCells scope c.args.s.now c.args.p.now (items_view xs) in
    let begun = leads_cell Whole scope l.last l.link (view x) (items_view rest) cell u l.walk c.cell.new.walk
    (subst (λ (ys : List Value). Leads Whole (WalksCells scope l.last l.link (items_view ys)) u l.walk) here l.invariant.leads) c.in_ok-cell.ensures.cell in
    begun.out (refuse-first (WalksValue scope cell rdf_first (view x)) (WalksCells scope cell rdf_rest (items_view rest)) c.cell.new.walk
    (subst (λ (q : List ℕ). Refuses (WalksValue scope cell q (view x)) c.cell.new.walk) c.args.self.now.words.is_first
    (c.in_err-value.ensures.out (handed c.from_residual-in_err-value.result c.in_err-value.field-0.0 _ c.from_residual-in_err-value.ensures.1 refused))))

pub cells-returns-clause-ok : goal.cells-returns-clause-ok
cells-returns-clause-ok t c =
    let l = c.loop-item in
    let none : drop l.item-index c.args.items.now ≡ [] = drop_all l.item-index c.args.items.now (omega arith) in
    on_ok_weaker c.nil.result (λ said. l.invariant.leads.ok c.nil.new.walk (subst (λ (ys : List Value). Advances (WalksCells (scope_view c.args.self.now) l.last l.link (items_view ys)) l.walk c.nil.new.walk) (sym none) said)) c.nil.ensures.ok

pub cells-returns-clause-out : goal.cells-returns-clause-out
cells-returns-clause-out t c = λ refused. absurd (c.nil.ensures.out refused)

-- ---- node_value

pub node_value-returns-clause-ok : goal.node_value-returns-clause-ok
node_value-returns-clause-ok t c =
    let said = subst (λ (n : Term). Advances (Says c.args.s.now c.args.p.now n) c.node.new.walk c.say.new.self) c.in_ok-value.ensures c.in_ok-say.ensures in
    on_ok_weaker c.properties.result (node_value_ok (scope_view c.args.self.now) c.args.s.now c.args.p.now (view c.args.object.now) (members_view c.args.members.now.entries) c.requires.members c.args.walk.now
    c.in_ok-node.node c.node.new.walk c.say.new.self c.properties.new.walk c.in_ok-node.ensures.node said) c.properties.ensures.ok

pub node_value-returns-clause-out : goal.node_value-returns-clause-out
node_value-returns-clause-out t c = λ refused.
    let said = subst (λ (n : Term). Advances (Says c.args.s.now c.args.p.now n) c.node.new.walk c.say.new.self) c.in_ok-value.ensures c.in_ok-say.ensures in
    node_value_out (scope_view c.args.self.now) c.args.s.now c.args.p.now (view c.args.object.now) (members_view c.args.members.now.entries) c.requires.members c.args.walk.now
    c.in_ok-node.node c.node.new.walk c.say.new.self c.in_ok-node.ensures.node said (c.properties.ensures.out refused)

pub node_value-returns-in_err-node-clause-out : goal.node_value-returns-in_err-node-clause-out
node_value-returns-in_err-node-clause-out t c = λ refused.
    node_value_none (scope_view c.args.self.now) c.args.s.now c.args.p.now (view c.args.object.now) (members_view c.args.members.now.entries) c.requires.members c.args.walk.now
    (c.in_err-node.ensures.out (handed c.from_residual.result c.in_err-node.field-0.0 _ c.from_residual.ensures.1 refused))

-- ---- properties and property

pub properties-loop-key-init : goal.properties-loop-key-init
properties-loop-key-init t c = leads-same (WalksMembers (scope_view c.args.self.now) c.args.node.now (members_view c.into_iter-key-iterator.result)) c.args.walk.now

pub properties-loop-key-preserved : goal.properties-loop-key-preserved
properties-loop-key-preserved t c =
    let l = c.loop-key in
    let scope = scope_view c.args.self.now in
    let node = c.args.node.now in
    let e : Entry = (c.in-Some.key.now, c.in-Some.value.now) in
    let left = c.next.new.self in
    let step : l.key-iterator ≡ e ∷ left = c.in-Some.ensures.steps in
    let key : c.as_str.result.now ≡ string_bytes c.in-Some.key.now = search rules in
    let Whole : State → State → Type 0 = WalksMembers scope node (members_view c.into_iter-key-iterator.result) in
    leads-then Whole (WalksMember scope node (string_bytes c.in-Some.key.now) (view c.in-Some.value.now)) (WalksMembers scope node (members_view left)) c.args.walk.now l.walk c.property.new.walk
    (subst (λ (es : List Entry). Leads Whole (WalksMembers scope node (members_view es)) c.args.walk.now l.walk) step l.invariant)
    (once-member scope node (string_bytes c.in-Some.key.now) (view c.in-Some.value.now))
    (subst (λ (k : List ℕ). Advances (WalksMember scope node k (view c.in-Some.value.now)) l.walk c.property.new.walk) key c.in_ok-property.ensures.ok)

pub properties-returns-in_err-property-clause-out : goal.properties-returns-in_err-property-clause-out
properties-returns-in_err-property-clause-out t c = λ refused.
    let l = c.loop-key in
    let scope = scope_view c.args.self.now in
    let node = c.args.node.now in
    let e : Entry = (c.in-Some.key.now, c.in-Some.value.now) in
    let left = c.next.new.self in
    let step : l.key-iterator ≡ e ∷ left = c.in-Some.ensures.steps in
    let key : c.as_str.result.now ≡ string_bytes c.in-Some.key.now = search rules in
    let all : c.into_iter-key-iterator.result ≡ c.args.members.now.entries = search rules in
    subst (λ (es : List Entry). Refuses (WalksMembers scope node (members_view es)) c.args.walk.now) all
    (l.invariant.out (subst (λ (es : List Entry). Refuses (WalksMembers scope node (members_view es)) l.walk) (sym step)
    (refuse-first (WalksMember scope node (string_bytes c.in-Some.key.now) (view c.in-Some.value.now)) (WalksMembers scope node (members_view left)) l.walk
    (subst (λ (k : List ℕ). Refuses (WalksMember scope node k (view c.in-Some.value.now)) l.walk) key
    (c.in_err-property.ensures.out (handed c.from_residual.result c.in_err-property.field-0.0 _ c.from_residual.ensures.1 refused))))))

pub properties-returns-clause-ok : goal.properties-returns-clause-ok
properties-returns-clause-ok t c =
    let l = c.loop-key in
    let scope = scope_view c.args.self.now in
    let node = c.args.node.now in
    let all : c.into_iter-key-iterator.result ≡ c.args.members.now.entries = search rules in
    subst (λ (es : List Entry). Advances (WalksMembers scope node (members_view es)) c.args.walk.now l.walk) all
    (l.invariant.ok l.walk (subst (λ (es : List Entry). Advances (WalksMembers scope node (members_view es)) l.walk l.walk) (sym c.in-None.ensures.steps.0) (advance-same l.walk)))

pub property-returns-then-is_id-clause-ok : goal.property-returns-then-is_id-clause-ok
property-returns-then-is_id-clause-ok t c =
    id_ok (scope_view c.args.self.now) c.args.node.now c.args.key.now (view c.args.value.now) c.args.walk.now (sym c.eq-is_id.ensures ∙ c.if-is_id.true)

pub property-returns-then-is_type-clause-ok : goal.property-returns-then-is_type-clause-ok
property-returns-then-is_type-clause-ok t c =
    on_ok_weaker c.types.result (type_ok (scope_view c.args.self.now) c.args.node.now c.args.key.now (view c.args.value.now) c.args.walk.now c.types.new.walk (sym c.eq-is_id.ensures ∙ c.if-is_id.false) (sym c.eq-is_type.ensures ∙ c.if-is_type.true)) c.types.ensures.ok

pub property-returns-then-is_type-clause-out : goal.property-returns-then-is_type-clause-out
property-returns-then-is_type-clause-out t c = λ refused.
    type_out (scope_view c.args.self.now) c.args.node.now c.args.key.now (view c.args.value.now) c.args.walk.now (sym c.eq-is_id.ensures ∙ c.if-is_id.false) (sym c.eq-is_type.ensures ∙ c.if-is_type.true) (c.types.ensures.out refused)

pub property-returns-in-Ok-clause-ok : goal.property-returns-in-Ok-clause-ok
property-returns-in-Ok-clause-ok t c =
    on_ok_weaker c.values.result (predicate_ok (scope_view c.args.self.now) c.args.node.now c.args.key.now (view c.args.value.now) c.args.walk.now c.values.new.walk c.in-Ok.p
    (sym c.eq-is_id.ensures ∙ c.if-is_id.false) (sym c.eq-is_type.ensures ∙ c.if-is_type.false) c.in-Ok.ensures.text c.in-Ok.ensures.absolute) c.values.ensures.ok

pub property-returns-in-Ok-clause-out : goal.property-returns-in-Ok-clause-out
property-returns-in-Ok-clause-out t c = λ refused.
    predicate_out (scope_view c.args.self.now) c.args.node.now c.args.key.now (view c.args.value.now) c.args.walk.now c.in-Ok.p
    (sym c.eq-is_id.ensures ∙ c.if-is_id.false) (sym c.eq-is_type.ensures ∙ c.if-is_type.false) c.in-Ok.ensures.text (c.values.ensures.out refused)

pub property-returns-in-Err-clause-out : goal.property-returns-in-Err-clause-out
property-returns-in-Err-clause-out t c = λ refused.
    let out = c.refusal_of.ensures cc in
    relative_out (scope_view c.args.self.now) c.args.node.now c.args.key.now (view c.args.value.now) c.args.walk.now
    (sym c.eq-is_id.ensures ∙ c.if-is_id.false) (sym c.eq-is_type.ensures ∙ c.if-is_type.false) (c.in-Err.ensures.bad_reference.0 (ap (λ f. Err f) out))
