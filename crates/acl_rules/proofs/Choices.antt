-- What a chain of tests chooses.
use Rattle.std.proofs.Common.{◌≡◌, ℕ, Bool, true, false, cond, ◌&&◌, List, Option, Some, None, Result, Ok, Err, refl, sym, ap, ◌∙◌}
use Rattle.std.specs.Prelude.{IfOk, OnOk}
use Rattle.rdf_graph.specs.declared.term.Term.{Term}
use Rattle.rdf_graph.specs.declared.term.Term.TheVariants.{Iri}
use Rattle.rdf_graph.specs.declared.triple.Triple.{Triple}
use Rattle.acl_rules.specs.Rules.{is_of, from_iri, value_of}

pub chosen : {X : Type 0} (a : Bool) (x rest : X) → a ≡ true → x ≡ cond a x rest
chosen a x rest e = sym (ap (λ (b : Bool). cond b x rest) e)

pub passed : {X : Type 0} (a : Bool) (x y rest : X) → a ≡ false → y ≡ rest → y ≡ cond a x rest
passed a x y rest e f = f ∙ sym (ap (λ (b : Bool). cond b x rest) e)

pub both : (a b r : Bool) → a ≡ true → r ≡ b → r ≡ (a && b)
both a b r e f = f ∙ sym (ap (λ (x : Bool). x && b) e)

pub neither : (a b r : Bool) → a ≡ false → r ≡ false → r ≡ (a && b)
neither a b r e f = f ∙ sym (ap (λ (x : Bool). x && b) e)

pub other_property : {Y : Type 0} (property : List ℕ) (value : List ℕ → Option Y) (t : Triple) → is_of property t ≡ false → None ≡ value_of property value t
other_property property value t e = passed (is_of property t) (from_iri value t.o) None None e refl

pub own_value : {Y : Type 0} (property : List ℕ) (value : List ℕ → Option Y) (t : Triple) (iri : List ℕ) (r : Option Y) → is_of property t ≡ true → t.o ≡ Iri iri → r ≡ value iri → r ≡ value_of property value t
own_value property value t iri r e is f =
    f ∙ sym (ap (from_iri value) is) ∙ sym (ap (λ (b : Bool). cond b (from_iri value t.o) None) e)

pub if_ok_is : {X E : Type 0} (r : Result X E) (x y : X) → x ≡ y → IfOk r (λ z. z ≡ x) → IfOk r (λ z. z ≡ y)
if_ok_is (Ok z) x y e h = h ∙ e
if_ok_is (Err f) x y e h = tt

pub on_ok : {X E : Type 0} (r : Result X E) (P Q : Type 0) → (P → Q) → OnOk r P → OnOk r Q
on_ok (Ok z) P Q f h = f h
on_ok (Err e) P Q f h = tt
