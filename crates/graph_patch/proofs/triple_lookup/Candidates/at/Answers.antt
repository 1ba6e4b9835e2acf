use Rattle.std.proofs.Common.{◌≡◌, ◌∙◌, ◌<◌, Some, ap, cond, length, map, subst, sym}
use Rattle.std.specs.Prelude.{slice_get}
use Rattle.std.proofs.lemmas.List.{length-map}
use Rattle.graph_patch.specs.Lookup.{candidate_triples}
use Rattle.graph_patch.proofs.triple_lookup.Candidates.at.Goals as goal

pub indexed_at-requires : goal.indexed_at-requires
indexed_at-requires c =
    let is : candidate_triples c.args.self ≡ map (λ r. r.now) c.args.self.indexed.now =
    c.is_indexed.ensures ∙ ap (λ b. cond b (map (λ r. r.now) c.args.self.indexed.now) c.args.self.in_order.now) c.if-is_indexed.true in
    subst (λ n. c.args.i < n) (ap length is ∙ length-map c.args.self.indexed.now (λ r. r.now)) c.requires

pub in_order_at-requires : goal.in_order_at-requires
in_order_at-requires c =
    let is : candidate_triples c.args.self ≡ c.args.self.in_order.now =
    c.is_indexed.ensures ∙ ap (λ b. cond b (map (λ r. r.now) c.args.self.indexed.now) c.args.self.in_order.now) c.if-is_indexed.false in
    subst (λ n. c.args.i < n) (ap length is) c.requires

pub returns-then-is_indexed : goal.returns-then-is_indexed
returns-then-is_indexed c =
    let is : candidate_triples c.args.self ≡ map (λ r. r.now) c.args.self.indexed.now =
    c.is_indexed.ensures ∙ ap (λ b. cond b (map (λ r. r.now) c.args.self.indexed.now) c.args.self.in_order.now) c.if-is_indexed.true in
    subst (λ zs. slice_get zs c.args.i ≡ Some c.indexed_at.result.now) (sym is) c.indexed_at.ensures

pub returns-else-is_indexed : goal.returns-else-is_indexed
returns-else-is_indexed c =
    let is : candidate_triples c.args.self ≡ c.args.self.in_order.now =
    c.is_indexed.ensures ∙ ap (λ b. cond b (map (λ r. r.now) c.args.self.indexed.now) c.args.self.in_order.now) c.if-is_indexed.false in
    subst (λ zs. slice_get zs c.args.i ≡ Some c.in_order_at.result.now) (sym is) c.in_order_at.ensures
