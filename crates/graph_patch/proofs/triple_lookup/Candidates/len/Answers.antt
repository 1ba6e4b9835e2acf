use Rattle.std.proofs.Common.{◌≡◌, ◌∙◌, ap, cond, length, map, sym}
use Rattle.std.proofs.lemmas.List.{length-map}
use Rattle.graph_patch.specs.Lookup.{candidate_triples}
use Rattle.graph_patch.proofs.triple_lookup.Candidates.len.Goals as goal

pub returns-then-is_indexed : goal.returns-then-is_indexed
returns-then-is_indexed c =
    let is : candidate_triples c.args.self ≡ map (λ r. r.now) c.args.self.indexed.now =
    c.is_indexed.ensures ∙ ap (λ b. cond b (map (λ r. r.now) c.args.self.indexed.now) c.args.self.in_order.now) c.if-is_indexed.true in
    sym (ap length is ∙ length-map c.args.self.indexed.now (λ r. r.now))

pub returns-else-is_indexed : goal.returns-else-is_indexed
returns-else-is_indexed c =
    let is : candidate_triples c.args.self ≡ c.args.self.in_order.now =
    c.is_indexed.ensures ∙ ap (λ b. cond b (map (λ r. r.now) c.args.self.indexed.now) c.args.self.in_order.now) c.if-is_indexed.false in
    sym (ap length is)
