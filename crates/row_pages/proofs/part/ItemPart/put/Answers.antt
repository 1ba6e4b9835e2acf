use Rattle.std.proofs.Common.{rules, ◌≡◌, ◌∷◌, [], ◌∙◌, sym, ap}
use Rattle.std.specs.declared.cmp.Ordering.TheVariants.{Less, Equal, Greater}
use Rattle.rdf_graph.specs.Triple.{bytes_cmp}
use Rattle.row_pages.specs.Items.{Placed}
use Rattle.row_pages.proofs.Ordered.{put_one}
use Rattle.row_pages.proofs.part.ItemPart.put.Goals as goal

pub returns-in_ok-more-in-Less : goal.returns-in_ok-more-in-Less
returns-in_ok-more-in-Less c =
    let part : c.in_ok-part.part ≡ c.args.item.now = search rules in
    let more : c.in_ok-more-in-Less.more ≡ c.args.self.now = search rules in
    let order : bytes_cmp c.args.item.now.row.path c.args.self.now.row.path ≡ Less = search rules in
    ap (λ (i : Placed). i ∷ c.in_ok-more-in-Less.more ∷ []) part ∙ ap (λ (i : Placed). c.args.item.now ∷ i ∷ []) more ∙ sym (put_one c.args.item.now c.args.self.now Less order)

pub returns-in-Equal : goal.returns-in-Equal
returns-in-Equal c =
    let part : c.in_ok-part.part ≡ c.args.item.now = search rules in
    let order : bytes_cmp c.args.item.now.row.path c.args.self.now.row.path ≡ Equal = search rules in
    ap (λ (i : Placed). i ∷ []) part ∙ sym (put_one c.args.item.now c.args.self.now Equal order)

pub returns-in_ok-first-in-Greater : goal.returns-in_ok-first-in-Greater
returns-in_ok-first-in-Greater c =
    let part : c.in_ok-part.part ≡ c.args.item.now = search rules in
    let first : c.in_ok-first-in-Greater.first ≡ c.args.self.now = search rules in
    let order : bytes_cmp c.args.item.now.row.path c.args.self.now.row.path ≡ Greater = search rules in
    ap (λ (i : Placed). i ∷ c.in_ok-part.part ∷ []) first ∙ ap (λ (i : Placed). c.args.self.now ∷ i ∷ []) part ∙ sym (put_one c.args.item.now c.args.self.now Greater order)
