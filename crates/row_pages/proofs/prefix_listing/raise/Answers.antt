use Rattle.std.proofs.Common.{rules, ◌≡◌, ◌++◌, ◌∷◌, ◌∙◌, [], ℕ, length, drop, sym, ap, inl, inr, refl}
use Rattle.iri_ref.specs.Characters.{slash}
use Rattle.row_pages.specs.Delimited.{first_part}
use Rattle.row_pages.proofs.Seeking.{next_slash}
use Rattle.row_pages.proofs.prefix_listing.raise.Goals as goal

pub returns-in_ok-put_pieces-in-Some : goal.returns-in_ok-put_pieces-in-Some
returns-in_ok-put_pieces-in-Some c =
    let part : first_part (drop (length c.args.prefix.now) c.args.path.now) ≡ c.in-Some.name.now ++ slash ∷ [] =
    ap first_part (sym (c.suffix.ensures ∙ ap (λ (n : ℕ). drop n c.args.path.now) (search rules))) ∙ sym c.first_part.ensures ∙ c.in-Some.ensures in
    inr (next_slash c.args.prefix.now c.args.path.now c.in-Some.name.now c.put_pieces.new.text.items c.requires part c.in_ok-put_pieces-in-Some.ensures)

pub returns-in-None : goal.returns-in-None
returns-in-None c = inl refl
