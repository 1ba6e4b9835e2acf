use Rattle.iri_ref.specs.Reference.{components_of}
use Rattle.iri_ref.proofs.Splits.{has_found}
use Rattle.iri_ref.proofs.components.parse_components.Goals as goal

pub returns : goal.returns
returns c = has_found c.args.text.now
    (components_of record { scheme = c.split_scheme.result.0; authority = c.split_authority.result.0; path = c.split_authority.result.1; query = c.split_at_mark-2.result.1; fragment = c.split_at_mark.result.1 })
    (record {
      rest = c.split_scheme.result.1.now;
      prefix = c.split_at_mark.result.0.now;
      body = c.split_at_mark-2.result.0.now;
      scheme = c.split_scheme.ensures.some;
      no_scheme = c.split_scheme.ensures.none;
      same = c.split_scheme.ensures.rest;
      at_hash = c.split_at_mark.ensures.whole;
      before_hash = c.split_at_mark.ensures.first;
      at_mark = c.split_at_mark-2.ensures.whole;
      before_mark = c.split_at_mark-2.ensures.first;
      parts = c.split_authority.ensures.whole;
      authority = c.split_authority.ensures.authority;
      rooted = c.split_authority.ensures.rooted;
      no_authority = c.split_authority.ensures.none;
    })
