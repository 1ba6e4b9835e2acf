-- The components of a text as slices of it.
use Rattle.std.specs.Prelude.{option_copied}
use Rattle.iri_ref.specs.declared.components.Reference.{Reference}
use Rattle.iri_ref.specs.Components.{Components}

abbrev pub components_of : Reference → Components
components_of r = record {
  scheme = option_copied r.scheme;
  authority = option_copied r.authority;
  path = r.path.now;
  query = option_copied r.query;
  fragment = option_copied r.fragment;
}
