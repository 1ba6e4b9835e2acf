-- Links of a request to the types of containers (RFC 8288; LDP 1.0, section 5.2.3.4).
use Rattle.std.specs.Prelude.{ℕ, Bool, false, ◌&&◌, ◌||◌, List, slice_get, codes, bytes_eq}
use Rattle.std.specs.List.{list_all, list_any}
use Rattle.std.specs.Option.{option_map_or}
use Rattle.httparse.specs.Grammar.{trim_ows}
use Rattle.pod_base.specs.Fields.{is_named}
use Rattle.pod_base.specs.declared.field.Field.{Field}
use Rattle.field_list.specs.Parts.{parts}
use Rattle.field_list.specs.declared.quoting.Quoting.TheVariants.{Strings}
use Rattle.request_fields.specs.LinkParameters.{parameters, is_parameter, relation}
use Rattle.request_fields.specs.LinkValues.{links}
use Rattle.request_fields.specs.RelationTypes.{has_relation_type}

-- a reference to one of the two types, in its brackets
abbrev pub is_container_type : List ℕ → Bool
is_container_type text =
    bytes_eq text (codes "<http://www.w3.org/ns/ldp#BasicContainer>")
    || bytes_eq text (codes "<http://www.w3.org/ns/ldp#Container>")

-- The target of a link is one of them. As these have neither a semicolon nor a quote, it is what is
-- before the first semicolon.
abbrev pub has_container_type : List ℕ → Bool
has_container_type link =
    option_map_or (λ target. is_container_type (trim_ows target))
    (slice_get (parts Strings 59 link) 0) false

-- the first `rel` has the word `type`
abbrev pub is_type_link : List ℕ → Bool
is_type_link link =
    option_map_or (has_relation_type (codes "type")) (relation (parameters link)) false

-- a well-formed link to one of the two types whose `rel` has the word `type`
abbrev pub is_container_link : List ℕ → Bool
is_container_link link =
    has_container_type link
    && (list_all is_parameter (parameters link) && is_type_link link)

-- a link of the value is such a link
abbrev pub has_container_link : List ℕ → Bool
has_container_link value = list_any is_container_link (links value)

-- the field is a Link with such a link
abbrev pub is_link_to_container : Field → Bool
is_link_to_container field = is_named (codes "link") field && has_container_link field.value

-- some field is
abbrev pub links_to_container : List Field → Bool
links_to_container fields = list_any is_link_to_container fields
