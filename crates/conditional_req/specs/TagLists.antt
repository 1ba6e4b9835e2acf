-- The values of If-Match and If-None-Match (RFC 9110, sections 13.1.1 and 13.1.2).
use Rattle.std.specs.Prelude.{ℕ, Bool, List, codes, bytes_eq}
use Rattle.std.specs.List.{list_all, list_any}
use Rattle.field_list.specs.Elements.{elements}
use Rattle.field_list.specs.declared.quoting.Quoting.TheVariants.{Tags}
use Rattle.conditional_req.specs.EntityTags.{entity_tag, is_entity_tag, is_strong_match}
use Rattle.conditional_req.specs.EntityTags.{is_weak_match}
use Rattle.conditional_req.specs.declared.tag.Tag.{Tag}

-- `*`: any representation
abbrev pub is_any : List ℕ → Bool
is_any value = bytes_eq value (codes "*")

-- the tags of a value, each as it is written
abbrev pub tag_elements : List ℕ → List (List ℕ)
tag_elements value = elements Tags value

-- each element is an entity tag; a value for which this is false, and which isn't `*`, is malformed
abbrev pub are_tags : List ℕ → Bool
are_tags value = list_all is_entity_tag (tag_elements value)

abbrev pub has_strong_match : List Tag → List ℕ → Bool
has_strong_match tags value =
    list_any (λ element. is_strong_match tags (entity_tag element)) (tag_elements value)

abbrev pub has_weak_match : List Tag → List ℕ → Bool
has_weak_match tags value =
    list_any (λ element. is_weak_match tags (entity_tag element)) (tag_elements value)
