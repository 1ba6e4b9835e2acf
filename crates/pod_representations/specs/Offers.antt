-- The types in which a row is offered, and the choice among them by Accept (RFC 9110, section
-- 12.5.1).
use Rattle.std.specs.Prelude.{ℕ, ◌==◌, if◌then◌else◌, List, [], ◌∷◌, Option, Some, codes}
use Rattle.std.specs.Option.{option_map}
use Rattle.content_nego.specs.Choices.{choice}
use Rattle.field_list.specs.Joined.{joined_value}
use Rattle.pod_base.specs.declared.field.Field.{Field}
use Rattle.pod_command.specs.declared.row.Content.{Content}
use Rattle.pod_command.specs.declared.row.Content.TheVariants as contents
use Rattle.pod_command.specs.declared.row.Row.{Row}
use Rattle.pod_representations.specs.declared.row_offers.Media.{Media}
use Rattle.pod_representations.specs.declared.row_offers.Media.TheVariants.{Turtle, JsonLd, Stored}

abbrev pub turtle_type : List ℕ
turtle_type = codes "text/turtle"

abbrev pub json_ld_type : List ℕ
json_ld_type = codes "application/ld+json"

-- a graph in two types, Turtle first, and bytes as they are stored
abbrev pub offers_of : Content → List Media
offers_of (contents.Graph triples) = Turtle ∷ JsonLd ∷ []
offers_of (contents.Bytes ctype bytes) = Stored ∷ []

abbrev pub offers : Row → List Media
offers row = offers_of row.content

-- the offer of a graph with that index
abbrev pub graph_offer : ℕ → Media
graph_offer index = if index == 0 then Turtle else JsonLd

-- The choice by the value of Accept, if there is one. Bytes have one type, whatever is accepted.
abbrev pub chosen_by : Content → Option (List ℕ) → Option Media
chosen_by (contents.Graph triples) accept =
    option_map graph_offer (choice accept turtle_type json_ld_type)
chosen_by (contents.Bytes ctype bytes) accept = Some Stored

-- the values of all Accept fields, joined by commas
abbrev pub accepted : List Field → Option (List ℕ)
accepted fields = joined_value (codes "accept") fields

-- The offer that the fields choose; none where no type of a graph is acceptable.
unfoldable pub chosen : Row → List Field → Option Media
chosen row fields = chosen_by row.content (accepted fields)
