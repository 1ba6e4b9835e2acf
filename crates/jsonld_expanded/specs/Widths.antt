-- How long the texts of values and of their parts are.
use Rattle.std.specs.Prelude.{ℕ, ◌+◌, Bool, ◌||◌, ◌==◌, List, [], ◌∷◌, length}
use Rattle.std.specs.List.{sum_by}
use Rattle.json.specs.Print.{quoted}
use Rattle.rdf_graph.specs.declared.triple.Triple.{Triple}
use Rattle.serde_json.specs.Data.{Data}
use Rattle.serde_json.specs.Written.{compact_text}
use Rattle.jsonld_expanded.specs.Document.{key_of, node_object, object_of}

-- `"`, `\\`, BS, TAB, LF, FF and CR, whose escapes have two bytes
abbrev pub has_letter : ℕ → Bool
has_letter b =
    b == 34 || (b == 92 || (b == 8 || (b == 9 || (b == 10 || (b == 12 || b == 13)))))

unfoldable pub width : Data → ℕ
width d = length (compact_text d)

-- a string with its quotes and escapes
unfoldable pub quoted_width : List ℕ → ℕ
quoted_width text = length (quoted text)

-- objects, each with a comma
unfoldable pub objects_width : List Triple → ℕ
objects_width ts = sum_by (λ t. 1 + width (object_of t)) ts

-- the key of the triples with a comma, its colon and a bracket
abbrev pub key_width : List Triple → ℕ
key_width [] = 0
key_width (t ∷ ts) = 3 + quoted_width (key_of t)

unfoldable pub keys_width : List (List Triple) → ℕ
keys_width runs = sum_by key_width runs

-- node objects, each with a comma
unfoldable pub nodes_width : List (List Triple) → ℕ
nodes_width runs = sum_by (λ run. 1 + width (node_object run)) runs
