-- The response to a GET or HEAD that no refusal holds of: the whole representation, a part of it,
-- several parts, or none of it (RFC 9110, sections 14.2, 15.3.1, 15.3.7 and 15.5.17).
use Rattle.std.specs.Prelude.{ℕ, ◌+◌, Bool, false, if◌then◌else◌, List, [], ◌∷◌, ◌++◌, Option, Some}
use Rattle.std.specs.Prelude.{None, length, slice_range, codes, decimal}
use Rattle.pod_base.specs.declared.field.Field.{Field}
use Rattle.pod_base.specs.declared.method.Method.{Method}
use Rattle.pod_base.specs.declared.method.Method.TheVariants.{Get, Head, Options, Post, Put, Patch}
use Rattle.pod_base.specs.declared.method.Method.TheVariants.{Delete, Other}
use Rattle.pod_base.specs.declared.response.Body.TheVariants.{Whole}
use Rattle.pod_base.specs.declared.response.Response.{Response}
use Rattle.pod_responses.specs.Responses.{shown, partial, unsatisfiable}
use Rattle.pod_responses.specs.declared.read_responses.Representation.{Representation}
use Rattle.range_req.specs.Multipart.{free_boundary, multipart_text}
use Rattle.range_req.specs.RangeSets as sets
use Rattle.range_req.specs.declared.byte_range.Part.{Part}
use Rattle.request_fields.specs.PartFields.{range, allows_ranges}
use Rattle.pod_representations.specs.declared.representation.Shown.{Shown}

-- Parts are requested by GET alone, and of bytes.
abbrev pub takes_ranges : Method → Bool → Bool
takes_ranges Get ranges = ranges
takes_ranges Head ranges = false
takes_ranges Options ranges = false
takes_ranges Post ranges = false
takes_ranges Put ranges = false
takes_ranges Patch ranges = false
takes_ranges Delete ranges = false
takes_ranges Other ranges = false

-- what the value of the Range field selects, where If-Range lets it apply
abbrev pub asked_by : Shown → List Field → Option (List ℕ) → sets.Asked
asked_by shown fields None = sets.whole
asked_by shown fields (Some value) = if allows_ranges shown.tag.0 fields
    then sets.range_set value (length shown.body) else sets.whole

-- the parts of a representation that a request selects
unfoldable pub asked : Shown → Method → List Field → sets.Asked
asked shown method fields = if takes_ranges method shown.ranges
    then asked_by shown fields (range fields) else sets.whole

-- the fields of a response that describe the representation
abbrev pub representation : List ℕ → Shown → List ℕ → Representation
representation ctype shown granted = record {
  ctype = ctype;
  tag = shown.tag;
  modified = shown.modified;
  granted = granted;
  ranges = shown.ranges;
}

-- 200
abbrev pub whole_response : List ℕ → List ℕ → Shown → List ℕ → Response
whole_response base path shows granted =
    shown base path (representation shows.ctype shows granted) (Whole shows.body)

-- the bytes of a part, and `bytes F-L/N`
abbrev pub part_bytes : List ℕ → Part → List ℕ
part_bytes body part = slice_range body part.first (part.last + 1)

unfoldable pub content_range : Part → ℕ → List ℕ
content_range part size = codes "bytes " ++ (decimal part.first ++ (codes "-"
    ++ (decimal part.last ++ (codes "/" ++ decimal size))))

-- 206 of one part
abbrev pub part_response : List ℕ → List ℕ → Shown → List ℕ → Part → Response
part_response base path shows granted part =
    partial base path (representation shows.ctype shows granted)
    (Some (content_range part (length shows.body))) (Whole (part_bytes shows.body part))

-- 206 of several parts, between boundaries
unfoldable pub multipart_type : List ℕ → List ℕ
multipart_type boundary = codes "multipart/byteranges; boundary=" ++ boundary

abbrev pub multipart_response : List ℕ → List ℕ → Shown → List ℕ → List Part → Response
multipart_response base path shows granted parts =
    partial base path
    (representation (multipart_type (free_boundary shows.body)) shows granted) None
    (Whole (multipart_text (free_boundary shows.body) shows.ctype shows.body parts))

abbrev pub parts_response : List ℕ → List ℕ → Shown → List ℕ → List Part → Response
parts_response base path shows granted [] = multipart_response base path shows granted []
parts_response base path shows granted (part ∷ []) =
    part_response base path shows granted part
parts_response base path shows granted (part ∷ next ∷ more) =
    multipart_response base path shows granted (part ∷ next ∷ more)

-- 416 where no selected byte exists
abbrev pub response_for : List ℕ → List ℕ → Shown → List ℕ → sets.Asked → Response
response_for base path shows granted sets.whole = whole_response base path shows granted
response_for base path shows granted sets.unsatisfiable = unsatisfiable (length shows.body)
response_for base path shows granted (sets.parts list) =
    parts_response base path shows granted list

-- The response that shows the resource at the path, with the value of `WAC-Allow`. A HEAD loses the
-- body where the reply is sent.
unfoldable pub read_response : List ℕ → List ℕ → Shown → List ℕ → Method → List Field → Response
read_response base path shows granted method fields =
    response_for base path shows granted (asked shows method fields)
