-- The fields of each response are lines.
use Rattle.std.proofs.Common.{ℕ, Bool, true, false, cond, ◌||◌, List, [], ◌∷◌, ◌++◌, codes, Option, Some, None, refl}
use Rattle.std.specs.List.{list_all}
use Rattle.http_out.specs.Text.{stays_in_line, is_field_line, AreFieldLines}
use Rattle.iri_ref.proofs.Texts.{and_left, and_right, and_both}
use Rattle.pod_base.specs.declared.field.Field.{Field}
use Rattle.pod_base.specs.declared.method.Method.{Method}
use Rattle.pod_base.specs.declared.method.Method.TheVariants.{Get, Head, Options, Post, Put, Patch, Delete, Other}
use Rattle.http_out.specs.Calendar.{date_text}
use Rattle.pod_path.specs.Hierarchy.{is_root, is_container, is_acl, is_meta, is_auxiliary, acl_of, meta_of, subject_of, uri_of, without_end}
use Rattle.pod_responses.specs.Allow.{taken_names, allow_text, put_types, is_removable}
use Rattle.pod_responses.specs.Links.{field, link, type_link, container_links, storage_links, type_links, link_to, described_by, list_of, about_links}
use Rattle.pod_responses.specs.Responses.{allow, accept_patch, accept_post, accept_put, vary, quoted, validators, accept_ranges, resource_fields, content_range, choices, shown_fields, taken_types}
use Rattle.pod_responses.specs.declared.read_responses.Representation.{Representation}
use Rattle.reply_laws.proofs.Lines.{Stays, both, one_of, take_stays, date_stays, uri_stays}

pub joined : (a b : List Field) → AreFieldLines a → AreFieldLines b → AreFieldLines (a ++ b)
joined [] b h k = k
joined (f ∷ fs) b h k = and_both (is_field_line f) _ (and_left (is_field_line f) _ h) (joined fs b (and_right (is_field_line f) _ h) k)

pub first : (name value : List ℕ) (fields : List Field) → Stays name → Stays value → AreFieldLines fields → AreFieldLines (field name value ∷ fields)
first name value fields h k more = and_both (is_field_line (field name value)) _ (and_both (list_all stays_in_line name) (list_all stays_in_line value) h k) more

pub fields_if : (b : Bool) (x y : List Field) → AreFieldLines x → AreFieldLines y → AreFieldLines (cond b x y)
fields_if true x y h k = h
fields_if false x y h k = k

-- ---- methods and types

names_stay : (container removable : Bool) → Stays (taken_names container removable)
unfolding taken_names
names_stay true true = refl
names_stay true false = refl
names_stay false true = refl
names_stay false false = refl

pub allowed_stay : (path : List ℕ) → Stays (allow_text path)
unfolding allow_text
allowed_stay path = names_stay (is_container path) (is_removable path)

pub types_stay : (path : List ℕ) → Stays (put_types path)
unfolding put_types
types_stay path = one_of (is_container path || is_auxiliary path) _ _ refl refl

pub posts_are_lines : (container : Bool) → AreFieldLines (accept_post container)
unfolding accept_post
posts_are_lines true = refl
posts_are_lines false = refl

pub puts_are_lines : (path : List ℕ) → AreFieldLines (accept_put (put_types path) ∷ [])
puts_are_lines path = first (codes "Accept-Put") (put_types path) [] refl (types_stay path) refl

pub options_are_lines : (path : List ℕ) → AreFieldLines (allow (allow_text path) ∷ accept_patch ∷ (accept_post (is_container path) ++ accept_put (put_types path) ∷ []))
options_are_lines path =
    let puts = accept_put (put_types path) ∷ [] in
    first (codes "Allow") (allow_text path) (accept_patch ∷ (accept_post (is_container path) ++ puts)) refl (allowed_stay path)
    (first (codes "Accept-Patch") (codes "text/n3, application/sparql-update") (accept_post (is_container path) ++ puts) refl refl
    (joined (accept_post (is_container path)) puts (posts_are_lines (is_container path)) (puts_are_lines path)))

pub taken_are_lines : (method : Method) (path : List ℕ) → AreFieldLines (taken_types method path ∷ [])
taken_are_lines Get path = puts_are_lines path
taken_are_lines Head path = puts_are_lines path
taken_are_lines Options path = puts_are_lines path
taken_are_lines Post path = puts_are_lines path
taken_are_lines Put path = puts_are_lines path
taken_are_lines Patch path = refl
taken_are_lines Delete path = puts_are_lines path
taken_are_lines Other path = puts_are_lines path

-- ---- links

end_stays : (n : ℕ) (path : List ℕ) → Stays path → Stays (without_end n path)
end_stays n path h = take_stays _ path h

abbrev OptionStays : Option (List ℕ) → Type 0
OptionStays None = Unit {0}
OptionStays (Some text) = Stays text

option_if : (b : Bool) (x y : Option (List ℕ)) → OptionStays x → OptionStays y → OptionStays (cond b x y)
option_if true x y h k = h
option_if false x y h k = k

acl_stays : (path : List ℕ) → Stays path → OptionStays (acl_of path)
acl_stays path h = option_if (is_auxiliary path) None (Some (path ++ codes ".acl")) tt (both path (codes ".acl") h refl)

meta_stays : (path : List ℕ) → Stays path → OptionStays (meta_of path)
meta_stays path h = option_if (is_auxiliary path) None (Some (path ++ codes ".meta")) tt (both path (codes ".meta") h refl)

subject_stays : (path : List ℕ) → Stays path → OptionStays (subject_of path)
subject_stays path h =
    option_if (is_acl path) (Some (without_end 4 path)) (cond (is_meta path) (Some (without_end 5 path)) None) (end_stays 4 path h)
    (option_if (is_meta path) (Some (without_end 5 path)) None (end_stays 5 path h) tt)

described_stays : (path : List ℕ) (subject : Option (List ℕ)) → Stays path → OptionStays subject → Stays (described_by path subject)
described_stays path None h k = h
described_stays path (Some subject) h k = k

list_stays : (path : List ℕ) → Stays path → OptionStays (list_of path)
unfolding list_of
list_stays path h = option_if (is_acl path) None (acl_of (described_by path (subject_of path))) tt
    (acl_stays (described_by path (subject_of path)) (described_stays path (subject_of path) h (subject_stays path h)))

link_is_line : (target relation : List ℕ) (fields : List Field) → Stays target → Stays relation → AreFieldLines fields → AreFieldLines (link target relation ∷ fields)
link_is_line target relation fields h k more =
    let end = relation ++ codes "\"" in
    let after = codes ">; rel=\"" ++ end in
    first (codes "Link") (codes "<" ++ (target ++ after)) fields refl
    (both (codes "<") (target ++ after) refl (both target after h (both (codes ">; rel=\"") end refl (both relation (codes "\"") k refl)))) more

link_to_lines : (base relation : List ℕ) (path : Option (List ℕ)) → Stays base → Stays relation → OptionStays path → AreFieldLines (link_to base relation path)
unfolding link_to
link_to_lines base relation None h k p = refl
link_to_lines base relation (Some path) h k p = link_is_line (uri_of base path) relation [] (uri_stays base path h p) k refl

pub about_are_lines : (base path : List ℕ) → Stays base → Stays path → AreFieldLines (about_links base path)
unfolding about_links
about_are_lines base path h k =
    joined (link_to base (codes "acl") (list_of path)) (link_to base (codes "describedby") (meta_of path)) (link_to_lines base (codes "acl") (list_of path) h refl (list_stays path k))
    (link_to_lines base (codes "describedby") (meta_of path) h refl (meta_stays path k))

container_lines : (container : Bool) → AreFieldLines (container_links container)
unfolding container_links
container_lines true = refl
container_lines false = refl

storage_lines : (is_storage : Bool) → AreFieldLines (storage_links is_storage)
unfolding storage_links
storage_lines true = refl
storage_lines false = refl

type_lines : (path : List ℕ) → AreFieldLines (type_links path)
unfolding type_links
type_lines path = joined (type_link (codes "http://www.w3.org/ns/ldp#Resource") ∷ []) (container_links (is_container path) ++ storage_links (is_root path)) refl
    (joined (container_links (is_container path)) (storage_links (is_root path)) (container_lines (is_container path)) (storage_lines (is_root path)))

-- ---- representations

quoted_stays : (tag : List ℕ) → Stays tag → Stays (quoted tag)
unfolding quoted
quoted_stays tag h = both (codes "\"") (tag ++ codes "\"") refl (both tag (codes "\"") h refl)

pub validators_are_lines : (tag : List ℕ) (modified : ℕ) → Stays tag → AreFieldLines (validators tag modified)
unfolding validators
validators_are_lines tag modified h =
    first (codes "ETag") (quoted tag) (field (codes "Last-Modified") (date_text modified) ∷ []) refl (quoted_stays tag h) (first (codes "Last-Modified") (date_text modified) [] refl (date_stays modified) refl)

resource_lines : (base path granted : List ℕ) → Stays base → Stays path → Stays granted → AreFieldLines (resource_fields base path granted)
unfolding resource_fields
resource_lines base path granted h k g =
    let last = allow (allow_text path) ∷ accept_patch ∷ [] in
    let told = field (codes "WAC-Allow") granted ∷ last in
    joined (type_links path) (about_links base path ++ told) (type_lines path) (joined (about_links base path) told (about_are_lines base path h k)
    (first (codes "WAC-Allow") granted last refl g (first (codes "Allow") (allow_text path) (accept_patch ∷ []) refl (allowed_stay path) refl)))

ranges_lines : (ranges : Bool) → AreFieldLines (accept_ranges ranges)
unfolding accept_ranges
ranges_lines true = refl
ranges_lines false = refl

choices_lines : (path : List ℕ) (ranges : Bool) → AreFieldLines (choices path ranges)
unfolding choices
choices_lines path ranges =
    joined (accept_post (is_container path)) (accept_put (put_types path) ∷ vary ∷ accept_ranges ranges) (posts_are_lines (is_container path))
    (first (codes "Accept-Put") (put_types path) (vary ∷ accept_ranges ranges) refl (types_stay path)
    (joined (vary ∷ []) (accept_ranges ranges) refl (ranges_lines ranges)))

abbrev pub RangeStays : Option (List ℕ) → Type 0
RangeStays None = Unit {0}
RangeStays (Some range) = Stays range

range_lines : (range : Option (List ℕ)) → RangeStays range → AreFieldLines (content_range range)
unfolding content_range
range_lines None h = refl
range_lines (Some range) h = first (codes "Content-Range") range [] refl h refl

-- what is shown: a type, a tag, granted modes and a range that stay in their lines
pub shown_are_lines : (base path : List ℕ) (r : Representation) (range : Option (List ℕ)) → Stays base → Stays path
    → Stays r.ctype → Stays r.tag.0 → Stays r.granted → RangeStays range → AreFieldLines (shown_fields base path r range)
shown_are_lines base path r range h k c t g n =
    let third = resource_fields base path r.granted ++ choices path r.ranges in
    let second = validators r.tag.0 r.modified.0 ++ third in
    first (codes "Content-Type") r.ctype (content_range range ++ second) refl c (joined (content_range range) second (range_lines range n)
    (joined (validators r.tag.0 r.modified.0) third (validators_are_lines r.tag.0 r.modified.0 t)
    (joined (resource_fields base path r.granted) (choices path r.ranges) (resource_lines base path r.granted h k g) (choices_lines path r.ranges))))
