-- The segments of a response's text, one after the other, are the text.
use Rattle.std.proofs.Common.{◌≡◌, ◌≢◌, ℕ, ◌+◌, ◌-◌, ◌<◌, ◌≤◌, Bool, true, false, cond, List, [], ◌∷◌, ◌++◌, length, take, drop, min, codes, decimal, refl, sym, ap, ap₂, ◌∙◌, arith, length-append, append_assoc}
use Rattle.std.proofs.lemmas.List.{take-append-drop, length-take-le, length-drop, drop_all, drop_more, drop-drop, take-append-le, drop-append-le}
use Rattle.std.proofs.Math.Seq.{take-append-add, take-append_seam, drop-append_seam}
use Rattle.http.specs.StatusCode.{code_digits}
use Rattle.pod_base.specs.declared.field.Field.{Field}
use Rattle.pod_base.specs.declared.response.Response.{Response}
use Rattle.http_out.specs.declared.segment.Segment.TheVariants.{Version, Name, LineEnd}
use Rattle.http_out.specs.Text.{crlf_line, field_line, phrase_of, status_line, field_lines, closing_line, has_no_length, body_length, length_line, body_text, body_bytes, response_text, without_body, NoBodyWithoutLength}
use Rattle.http_out.specs.Segments.{first_name, after_name, after_line, segment_text, text_after, left_at, from_fields, from_closing, CopiesPrefix}

-- the segments of a field's line
field_pieces : (name value rest_text : List ℕ)
    → field_line name value ++ rest_text ≡ name ++ (codes ": " ++ (value ++ (codes "\r\n" ++ rest_text)))
field_pieces name value rest_text = simp append_assoc

pub first_field : (fields : List Field) (rest_text : List ℕ) → first_name fields ++ after_name fields rest_text ≡ from_fields fields rest_text
first_field [] rest_text = refl
first_field (f ∷ fs) rest_text =
    sym (append_assoc (field_line f.name f.value) (field_lines fs) rest_text ∙ field_pieces f.name f.value (field_lines fs ++ rest_text))

-- after a field's line the other fields follow
pub other_fields : (fields : List Field) (i : ℕ) (rest_text : List ℕ) → i < length fields
    → after_line (drop i fields) rest_text ≡ from_fields (drop (i + 1) fields) rest_text
other_fields [] i rest_text inside = absurd (omega arith)
other_fields (f ∷ fs) i rest_text inside = ap (λ l. after_line l rest_text) (drop_more (f ∷ fs) i f inside)

pub after_line_end : (response : Response) (date : List ℕ) (close : Bool) (i : ℕ) → i < length response.fields
    → segment_text response date close (Name (i + 1)) ++ text_after response date close (Name (i + 1))
    ≡ text_after response date close (LineEnd i)
after_line_end response date close i inside =
    first_field (drop (i + 1) response.fields) (from_closing response close)
    ∙ sym (other_fields response.fields i (from_closing response close) inside)

-- the segments of the length's line, where there is one
length_pieces : (none : Bool) (digits rest_text : List ℕ)
    → cond none [] (field_line (codes "Content-Length") digits) ++ rest_text
    ≡ cond none [] (codes "Content-Length: ") ++ (cond none [] digits ++ (cond none [] (codes "\r\n") ++ rest_text))
length_pieces true digits rest_text = refl
length_pieces false digits rest_text = simp append_assoc

status_pieces : (version code space phrase rest_text : List ℕ)
    → crlf_line (version ++ code ++ space ++ phrase) ++ rest_text ≡ version ++ (code ++ (space ++ (phrase ++ (codes "\r\n" ++ rest_text))))
status_pieces version code space phrase rest_text = simp append_assoc

seven : (a b c d e f g : List ℕ) → a ++ b ++ c ++ d ++ e ++ f ++ g ≡ a ++ (b ++ (c ++ (d ++ (e ++ (f ++ g)))))
seven a b c d e f g = simp append_assoc

pub whole_text : (response : Response) (date : List ℕ) (close : Bool)
    → left_at response date close Version 0 ≡ response_text response date close
whole_text response date close =
    let lengths = length_line response ++ (codes "\r\n" ++ body_text response) in
    let fields = field_lines response.fields ++ (closing_line response.status close ++ lengths) in
    sym (seven (status_line response.status) (field_line (codes "Date") date) (field_lines response.fields)
    (closing_line response.status close) (length_line response) (codes "\r\n") (body_text response)
    ∙ status_pieces (codes "HTTP/1.1 ") (code_digits response.status) (codes " ") (phrase_of response.status)
    (field_line (codes "Date") date ++ fields)
    ∙ ap (λ (t : List ℕ). codes "HTTP/1.1 " ++ (code_digits response.status ++ (codes " " ++ (phrase_of response.status ++ (codes "\r\n" ++ t)))))
    (field_pieces (codes "Date") date fields
    ∙ ap (λ (t : List ℕ). codes "Date: " ++ (date ++ (codes "\r\n" ++ (field_lines response.fields ++ (closing_line response.status close ++ t)))))
    (length_pieces (has_no_length response.status) (decimal (body_length response.body)) (codes "\r\n" ++ body_text response))))

none_of : (none : Bool) (x y : List ℕ) → none ≡ true → cond none [] x ≡ cond none [] y
none_of none x y e = ap (λ t. cond t [] x) e ∙ sym (ap (λ t. cond t [] y) e)

-- the bytes of a status without a length
pub no_body_text : NoBodyWithoutLength
no_body_text response date close none =
    let bare = without_body response in
    let no_length = none_of (has_no_length response.status) (field_line (codes "Content-Length") (decimal (body_length response.body)))
    (field_line (codes "Content-Length") (decimal (body_length bare.body))) none in
    let no_body = none_of (has_no_length response.status) (body_bytes response.body) (body_bytes bare.body) none in
    ap₂ (λ (l b : List ℕ). status_line response.status ++ field_line (codes "Date") date ++ field_lines response.fields
    ++ closing_line response.status close ++ l ++ codes "\r\n" ++ b) no_length no_body

-- ---- bytes that are copied

-- as many bytes as there is room for, of one segment
pub copies_full : (segment rest_text slice new_slice : List ℕ) (offset count : ℕ) → count ≡ min (length segment - offset) (length slice)
    → new_slice ≡ take count (drop offset segment) ++ drop count slice → count ≡ length slice
    → CopiesPrefix (drop offset segment ++ rest_text) (drop (offset + count) segment ++ rest_text) slice new_slice count
copies_full segment rest_text slice new_slice offset count is_count is_new full =
    let rest = length-drop offset segment in
    let fits : count ≤ length (drop offset segment) = omega arith in
    record {
      within = omega (arith, fits, length-append (drop offset segment) rest_text);
      room = omega arith;
      given = is_new ∙ ap (λ (t : List ℕ). t ++ drop count slice) (sym (take-append-le count (drop offset segment) rest_text fits));
      left = ap (λ (t : List ℕ). t ++ rest_text) (sym (drop-drop count offset segment)) ∙ sym (drop-append-le count (drop offset segment) rest_text fits);
    }

-- the rest of a segment
pub copies_rest : (segment rest_text next slice new_slice : List ℕ) (offset count : ℕ) → count ≡ min (length segment - offset) (length slice)
    → new_slice ≡ take count (drop offset segment) ++ drop count slice → count ≢ length slice → next ≡ rest_text
    → CopiesPrefix (drop offset segment ++ rest_text) next slice new_slice count
copies_rest segment rest_text next slice new_slice offset count is_count is_new some same =
    let rest = length-drop offset segment in
    let whole : length (drop offset segment) ≡ count = omega arith in
    record {
      within = omega (arith, whole, length-append (drop offset segment) rest_text);
      room = omega arith;
      given = is_new ∙ ap (λ (t : List ℕ). t ++ drop count slice)
          (sym (take-append-le count (drop offset segment) rest_text (omega (arith, whole))));
      left = same ∙ sym (drop-append_seam (drop offset segment) rest_text) ∙ ap (λ n. drop n (drop offset segment ++ rest_text)) whole;
    }

-- bytes, and then more
pub copies_more : (old middle new slice first_slice rest_slice : List ℕ) (given more : ℕ) → CopiesPrefix old middle slice first_slice given
    → CopiesPrefix middle new (drop given first_slice) rest_slice more
    → CopiesPrefix old new slice (take given first_slice ++ rest_slice) (given + more)
copies_more old middle new slice first_slice rest_slice given more x y =
    let size = length-take-le given old x.within in
    let front : take given first_slice ≡ take given old =
    ap (λ (t : List ℕ). take given t) x.given
    ∙ ap (λ n. take n (take given old ++ drop given slice)) (sym size) ∙ take-append_seam (take given old) (drop given slice) in
    let tail : drop given first_slice ≡ drop given slice =
    ap (λ (t : List ℕ). drop given t) x.given
    ∙ ap (λ n. drop n (take given old ++ drop given slice)) (sym size) ∙ drop-append_seam (take given old) (drop given slice) in
    let sum : take (given + more) old ≡ take given old ++ take more (drop given old) =
    ap (λ (t : List ℕ). take (given + more) t) (sym (take-append-drop given old))
    ∙ ap (λ n. take (n + more) (take given old ++ drop given old)) (sym size) ∙ take-append-add (take given old) (drop given old) more in
    record {
      within = omega (arith, x.within, y.within, ap length x.left, length-drop given old);
      room = omega (arith, x.room, y.room, ap length tail, length-drop given slice);
      given = ap (λ (t : List ℕ). t ++ rest_slice) front
          ∙ ap (λ (t : List ℕ). take given old ++ t) (y.given ∙ ap (λ (t : List ℕ). take more t ++ drop more (drop given first_slice)) x.left
          ∙ ap (λ (t : List ℕ). take more (drop given old) ++ drop more t) tail)
          ∙ sym (append_assoc (take given old) (take more (drop given old)) (drop more (drop given slice)))
          ∙ ap (λ (t : List ℕ). t ++ drop more (drop given slice)) (sym sum)
          ∙ ap (λ (t : List ℕ). take (given + more) old ++ t) (drop-drop more given slice);
      left = y.left ∙ ap (λ (t : List ℕ). drop more t) x.left ∙ drop-drop more given old;
    }

pub copies_nothing : (old slice : List ℕ) → CopiesPrefix old old slice slice 0
copies_nothing old slice = record { within = omega arith; room = omega arith; given = refl; left = refl }

-- the bytes of a piece, and those that are left after it
pub gathers : (old new slice_old slice_new : List ℕ) (count : ℕ) → CopiesPrefix old new slice_old slice_new count → take count slice_new ++ new ≡ old
gathers old new slice_old slice_new count x =
    let size = length-take-le count old x.within in
    let front : take count slice_new ≡ take count old =
    ap (λ (t : List ℕ). take count t) x.given
    ∙ ap (λ n. take n (take count old ++ drop count slice_old)) (sym size) ∙ take-append_seam (take count old) (drop count slice_old) in
    ap₂ (λ (a b : List ℕ). a ++ b) front x.left ∙ take-append-drop count old

-- a slice with room that gets no bytes gets the last
pub none_left : (old new slice_old slice_new : List ℕ) (count : ℕ) → CopiesPrefix old new slice_old slice_new count → count ≡ min (length old) (length slice_old)
    → 0 < length slice_old → count ≡ 0 → new ≡ []
none_left old new slice_old slice_new count x is some zero =
    x.left ∙ drop_all count old (omega (arith, is, some, zero))

-- the slice keeps its length
pub copies_length : (old new slice_old slice_new : List ℕ) (count : ℕ) → CopiesPrefix old new slice_old slice_new count → length slice_new ≡ length slice_old
copies_length old new slice_old slice_new count x =
    omega (arith, x.within, x.room, ap length x.given, length-append (take count old) (drop count slice_old), length-take-le count old x.within, length-drop count slice_old)
