use Rattle.std.proofs.Common.{◌≡◌, ℕ, List, Ok, Err, length, take, refl, sym, ap, subst, ◌∙◌}
use Rattle.std.proofs.lemmas.List.{length-take-le}
use Rattle.http_head.specs.declared.head_ends.HeadEnd.TheVariants.{Whole}
use Rattle.http_head.specs.declared.request_head.RequestHead.{RequestHead}
use Rattle.http_head.specs.declared.body_form.BodyForm.{BodyForm}
use Rattle.http_head.specs.declared.body_framing.FramingFault.{FramingFault}
use Rattle.http_head.specs.HeadEnds.{head_end}
use Rattle.http_head.specs.Heads.{HasTooManyLines, IsMalformedHead, LacksHost, ParsesTo}
use Rattle.http_head.specs.BodyFraming.{framing}
use Rattle.http_conn.specs.Messages.{HasHead, too_many, malformed, host}
use Rattle.http_head.proofs.HeadEndLaws.{whole_prefix}
use Rattle.http_conn.proofs.Parses.{framed_once, head_not_bad, same_length}
use Rattle.http_conn.proofs.single_request.framed_head.Goals as goal

-- the bytes of the head are a head by themselves
pub read_head-requires : goal.read_head-requires
read_head-requires c =
    let bytes : List ℕ = c.args.bytes.now in
    let count : c.args.len ≡ length (take c.args.len bytes) = sym (length-take-le c.args.len bytes c.requires.within) in
    ap head_end c.prefix.ensures ∙ whole_prefix bytes c.args.len c.requires.ends ∙ ap Whole (count ∙ ap length (sym c.prefix.ensures))

not_framed : (text : List ℕ) (len n : ℕ) (a b : RequestHead) (form : BodyForm) (fault : FramingFault) → head_end text ≡ Whole len → ParsesTo (take len text) a
    → framing a.minor a.fields ≡ Err fault → HasHead text n b form → ⊥
not_framed text len n a b form fault e says framed h =
    let same = same_length text n len h.ends e in
    let other : Err fault ≡ Ok form = framed_once (take len text) a b (Err fault) (Ok form) says (subst (λ i. ParsesTo (take i text) b) same h.says) framed h.framed in
    cc

-- its body has no form
pub returns-in-Err-clause-none : goal.returns-in-Err-clause-none
returns-in-Err-clause-none c n head form h =
    not_framed c.args.bytes.now c.args.len n c.in-Ok.head head form c.in-Err._fault c.requires.ends
    (subst (λ t. ParsesTo t c.in-Ok.head) c.prefix.ensures c.in-Ok.ensures.ok) (sym c.in-Err.ensures) h

-- it is no head
pub returns-in-Err-TooMany-clause-none : goal.returns-in-Err-TooMany-clause-none
returns-in-Err-TooMany-clause-none c n head form h =
    head_not_bad c.args.bytes.now n head form 431 h
    (too_many c.args.len c.requires.ends (subst HasTooManyLines c.prefix.ensures ((rw c.in-Err-TooMany.field-0-is at c.in-Err-TooMany.ensures.too_many) refl)))

pub returns-in-Err-Malformed-clause-none : goal.returns-in-Err-Malformed-clause-none
returns-in-Err-Malformed-clause-none c n head form h =
    head_not_bad c.args.bytes.now n head form 400 h
    (malformed c.args.len c.requires.ends (subst IsMalformedHead c.prefix.ensures ((rw c.in-Err-Malformed.field-0-is at c.in-Err-Malformed.ensures.malformed) refl)))

pub returns-in-Err-Host-clause-none : goal.returns-in-Err-Host-clause-none
returns-in-Err-Host-clause-none c n head form h =
    head_not_bad c.args.bytes.now n head form 400 h
    (host c.args.len c.requires.ends (subst LacksHost c.prefix.ensures ((rw c.in-Err-Host.field-0-is at c.in-Err-Host.ensures.host) refl)))
