use Rattle.std.proofs.Common.{◌+◌, IfSome, IfNone, subst, sym}
use Rattle.http_payload.specs.declared.body_stage.Stage.TheVariants.{Line, ChunkEnd, Trailers, Trailer, TrailerEnd, LastEnd}
use Rattle.http_payload.specs.PayloadState.{TakesBytes}
use Rattle.http_payload.specs.Steps.{TakesByte}
use Rattle.http_payload.proofs.ByteSteps.{takes_last_cr, takes_in_line, takes_in_trailer, takes_trailer_cr, takes_chunk_lf, RefusesByte, never_trailers, never_trailer, taken_if, refused_if, taken_in}
use Rattle.http_payload.proofs.body_stage.after_byte.Goals as goal

pub returns-in-ChunkEnd-clause-some : goal.returns-in-ChunkEnd-clause-some
returns-in-ChunkEnd-clause-some c =
    subst (λ s. IfSome c.expect_byte-in-ChunkEnd.result (TakesByte s c.args.byte)) (sym c.in-ChunkEnd.is)
    (taken_if ChunkEnd Line c.args.byte 10 takes_chunk_lf c.expect_byte-in-ChunkEnd.result c.expect_byte-in-ChunkEnd.ensures.some)

pub returns-then-byte-eq13-clause-some : goal.returns-then-byte-eq13-clause-some
returns-then-byte-eq13-clause-some c =
    let fits = subst TakesBytes c.in-Trailers.is c.requires in
    subst (λ s. TakesByte s c.args.byte LastEnd) (sym c.in-Trailers.is)
    (subst (λ b. TakesByte (Trailers c.in-Trailers.used) b LastEnd) (sym c.if-byte-eq13.true) (takes_last_cr c.in-Trailers.used fits))

pub returns-else-byte-eq13-clause-some : goal.returns-else-byte-eq13-clause-some
returns-else-byte-eq13-clause-some c =
    let used = c.in-Trailers.used in
    subst (λ s. IfSome c.in_trailer.result (TakesByte s c.args.byte)) (sym c.in-Trailers.is)
    (taken_in (Trailers used) c.args.byte used c.if-byte-eq13.false
    (λ room lf. takes_in_line used c.args.byte room c.if-byte-eq13.false lf) c.in_trailer.result c.in_trailer.ensures.some)

pub returns-else-byte-eq13-clause-none : goal.returns-else-byte-eq13-clause-none
returns-else-byte-eq13-clause-none c =
    let used = c.in-Trailers.used in
    subst (λ s. IfNone c.in_trailer.result (RefusesByte s c.args.byte)) (sym c.in-Trailers.is)
    (refused_if (Trailers used) c.args.byte (λ full. never_trailers used c.args.byte c.if-byte-eq13.false full)
    c.in_trailer.result c.in_trailer.ensures.none)

pub returns-then-byte-eq13-2-clause-some : goal.returns-then-byte-eq13-2-clause-some
returns-then-byte-eq13-2-clause-some c =
    let used = c.in-Trailer.used in
    subst (λ s. TakesByte s c.args.byte (TrailerEnd (used + 1))) (sym c.in-Trailer.is)
    (subst (λ b. TakesByte (Trailer used) b (TrailerEnd (used + 1))) (sym c.if-byte-eq13-2.true) (takes_trailer_cr used))

pub returns-else-byte-eq13-2-clause-some : goal.returns-else-byte-eq13-2-clause-some
returns-else-byte-eq13-2-clause-some c =
    let used = c.in-Trailer.used in
    let taken = c.in_trailer-else-byte-eq13-2 in
    subst (λ s. IfSome taken.result (TakesByte s c.args.byte)) (sym c.in-Trailer.is)
    (taken_in (Trailer used) c.args.byte used c.if-byte-eq13-2.false
    (λ room lf. takes_in_trailer used c.args.byte room c.if-byte-eq13-2.false lf) taken.result taken.ensures.some)

pub returns-else-byte-eq13-2-clause-none : goal.returns-else-byte-eq13-2-clause-none
returns-else-byte-eq13-2-clause-none c =
    let used = c.in-Trailer.used in
    let taken = c.in_trailer-else-byte-eq13-2 in
    subst (λ s. IfNone taken.result (RefusesByte s c.args.byte)) (sym c.in-Trailer.is)
    (refused_if (Trailer used) c.args.byte (λ full. never_trailer used c.args.byte c.if-byte-eq13-2.false full)
    taken.result taken.ensures.none)
