use Rattle.std.proofs.Common.{◌≡◌, ◌+◌, ◌-◌, ◌++◌, length, Err, arith, subst, length-append}
use Rattle.std.proofs.KnownBytes.{Consumes-trans}
use Rattle.std.proofs.lemmas.Result.{err_from_is_err_and}
use Rattle.abuf_io.proofs.Parts.{Consumes-grown, StopsAfter-more}
use Rattle.abuf_io.proofs.whole.read_all.Goals as goal

pub returns-in_err-read_some-clause-taken : goal.returns-in_err-read_some-clause-taken
returns-in_err-read_some-clause-taken g c =
    let bytes = c.reading.bytes.items in
    let more = c.in_err-read_some.ensures.taken in
    let p = err_from_is_err_and c.from_residual.result c.from_residual.ensures.1 in
    let e = c.in_err-read_some.field-0.0 in
    let is : c.from_residual.result ≡ Err e = subst (λ x. c.from_residual.result ≡ Err x) p.2 p.1 in
    let within : length bytes + (c.args.limit - c.len-in-reading.result) ≡ c.args.limit = omega (arith, c.len-in-reading.ensures, c.reading-test.true) in
    (bytes ++ more.0, Consumes-trans _ _ _ bytes more.0 c.reading.invariant.2 more.1, rw (is, length-append bytes more.0) (StopsAfter-more e c.args.limit (c.args.limit - c.len-in-reading.result) (length bytes) (length more.0) within more.2))

pub reading-preserved : goal.reading-preserved
reading-preserved g c =
    let read = c.in_ok-read_some.ensures in
    (omega arith, omega (arith, c.in_ok-read_some.ensures.within, c.in_ok-read_some.ensures.count, c.len-in-reading.ensures, c.reading-test.true), Consumes-grown _ _ _ c.reading.bytes.items c.read_some.new.bytes.items read.kept c.reading.invariant.2 read.moved)
