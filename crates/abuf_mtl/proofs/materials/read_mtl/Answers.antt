use Rattle.std.proofs.Common.{sym, subst}
use Rattle.std.proofs.lemmas.Result.{err_from_is_err_and}
use Rattle.abuf_mtl.specs.StandsFor.{StandsFor, StandForSome}
use Rattle.abuf_mtl.proofs.Standing.{fault-first, no-fault, stands-more, some-more}
use Rattle.abuf_mtl.proofs.materials.read_mtl.Goals as goal

pub returns-in_err-read_lines-clause-fault : goal.returns-in_err-read_lines-clause-fault
returns-in_err-read_lines-clause-fault c = λ libraries stands.
    let old = c.in_ok-reader.reader in
    let p = err_from_is_err_and c.from_residual-in_err-read_lines.result c.from_residual-in_err-read_lines.ensures.1 in
    rw (p.1, p.2) (fault-first libraries old old.beside (subst (StandsFor libraries) (sym c.in_ok-reader.ensures.same) stands) c.args.bytes.now _ c.in_err-read_lines.ensures.fault)

pub returns-clause-ok : goal.returns-clause-ok
returns-clause-ok c = λ libraries stands.
    let old = c.in_ok-reader.reader in
    let new = c.read_lines.new.reader in
    stands-more libraries old old.beside (subst (StandsFor libraries) (sym c.in_ok-reader.ensures.same) stands) c.args.bytes.now new new.beside c.in_ok-read_lines.ensures.ok

pub returns-clause-sound : goal.returns-clause-sound
returns-clause-sound c = λ libraries stands.
    let old = c.in_ok-reader.reader in
    no-fault libraries old old.beside (subst (StandsFor libraries) (sym c.in_ok-reader.ensures.same) stands) c.args.bytes.now c.in_ok-read_lines.ensures.ok.sound

pub invariant_of-drop : goal.invariant_of-drop
invariant_of-drop c =
    let old = c.in_ok-reader.reader in
    let new = c.read_lines.new.reader in
    let some = subst StandForSome (sym c.in_ok-reader.ensures.same) c.reader.ensures.stand in
    (new.beside, new.few, some-more old old.beside some c.args.bytes.now new new.beside c.in_ok-read_lines.ensures.ok)
