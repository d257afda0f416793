use Rattle.std.proofs.Common.{◌≡◌, ◌<◌, ◌∙◌, length, get_or, [], arith}
use Rattle.std.proofs.lemmas.List.{get_or_default}
use Rattle.abuf_text.proofs.names.with_all.Goals as goal

pub push-requires-clause-new : goal.push-requires-clause-new
push-requires-clause-new c =
    let names = c.args.names.now in
    let i = c.loop-name.name-index in
    let here : i < length names = omega arith in
    let name : c.as_slice.result.now ≡ get_or names i [] = c.as_slice.ensures ∙ c.name-item.is ∙ get_or_default names i _ [] here in
    rw (name, c.loop-name.invariant) (c.requires.once i here)
