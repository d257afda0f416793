use Rattle.abuf_obj.proofs.Leading.{number_is_plain}
use Rattle.abuf_obj.proofs.points.next_coordinate.Goals as goal

pub behind-requires-clause-token : goal.behind-requires-clause-token
behind-requires-clause-token c =
    let number = c.in-Some in
    number_is_plain c.text-text.result.now number.number.length number.ensures.some number.ensures.within number.ensures.bytes
