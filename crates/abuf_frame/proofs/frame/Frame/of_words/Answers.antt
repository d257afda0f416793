use Rattle.std.proofs.Common.{rules}
use Rattle.abuf_frame.specs.Words.{IsInitial}
use Rattle.abuf_frame.proofs.Claims.{starts}
use Rattle.abuf_frame.proofs.frame.Frame.of_words.Goals as goal

pub of_words-requires : goal.of_words-requires
of_words-requires c = let b : IsInitial c.args.pixels c.args.nodes c.args.words.now = search rules in
    starts record { pixels = c.args.pixels; nodes = c.args.nodes } c.args.words.now b.0 b.1 b.2
