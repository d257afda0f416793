use Rattle.std.proofs.Common.{◌≡◌, ◌∙◌, ◌+◌, ◌++◌, ℕ, suc, List, take, drop, ap, ap₂, sym, arith}
use Rattle.abuf_text.specs.Lines.{lines}
use Rattle.abuf_obj.proofs.Splitting.{lines-cut, lines-none}
use Rattle.abuf_obj.proofs.split.split_lines.Goals as goal

pub returns-in-Some-clause-lines : goal.returns-in-Some-clause-lines
returns-in-Some-clause-lines c =
    let bytes = c.args.bytes.now in
    let k : ℕ = c.args.offset + c.in-Some.feed in
    let one : suc k ≡ c.args.offset + c.in-Some.feed + 1 = omega arith in
    lines-cut bytes k c.in-Some.ensures.within c.in-Some.ensures.feed
    ∙ ap₂ (λ (front back : List ℕ). lines front ++ lines back)
    (ap (λ n. take n bytes) one ∙ sym c.split_at.ensures.front)
    (ap (λ n. drop n bytes) one ∙ sym c.split_at.ensures.back)

pub returns-in-None-clause-lines : goal.returns-in-None-clause-lines
returns-in-None-clause-lines c = lines-none c.args.bytes.now
