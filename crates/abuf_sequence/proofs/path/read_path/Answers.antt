use Rattle.std.proofs.Common.{◌≡◌, ◌≤◌, ◌<◌, ◌+◌, ◌++◌, List, length, sym, ap, subst, arith}
use Rattle.std.specs.List.{All}
use Rattle.std.specs.Prelude.{option_to_list, IfSome}
use Rattle.abuf_text.specs.Lines.{lines}
use Rattle.abuf_sequence.specs.declared.path.Shot.{Shot}
use Rattle.abuf_sequence.specs.Paths.{IsShot}
use Rattle.abuf_sequence.proofs.Reading.{HasRead, read_more, refused, faulty, read_all, All-some, few_more}
use Rattle.abuf_sequence.proofs.path.read_path.Goals as goal

pub returns-in-Err-clause-answer : goal.returns-in-Err-clause-answer
returns-in-Err-clause-answer c =
    let l = c.loop-line in
    let read : HasRead (lines c.args.bytes.now) _ l.number l.shots = subst (λ ls. HasRead (lines c.args.bytes.now) ls l.number l.shots) c.in-Some.ensures.steps l.invariant.read in
    faulty c.args.bytes.now l.number c.in-Err.why
    (refused (lines c.args.bytes.now) _ l.number l.shots _ read _ (ap length c.as_slice.ensures) c.in-Err.why c.in-Err.ensures.value)

pub loop-line-preserved : goal.loop-line-preserved
loop-line-preserved c =
    let l = c.loop-line in
    let read : HasRead (lines c.args.bytes.now) _ l.number l.shots = subst (λ ls. HasRead (lines c.args.bytes.now) ls l.number l.shots) c.in-Some.ensures.steps l.invariant.read in
    let shots : List Shot = c.push_some.new.shots in
    let grown : shots ≡ l.shots ++ option_to_list c.in-Ok.shot = c.in_ok-push_some-in-Ok.ensures in
    let count : length c.as_slice.result.now ≡ length l.shots = ap length c.as_slice.ensures in
    let says = c.in-Ok.ensures.value in
    record {
      read =
          subst (HasRead (lines c.args.bytes.now) c.next.new.self (l.number + 1)) (sym grown)
          (read_more (lines c.args.bytes.now) _ l.number l.shots _ read _ count c.in-Ok.shot says.0 says.1);
      count = omega (arith, l.invariant.count, ap length c.in-Some.ensures.steps);
      sound = subst (All IsShot) (sym grown) (All-some IsShot l.shots c.in-Ok.shot l.invariant.sound c.in-Ok.ensures.sound);
      few =
          subst (λ (ss : List Shot). length ss ≤ 4096) (sym grown)
          (few_more l.shots c.in-Ok.shot l.invariant.few (subst (λ n. IfSome c.in-Ok.shot (λ _. n < 4096)) count c.in-Ok.ensures.room));
    }

pub returns-clause-answer : goal.returns-clause-answer
returns-clause-answer c =
    let l = c.loop-line in
    read_all c.args.bytes.now l.number l.shots (subst (λ ls. HasRead (lines c.args.bytes.now) ls l.number l.shots) c.in-None.ensures.steps.0 l.invariant.read)
