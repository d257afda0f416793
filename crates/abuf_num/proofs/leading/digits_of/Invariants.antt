use Rattle.std.proofs.Common.{◌≡◌, ◌<◌, ◌+◌, ◌^◌, take, true}
use Rattle.abuf_num.specs.Decimal.{spelled_from, all_digits}
use Rattle.abuf_num.proofs.leading.digits_of.Given as goal

abbrev pub invariant-loop-b : goal.invariant-loop-b
invariant-loop-b l = record {
  count : l.count ≡ l.b-index;
  digits : all_digits (take l.b-index l.text) ≡ true;
  value : l.value ≡ spelled_from l.from (take l.b-index l.text);
  small : l.value < 10 ^ (l.places + l.b-index);
}
