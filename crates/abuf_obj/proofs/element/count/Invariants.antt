use Rattle.std.proofs.Common.{◌≡◌, ◌≤◌, ◌+◌, length, min}
use Rattle.abuf_obj.proofs.element.count.Given as goal

abbrev pub invariant-loop-token : goal.invariant-loop-token
invariant-loop-token l = record {
  most : l.n ≤ 1025;
  count : min (l.n + length l._token-iterator) 1025 ≡ min (length l.fn.tokens) 1025;
}
