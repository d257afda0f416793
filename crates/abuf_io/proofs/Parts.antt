-- Parts of a list of bytes that a loop takes or gives one after another.
use Rattle.std.proofs.Common.{◌≡◌, ℕ, ◌+◌, List, ◌++◌, length, take, drop, sym, subst, arith}
use Rattle.std.proofs.lemmas.List.{take-append-drop}
use Rattle.std.proofs.Math.Seq.{take-add}
use Rattle.std.specs.declared.option.Option.{Option}
use Rattle.std.specs.Io.{StartsWith, appended_bytes}
use Rattle.std.specs.Io.KnownBytes.{Appends, Consumes}
use Rattle.abuf_io.specs.Whole.{StopsAfter}
use Rattle.abuf_io.specs.declared.whole.ReadEnd.{ReadEnd}
use Rattle.abuf_io.specs.declared.whole.ReadEnd.TheVariants.{ReadFault, TooLong, Memory}
use Rattle.std.proofs.KnownBytes.{Appends-trans, Consumes-trans}

-- the first bytes, and then the next of the rest
pub Appends-part : (a b c : Option (List ℕ)) (at n : ℕ) (bs : List ℕ) → Appends a b (take at bs) → Appends b c (take n (drop at bs)) → Appends a c (take (at + n) bs)
Appends-part a b c at n bs first then =
    subst (Appends a c) (sym (take-add at n bs)) (Appends-trans a b c _ _ first then)

-- the bytes that were taken, and what came behind them
pub Consumes-grown : (a b c : Option (List ℕ)) (old new : List ℕ) → StartsWith new old → Consumes a b old → Consumes b c (appended_bytes old new) → Consumes a c new
Consumes-grown a b c old new begins first then =
    let joined : old ++ drop (length old) new ≡ new = subst (λ (front : List ℕ). front ++ drop (length old) new ≡ new) begins (take-append-drop (length old) new) in
    subst (Consumes a c) joined (Consumes-trans a b c old _ first then)

-- the bytes that were taken, and how many a read that gave up took behind them
pub StopsAfter-more : (why : ReadEnd) (limit rest before n : ℕ) → before + rest ≡ limit → StopsAfter why rest n → StopsAfter why limit (before + n)
StopsAfter-more ReadFault limit rest before n sum few = omega (arith, few)
StopsAfter-more TooLong limit rest before n sum all = omega (arith, all)
StopsAfter-more Memory limit rest before n sum few = omega (arith, few)
