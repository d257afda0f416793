use Rattle.std.proofs.Common.{rules, ◌≡◌, false, [], ◌+◌, ◌*◌, ◌++◌, ◌∙◌, ℕ, List, length, take, map, refl, sym, ap, subst, All, arith, length-append}
use Rattle.std.proofs.lemmas.List.{length-map, map-append}
use Rattle.std.proofs.lemmas.List.Sorted.{IsPermutation-append_right, IsPermutation-map}
use Rattle.abuf_frame.proofs.Draws.{draws_none}
use Rattle.abuf_raster.specs.declared.region.Hit.{Hit}
use Rattle.abuf_raster.specs.Region.{Region}
use Rattle.abuf_raster.specs.Samples.{offsets_of}
use Rattle.abuf_raster.specs.Hits.{hits, placed, fragments, IsHitIn}
use Rattle.abuf_draw.specs.Waiting.{Passes}
use Rattle.abuf_draw.proofs.Drawing.{Midway, midway_room, midway_more, midway_ends, passes_none, passes_drawn, passes_credit, placed_few, all_first, all_rest}
use Rattle.abuf_draw.proofs.Uncovered.{no_hits}
use Rattle.abuf_draw.proofs.brush.Brush.draw.Goals as goal
use Rattle.abuf_draw.proofs.brush.Brush.draw.Goals.{After-lose, In-Some}

pub returns-then-not-meets-clause-passes : goal.returns-then-not-meets-clause-passes
returns-then-not-meets-clause-passes c =
    let outside : c.meets.result ≡ false = search rules in
    let b : List (ℕ × ℕ) = c.args.self.now.batch in let v = c.args.pass.now.view in
    let none = ap (map (placed c.args.self.now.region)) (no_hits c.args.t.now c.args.prim (offsets_of c.args.self.now.pattern) c.args.self.now.region (c.meets.ensures outside)) in
    subst (λ (xs : List (ℕ × ℕ)). Passes b xs b v v) (sym none) (passes_none b v)

-- Of fragments that are only counted, there are as many as hits.
counted : (c : After-lose) → Passes c.args.self.now.batch (fragments c.args.t.now c.args.prim (offsets_of c.args.self.now.pattern) c.args.self.now.region) c.args.self.now.batch c.args.pass.now.view c.lose.new.self.view
counted c =
    let r = c.args.self.now.region in
    let all : List Hit = hits c.args.t.now c.args.prim (offsets_of c.args.self.now.pattern) r in
    passes_drawn c.args.self.now.batch (map (placed r) all) _ _ (c.lose.ensures.draws (map (placed r) all) (length-map all (placed r) ∙ sym (c.count_hits.ensures.count c.args.prim)))

pub returns-then-self-clause-passes : goal.returns-then-self-clause-passes
returns-then-self-clause-passes c = counted c

pub returns-then-self-clause-few : goal.returns-then-self-clause-few
returns-then-self-clause-few c =
    let r = c.args.self.now.region in
    let all : List Hit = hits c.args.t.now c.args.prim (offsets_of c.args.self.now.pattern) r in
    omega (arith, passes_credit _ _ _ _ _ (counted c), length-map all (placed r), c.count_hits.ensures.count c.args.prim, c.count_hits.ensures.few)

pub loop-count-init : goal.loop-count-init
loop-count-init c =
    let r = c.args.self.now.region in
    let all : List Hit = hits c.args.t.now c.args.prim (offsets_of c.args.self.now.pattern) r in
    let f = c.new-tiles.ensures in let b : List (ℕ × ℕ) = c.args.self.now.batch in
    record {
      same = refl;
      brush = (refl, refl);
      full = c.requires.full;
      within = f.within;
      midway = record { out = []; drawn = draws_none c.args.pass.now.view; left = IsPermutation-append_right b (map (placed r) c.new-tiles.result) (map (placed r) all) (IsPermutation-map (placed r) c.new-tiles.result all f.hits) };
    }

-- the hits of the next tile, and those after it
split : (c : In-Some) → take c.in-Some.count c.next_tile.new.hits ++ c.next_tile.new.self ≡ c.loop-count.tiles
split c = c.in-Some.ensures.gives.2

next : (c : In-Some) → Midway (c.args.self.now.batch ++ fragments c.args.t.now c.args.prim (offsets_of c.args.self.now.pattern) c.args.self.now.region) (c.loop-count.self.batch ++ (map (placed c.args.self.now.region) (take c.in-Some.count c.next_tile.new.hits) ++ map (placed c.args.self.now.region) c.next_tile.new.self)) c.args.pass.now.view c.loop-count.pass.view
next c = let r = c.args.self.now.region in subst (λ (xs : List (ℕ × ℕ)). Midway (c.args.self.now.batch ++ fragments c.args.t.now c.args.prim (offsets_of c.args.self.now.pattern) r) (c.loop-count.self.batch ++ xs) c.args.pass.now.view c.loop-count.pass.view)
    (ap (map (placed r)) (sym (split c)) ∙ map-append (placed r) (take c.in-Some.count c.next_tile.new.hits) c.next_tile.new.self) c.loop-count.invariant.midway

pub add-requires-clause-within : goal.add-requires-clause-within
add-requires-clause-within c =
    let P : Hit → Type 0 = IsHitIn c.args.self.now.region in
    let xs : List Hit = take c.in-Some.count c.next_tile.new.hits in
    subst (λ (r : Region). All (IsHitIn r) xs) (sym c.loop-count.invariant.brush.0) (all_first P xs c.next_tile.new.self (subst (All P) (sym (split ((goal.at.add-requires-clause-within c).In-Some))) c.loop-count.invariant.within))

pub add-requires-clause-credit : goal.add-requires-clause-credit
add-requires-clause-credit c =
    let f = c.new-tiles.ensures in let r = c.args.self.now.region in
    let items : List (ℕ × ℕ) = fragments c.args.t.now c.args.prim (offsets_of c.args.self.now.pattern) r in
    let few = placed_few r c.new-tiles.result (hits c.args.t.now c.args.prim (offsets_of c.args.self.now.pattern) r) f.hits (r.w * r.h) f.few in
    let both = length-append c.args.self.now.batch items in
    midway_room (c.args.self.now.batch ++ items) c.args.pass.now.view c.loop-count.pass.view c.loop-count.self.batch (map (placed r) c.loop-count.tiles) c.loop-count.invariant.midway (length c.args.self.now.batch + r.w * r.h) (omega arith) c.requires.credit

pub loop-count-preserved : goal.loop-count-preserved
loop-count-preserved c =
    let d = (goal.at.loop-count-preserved c).In-Some in
    let P : Hit → Type 0 = IsHitIn c.args.self.now.region in
    let xs : List Hit = take c.in-Some.count c.next_tile.new.hits in
    let same : c.loop-count.self.region ≡ c.args.self.now.region = c.loop-count.invariant.brush.0 in
    record {
      same = c.add.ensures.frame ∙ c.loop-count.invariant.same;
      brush = (c.add.ensures.brush.0 ∙ c.loop-count.invariant.brush.0, c.add.ensures.brush.1 ∙ c.loop-count.invariant.brush.1);
      full = c.add.ensures.full;
      within = all_rest P xs c.next_tile.new.self (subst (All P) (sym (split d)) c.loop-count.invariant.within);
      midway = midway_more _ c.args.pass.now.view c.loop-count.pass.view c.loop-count.self.batch (map (placed c.args.self.now.region) xs) c.add.new.self.batch (map (placed c.args.self.now.region) c.next_tile.new.self) (next d) c.add.new.pass.view
          (subst (λ (r : Region). Passes c.loop-count.self.batch (map (placed r) xs) c.add.new.self.batch c.loop-count.pass.view c.add.new.pass.view) same c.add.ensures.passes);
    }

pub returns-clause-passes : goal.returns-clause-passes
returns-clause-passes c = midway_ends _ _ c.loop-count.self.batch c.args.pass.now.view c.loop-count.pass.view (rw c.in_default.ensures.gives at c.loop-count.invariant.midway)

pub returns-clause-few : goal.returns-clause-few
returns-clause-few c =
    let d = passes_credit _ _ _ _ _ (returns-clause-passes c) in
    let f = c.new-tiles.ensures in
    let l = placed_few c.args.self.now.region c.new-tiles.result (hits c.args.t.now c.args.prim (offsets_of c.args.self.now.pattern) c.args.self.now.region) f.hits (c.args.self.now.region.w * c.args.self.now.region.h) f.few in
    omega (arith, d, l)
