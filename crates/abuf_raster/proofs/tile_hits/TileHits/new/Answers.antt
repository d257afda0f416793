use Rattle.std.proofs.Common.{arith, ◌*◌}
use Rattle.std.proofs.lemmas.List.Sorted.{IsPermutation-sym, All-permutation, length_permutation}
use Rattle.abuf_raster.specs.Hits.{hit_at, hits, IsHitIn}
use Rattle.abuf_raster.specs.Samples.{offsets_of}
use Rattle.abuf_raster.specs.TilesLeft.{hits_left}
use Rattle.abuf_raster.proofs.Masks.{offsets_few}
use Rattle.abuf_raster.proofs.Hits.{hits_each, hits_few}
use Rattle.abuf_raster.proofs.tile_hits.TileHits.new.Goals as goal

pub returns-clause-within : goal.returns-clause-within
returns-clause-within c =
    let r = c.args.region in
    let all = hits c.args.t.now c.args.prim (offsets_of c.args.pattern) r in
    All-permutation (IsHitIn r) all (hits_left c.new.result) (IsPermutation-sym (hits_left c.new.result) all c.new.ensures.hits)
    (hits_each c.args.t.now c.args.prim (offsets_of c.args.pattern) r (omega (arith, c.requires)) (offsets_few c.args.pattern) c.region_law.ensures (r.w * r.h) 0 (omega arith))

pub returns-clause-few : goal.returns-clause-few
returns-clause-few c =
    let r = c.args.region in
    let all = hits c.args.t.now c.args.prim (offsets_of c.args.pattern) r in
    let l = length_permutation (hits_left c.new.result) all c.new.ensures.hits in
    let f = hits_few (hit_at c.args.t.now c.args.prim (offsets_of c.args.pattern) r) (r.w * r.h) 0 in
    omega (arith, l, f)
