use Rattle.std.proofs.Common.{◌≡◌, ◌∙◌, ◌+◌, ◌*◌, ℕ, refl, sym, subst, arith}
use Rattle.abuf_raster.proofs.Masks.{offsets_some}
use Rattle.abuf_raster.specs.declared.pattern.Pattern.{Pattern}
use Rattle.abuf_raster.specs.Region.{Region, IsRegion}
use Rattle.abuf_raster.specs.Samples.{offsets_of}
use Rattle.abuf_peel.specs.Layers.{sample_at, size_of, StandsFor}
use Rattle.abuf_peel.specs.Members.{HaveAll}
use Rattle.abuf_peel.proofs.Chosen.{covering_few, sample_in}
use Rattle.abuf_peel.proofs.Left.{all_left}
use Rattle.abuf_peel.proofs.Standing.{whole_none, whole_many, stands_times}
use Rattle.abuf_peel.proofs.input.PeelInput.exhaust.Goals as goal

pub returns-then-not-step_over-clause-whole : goal.returns-then-not-step_over-clause-whole
returns-then-not-step_over-clause-whole c =
    let input = c.args.self.now in
    whole_none input.background input.tris.now input.paints.now (omega (arith, input.few)) (c.loop-n._n * 16 + 16) c.step_over.new.self
    (stands_times input.background input.tris.now input.paints.now (c.loop-n._n * 16) 16 c.loop-n.layer c.step_over.new.self c.step_over.ensures.takes c.loop-n.invariant.stands)
    (c.step_over.ensures.none c.if-not-step_over.true)

pub returns-clause-whole : goal.returns-clause-whole
returns-clause-whole c =
    let input = c.args.self.now in
    let l = c.loop-n.layer in
    let members = c.args.members.now.items in
    let have : HaveAll (offsets_of c.loop-n.layer.pattern) input.tris.now c.loop-n.layer.region members =
    subst (λ (p : Pattern). HaveAll (offsets_of p) input.tris.now c.loop-n.layer.region members) (sym c.loop-n.invariant.pattern)
    (subst (λ (r : Region). HaveAll (offsets_of c.args.layer.now.pattern) input.tris.now r members) (sym c.loop-n.invariant.region) c.requires.members) in
    let region : IsRegion c.loop-n.layer.region = subst IsRegion (sym c.loop-n.invariant.region) (subst IsRegion c.region.ensures c.region_law.ensures) in
    whole_many input.background input.tris.now input.paints.now (omega (arith, input.few)) (c.loop-n._n * 16) c.loop-n.layer
    (λ j m. omega (arith, covering_few (offsets_of c.loop-n.layer.pattern) input.tris.now c.loop-n.layer.region members (sample_at c.loop-n.layer.region (size_of c.loop-n.layer.pattern) j) have (sample_in c.loop-n.layer.region c.loop-n.layer.pattern j region (offsets_some c.loop-n.layer.pattern) m)))
    c.loop-n.invariant.stands

pub loop-n-preserved : goal.loop-n-preserved
loop-n-preserved c =
    let input = c.args.self.now in
    let e : c.loop-n._n * 16 + 16 ≡ (c.loop-n._n + 1) * 16 = omega arith in
    record {
      stands = subst (λ (n : ℕ). StandsFor input.background input.tris.now input.paints.now n c.step_over.new.self) e
          (stands_times input.background input.tris.now input.paints.now (c.loop-n._n * 16) 16 c.loop-n.layer c.step_over.new.self c.step_over.ensures.takes c.loop-n.invariant.stands);
      region = c.step_over.ensures.takes.region ∙ c.loop-n.invariant.region;
      pattern = c.step_over.ensures.takes.pattern ∙ c.loop-n.invariant.pattern;
      members = c.step_over.ensures.members;
    }

pub loop-n-init : goal.loop-n-init
loop-n-init c =
    let input = c.args.self.now in
    let l = c.args.layer.now in
    record { stands = c.requires.start; region = refl; pattern = refl; members = all_left input.tris.now l.region l.pattern l.from c.args.members.now.items (subst IsRegion c.region.ensures c.region_law.ensures) c.requires.members }
