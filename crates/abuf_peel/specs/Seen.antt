-- The samples of a layer, as a step sees them.
use Rattle.std.specs.Prelude.{ℕ, List}
use Rattle.abuf_peel.specs.declared.offering.Samples.{Samples}
use Rattle.abuf_peel.specs.Layers.{Peeled, peeled_of}

-- What is seen of a layer of these samples, with these words and colours.
abbrev pub seen_of : Samples → List ℕ → List (List ℕ) → Peeled
seen_of samples from colours = peeled_of samples.region samples.pattern from colours
