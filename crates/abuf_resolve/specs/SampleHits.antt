-- What a list of fragments has of one sample.
use Rattle.std.specs.Prelude.{◌≡◌, ℕ, List, [], ◌∷◌}
use Rattle.abuf_resolve.specs.declared.sample_hits.SampleHits.{SampleHits}
use Rattle.abuf_resolve.specs.declared.sample_hits.SampleHits.TheVariants.{Nothing, One, More}

-- The words that have it are none, or this one.
abbrev pub Has : SampleHits → List ℕ → Type 0
Has Nothing words = words ≡ []
Has (One word) words = words ≡ word ∷ []
Has More words = Unit {0}

-- One word more has it.
abbrev pub with_one : SampleHits → ℕ → SampleHits
with_one Nothing word = One word
with_one (One before) word = More
with_one More word = More
