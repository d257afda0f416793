use Rattle.std.proofs.Common.{◌∙◌, ◌++◌, ℕ, List, ap, append_assoc}
use Rattle.std.specs.String.{string_bytes}
use Rattle.abuf_raster.specs.Samples.{offsets_of}
use Rattle.abuf_top.specs.Report.{line_of, samples_text}
use Rattle.abuf_top.proofs.Lines.{one_more}
use Rattle.abuf_top.proofs.report.Sampled.push_samples.Goals as goal

pub loop-k-preserved : goal.loop-k-preserved
loop-k-preserved c =
    let pixel = c.args.self.now in
    let line : ℕ → List ℕ = line_of (offsets_of pixel.pattern) pixel.planes pixel.at.x pixel.at.y in
    let front : List ℕ = string_bytes c.args.text.now in
    let before : List ℕ = samples_text (offsets_of pixel.pattern) pixel.planes pixel.at.x pixel.at.y c.loop-k.k in
    c.in_ok-push_line.ensures
    ∙ (ap (λ (bytes : List ℕ). bytes ++ line c.loop-k.k) c.loop-k.invariant
    ∙ (append_assoc front before (line c.loop-k.k)
    ∙ ap (λ (bytes : List ℕ). front ++ bytes) (one_more line c.loop-k.k)))
