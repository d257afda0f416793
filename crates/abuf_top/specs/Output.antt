-- What a drawing writes, by its command.
use Rattle.std.specs.Prelude.{ℕ, List}
use Rattle.abuf_cli.specs.declared.job.What.{What}
use Rattle.abuf_cli.specs.declared.job.What.TheVariants.{Render, Pick, Demo}
use Rattle.abuf_top.specs.Image.{Drawing, image}
use Rattle.abuf_top.specs.Report.{report}
use Rattle.abuf_top.specs.Summary.{summary}

abbrev pub output_of : What → Drawing → List ℕ
output_of Render d = image d
output_of (Pick x y) d = report d x y
output_of (Demo number) d = summary d

-- `render` writes the image, `pick` a report of one pixel, `demo` a summary.
abbrev pub output : Drawing → List ℕ
output d = output_of d.what d
