-- Materials as what gives each name its paint.
use Rattle.std.specs.Prelude.{ℕ, List, Option, Some, None}
use Rattle.abuf_num.specs.declared.plain.Paint.{Paint}
use Rattle.abuf_mtl.specs.StandsFor.{find_paint}
use Rattle.abuf_scene.specs.Triangles.{Look}

abbrev pub look_up : List (List ℕ × Paint) → Look
look_up pairs name = find_paint name pairs

-- the line of a face that has no paint
abbrev pub line_if_none : ℕ → Option Paint → Option ℕ
line_if_none line None = Some line
line_if_none line (Some paint) = None
