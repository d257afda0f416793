-- The scene of `demo`, in the place of the source's bytes and of the shelf's contents.
use Rattle.std.specs.Prelude.{ℕ, List, [], ◌∷◌, codes, Option, Some}
use Rattle.abuf_io.specs.Fetching.{held}
use Rattle.abuf_scene.specs.Demo as demo
use Rattle.abuf_cli.specs.declared.job.What.{What}
use Rattle.abuf_cli.specs.declared.job.What.TheVariants.{Render, Pick, Demo}
use Rattle.abuf_top.specs.Libraries.{Holdings}

-- One library, under the name that the scene has for it.
abbrev pub demo_shelf : Holdings
demo_shelf = held ((codes "demo.mtl", demo.library) ∷ [])

-- The bytes of the scene: `demo` makes its own, whatever the source has.
abbrev pub scene_for : What → Option (List ℕ) → Option (List ℕ)
scene_for Render scene = scene
scene_for (Pick x y) scene = scene
scene_for (Demo number) scene = Some (demo.obj number)

-- What is held for the scene.
abbrev pub shelf_of : What → Option Holdings → Option Holdings
shelf_of Render shelf = shelf
shelf_of (Pick x y) shelf = shelf
shelf_of (Demo number) shelf = Some demo_shelf
