-- A scene as a camera sees it, its image, and why there is none.
use Rattle.std.specs.Prelude.{◌≡◌, ◌<◌, ◌∷◌, [], ℕ, List, length, map}
use Rattle.abuf_mtl.specs.Fault as mtl
use Rattle.abuf_mtl.specs.Fault.{library_fault}
use Rattle.abuf_num.specs.declared.plain.Paint.{Paint}
use Rattle.abuf_obj.specs.Faults as obj
use Rattle.abuf_obj.specs.Scene.{points, faces, names, libraries, obj_fault}
use Rattle.abuf_obj.specs.declared.scene.Obj.{Obj}
use Rattle.abuf_pam.specs.Image as pam
use Rattle.abuf_picture.specs.Picture.{total}
use Rattle.abuf_raster.specs.Region.{Region, whole_image}
use Rattle.abuf_raster.specs.Samples.{offsets_of}
use Rattle.abuf_raster.specs.Triangle.{Triangle}
use Rattle.abuf_raster.specs.declared.pattern.Pattern.{Pattern}
use Rattle.abuf_resolve.specs.Sums.{region_sums}
use Rattle.abuf_scene.specs.Triangles.{triangles, unknown, Tells}
use Rattle.abuf_view.specs.Camera.{Camera}
use Rattle.abuf_view.specs.Primitives.{Primitive, prims}
use Rattle.abuf_uses.specs.declared.fault.NoImage.{NoImage}
use Rattle.abuf_uses.specs.declared.fault.NoImage.TheVariants.{Scene, Library, Material, Full, Memory}

-- The scene that these bytes define, where they have no fault.
abbrev pub scene_of : List ℕ → Obj
scene_of bytes = record { points = points bytes; faces = faces bytes; names = names bytes; libraries = libraries bytes }

-- The primitives of a scene with one library, before a camera.
abbrev pub seen : Camera → List ℕ → List ℕ → List Primitive
seen camera scene library = prims camera (triangles (library ∷ []) (scene_of scene))

-- The first fault of the scene, or that of the library, or the first face of an unknown material.
abbrev pub IsFault : List ℕ → List ℕ → NoImage → Type 0
IsFault scene library (Scene fault) = obj.TellsFirst (obj_fault scene) fault
IsFault scene library (Library fault) = mtl.TellsFirst (library_fault [] library) fault
IsFault scene library (Material fault) = Tells (unknown (library ∷ []) (scene_of scene)) fault
IsFault scene library (Full full) = ⊥
IsFault scene library Memory = ⊥

-- The file of the image of a region, with values of one byte: the mean over the samples of each pixel, from the primitives alone.
abbrev pub image_of : List Triangle → List Paint → Pattern → List ℕ → Region → List ℕ
image_of tris paints pattern background r =
    pam.image r.w r.h 255 (length (offsets_of pattern)) (region_sums (offsets_of pattern) background tris paints r)

-- There are more fragments than nodes, and both numbers are told; or memory ran out.
abbrev pub IsFullOrMemory : List Triangle → Pattern → Region → ℕ → NoImage → Type 0
IsFullOrMemory tris pattern r nodes (Full full) = (nodes < total tris pattern r) × (full.fragments ≡ total tris pattern r) × (full.nodes ≡ nodes)
IsFullOrMemory tris pattern r nodes Memory = Unit {0}
IsFullOrMemory tris pattern r nodes (Scene fault) = ⊥
IsFullOrMemory tris pattern r nodes (Library fault) = ⊥
IsFullOrMemory tris pattern r nodes (Material fault) = ⊥

-- The file of a scene's image over black.
abbrev pub file : Camera → Pattern → List ℕ → List ℕ → List ℕ
file camera pattern scene library =
    image_of (map (λ p. p.triangle) (seen camera scene library)) (map (λ p. p.paint) (seen camera scene library)) pattern (0 ∷ 0 ∷ 0 ∷ []) (whole_image camera.width camera.height)
