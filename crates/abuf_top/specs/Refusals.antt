-- The statuses and texts of everything that a run can be refused by.
use Rattle.std.specs.Prelude.{◌++◌, ℕ, List, codes}
use Rattle.std.specs.Fmt.{decimal}
use Rattle.abuf_cli.specs.Options.{name_of}
use Rattle.abuf_obj.specs.declared.fault.Why.{Why}
use Rattle.abuf_obj.specs.declared.fault.Why.TheVariants as obj
use Rattle.abuf_mtl.specs.declared.fault.MtlWhy.{MtlWhy}
use Rattle.abuf_mtl.specs.declared.fault.MtlWhy.TheVariants as mtl
use Rattle.abuf_sequence.specs.declared.path.PathWhy.{PathWhy}
use Rattle.abuf_sequence.specs.declared.path.PathWhy.TheVariants as path
use Rattle.abuf_top.specs.declared.status.Status.{Status}
use Rattle.abuf_top.specs.declared.status.Status.TheVariants as ended
use Rattle.abuf_top.specs.declared.stop.FullPool.{FullPool}
use Rattle.abuf_top.specs.declared.stop.FullPool.TheVariants as full
use Rattle.abuf_top.specs.declared.stop.Refusal.{Refusal}
use Rattle.abuf_top.specs.declared.stop.Refusal.TheVariants as refusal
use Rattle.abuf_top.specs.declared.stop.Stop.{Stop}
use Rattle.abuf_top.specs.declared.stop.Stop.TheVariants as stop

-- What is wrong with a line of a scene.
abbrev pub scene_cause : Why → List ℕ
scene_cause obj.Keyword = codes "unknown keyword"
scene_cause obj.BadNumber = codes "bad number"
scene_cause obj.BadIndex = codes "bad index"
scene_cause obj.TooFewElements = codes "too few elements"
scene_cause obj.TooManyElements = codes "too many elements"
scene_cause obj.NoName = codes "no name"
scene_cause obj.TooManyPoints = codes "too many points"
scene_cause obj.TooManyTriangles = codes "too many triangles"
scene_cause obj.TooManyLibraries = codes "too many libraries"
scene_cause obj.TooManyMaterials = codes "too many materials"

-- What is wrong with a line of a library.
abbrev pub library_cause : MtlWhy → List ℕ
library_cause mtl.BadNumber = codes "bad number"
library_cause mtl.NoName = codes "no name"
library_cause mtl.TooMany = codes "too many materials"
library_cause mtl.NoMaterial = codes "no material"

-- What is wrong with a line of a path.
abbrev pub path_cause : PathWhy → List ℕ
path_cause path.WrongCount = codes "wrong count"
path_cause path.BadTurn = codes "bad turn"
path_cause path.BadNumber = codes "bad number"
path_cause path.TooMany = codes "too many images"

-- A line of the scene, and what is wrong with it.
abbrev pub line_text : ℕ → List ℕ → List ℕ
line_text line cause = codes "line " ++ decimal line ++ codes ": " ++ cause

-- Whether the words, the path, the scene or a library are refused.
abbrev pub refusal_status : Refusal → Status
refusal_status refusal.Words = ended.Words
refusal_status (refusal.Value option) = ended.Words
refusal_status refusal.PathMissing = ended.Path
refusal_status refusal.PathTooLong = ended.Path
refusal_status (refusal.PathLine line why) = ended.Path
refusal_status refusal.SceneTooLong = ended.Scene
refusal_status (refusal.SceneLine line why) = ended.Scene
refusal_status (refusal.UnknownMaterial line) = ended.Scene
refusal_status (refusal.LibraryMissing k) = ended.Library
refusal_status (refusal.LibraryTooLong k) = ended.Library
refusal_status (refusal.LibraryLine k line why) = ended.Library

abbrev pub refusal_text : Refusal → List ℕ
refusal_text refusal.Words = codes "words not understood"
refusal_text (refusal.Value option) = codes "bad value: " ++ name_of option
refusal_text refusal.PathMissing = codes "path missing"
refusal_text refusal.PathTooLong = codes "path too long"
refusal_text (refusal.PathLine line why) = codes "path line " ++ decimal line ++ codes ": " ++ path_cause why
refusal_text refusal.SceneTooLong = codes "scene too long"
refusal_text (refusal.SceneLine line why) = line_text line (scene_cause why)
refusal_text (refusal.UnknownMaterial line) = line_text line (codes "unknown material")
refusal_text (refusal.LibraryMissing k) = codes "library " ++ decimal k ++ codes " missing"
refusal_text (refusal.LibraryTooLong k) = codes "library " ++ decimal k ++ codes " too long"
refusal_text (refusal.LibraryLine k line why) = codes "library " ++ decimal k ++ codes " line " ++ decimal line ++ codes ": " ++ library_cause why

-- A full pool: that of the whole image, that of a band, or that of an image of a sequence, counted from 1.
abbrev pub full_text : FullPool → List ℕ
full_text (full.Image fragments nodes) = codes "pool full: " ++ decimal fragments ++ codes " fragments, " ++ decimal nodes ++ codes " nodes"
full_text (full.Band band fragments nodes) =
    codes "band " ++ decimal band ++ codes " full: " ++ decimal fragments ++ codes " fragments, " ++ decimal nodes ++ codes " nodes"
full_text (full.InSequence image fragments nodes) =
    codes "image " ++ decimal image ++ codes ": pool full: " ++ decimal fragments ++ codes " fragments, " ++ decimal nodes ++ codes " nodes"

-- The status and the text of every stop.
abbrev pub stop_status : Stop → Status
stop_status (stop.Refused r) = refusal_status r
stop_status (stop.PoolFull pool) = ended.PoolFull
stop_status stop.ReadFault = ended.ReadFault
stop_status stop.WriteFault = ended.WriteFault
stop_status stop.Memory = ended.Memory

abbrev pub stop_text : Stop → List ℕ
stop_text (stop.Refused r) = refusal_text r
stop_text (stop.PoolFull pool) = full_text pool
stop_text stop.ReadFault = codes "read fault"
stop_text stop.WriteFault = codes "write fault"
stop_text stop.Memory = codes "no memory"
