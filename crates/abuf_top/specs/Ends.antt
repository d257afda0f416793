-- How a run stops where a part of it ends early.
use Rattle.abuf_io.specs.declared.whole.ReadEnd.{ReadEnd}
use Rattle.abuf_io.specs.declared.whole.ReadEnd.TheVariants as end
use Rattle.abuf_obj.specs.declared.fault.ObjFault.{ObjFault}
use Rattle.abuf_obj.specs.declared.fault.ObjFault.TheVariants as obj
use Rattle.abuf_scene.specs.declared.assembly.SceneFault.{SceneFault}
use Rattle.abuf_scene.specs.declared.assembly.SceneFault.TheVariants as scene
use Rattle.abuf_cli.specs.declared.job.WordFault.{WordFault}
use Rattle.abuf_cli.specs.declared.job.WordFault.TheVariants as word
use Rattle.abuf_top.specs.declared.stop.Refusal.TheVariants as refusal
use Rattle.abuf_top.specs.declared.stop.Stop.{Stop}
use Rattle.abuf_top.specs.declared.stop.Stop.TheVariants as stop

abbrev pub read_stop : ReadEnd → Stop
read_stop end.ReadFault = stop.ReadFault
read_stop end.TooLong = stop.Refused refusal.SceneTooLong
read_stop end.Memory = stop.Memory

abbrev pub obj_stop : ObjFault → Stop
obj_stop (obj.Line line why) = stop.Refused (refusal.SceneLine line why)
obj_stop obj.Memory = stop.Memory

abbrev pub scene_stop : SceneFault → Stop
scene_stop (scene.UnknownMaterial line) = stop.Refused (refusal.UnknownMaterial line)
scene_stop scene.Memory = stop.Memory

abbrev pub word_stop : WordFault → Stop
word_stop word.Words = stop.Refused refusal.Words
word_stop (word.Value option) = stop.Refused (refusal.Value option)
word_stop word.Memory = stop.Memory
