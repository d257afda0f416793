-- What the sources, the sink and the shelves over memory hold.
use Rattle.std.specs.Prelude.{◌-◌, ℕ, List, length, drop}
use Rattle.abuf_io.specs.declared.plan.Step.{Step}
use Rattle.abuf_io.specs.declared.memory.MemSource.{MemSource}
use Rattle.abuf_io.specs.declared.memory.SteadySource.{SteadySource}
use Rattle.abuf_io.specs.declared.memory.MemSink.{MemSink}
use Rattle.abuf_io.specs.declared.memory_shelf.SteadyShelf.{SteadyShelf}
use Rattle.abuf_io.specs.declared.memory.MemShelf.{MemShelf}

-- the bytes that a source has left
abbrev pub source_left : MemSource → List ℕ
source_left s = drop s.at s.bytes

-- the steps that its calls have yet to use
abbrev pub source_plan : MemSource → List Step
source_plan s = drop s.used s.plan

abbrev pub source_faults : MemSource → ℕ
source_faults s = s.faults

abbrev pub steady_left : SteadySource → List ℕ
steady_left s = drop s.at s.bytes

abbrev pub sink_taken : MemSink → List ℕ
sink_taken s = s.bytes.items

-- how many more bytes a sink has room for
abbrev pub sink_room : MemSink → ℕ
sink_room s = s.room - length s.bytes.items

abbrev pub sink_plan : MemSink → List Step
sink_plan s = drop s.used s.plan

abbrev pub sink_faults : MemSink → ℕ
sink_faults s = s.faults

abbrev pub steady_pairs : SteadyShelf → List (List ℕ × List ℕ)
steady_pairs s = s.pairs

abbrev pub steady_calls : SteadyShelf → ℕ
steady_calls s = s.calls

abbrev pub shelf_pairs : MemShelf → List (List ℕ × List ℕ)
shelf_pairs s = s.pairs

-- the numbers of the calls that fail
abbrev pub shelf_fails : MemShelf → List ℕ
shelf_fails s = s.fails

abbrev pub shelf_calls : MemShelf → ℕ
shelf_calls s = s.calls

abbrev pub shelf_faults : MemShelf → ℕ
shelf_faults s = s.faults
