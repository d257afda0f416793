-- One image of a sequence, and what drawing and writing it answers.
use Rattle.std.specs.Prelude.{◌≡◌, ◌≤◌, ◌<◌, ◌+◌, ℕ, List, take, length, Result, Ok, Err}
use Rattle.std.specs.List.{All}
use Rattle.std.specs.Io.KnownBytes.{Appends, Keeps}
use Rattle.abuf_io.specs.Causes.{Rose}
use Rattle.abuf_num.specs.declared.plain.PixelSum.{PixelSum}
use Rattle.abuf_raster.specs.Samples.{offsets_of}
use Rattle.abuf_scene.specs.declared.triangles.Triangle.{Triangle}
use Rattle.abuf_resolve.specs.Sums.{IsSmall}
use Rattle.abuf_sequence.specs.declared.fault.ImageFault.{ImageFault}
use Rattle.abuf_sequence.specs.declared.fault.ImageFault.TheVariants as fault
use Rattle.abuf_sequence.specs.declared.fault.SequenceFault.{SequenceFault}
use Rattle.abuf_sequence.specs.declared.fault.SequenceFault.TheVariants as sequence
use Rattle.abuf_sequence.specs.declared.path.Shot.{Shot}
use Rattle.abuf_sequence.specs.declared.plan.Plan.{Plan}
use Rattle.abuf_io.specs.Sinks.{Taken}
use Rattle.abuf_sequence.specs.Sequences.{image_of, sums_of, total_of}

-- The fault of an image, as that of a sequence in which so many images come before it.
abbrev pub fault_after : ℕ → ImageFault → SequenceFault
fault_after before (fault.Full fragments nodes) = sequence.Full (before + 1) fragments nodes
fault_after before fault.Write = sequence.Write
fault_after before fault.Memory = sequence.Memory before

module _ (plan : Plan) (triangles : List Triangle) (shot : Shot) where
  -- The fragments of the image are so many, and more than the nodes.
  pub record IsFull (fragments nodes : ℕ) : Type 0 where
    pub count : fragments ≡ total_of plan triangles shot
    pub more : plan.nodes < total_of plan triangles shot
    pub nodes_are : nodes ≡ plan.nodes

  -- The fragments of the image have nodes, and these are the sums of its pixels.
  pub record AreSums (sums : List PixelSum) : Type 0 where
    pub fit : total_of plan triangles shot ≤ plan.nodes
    pub are : sums ≡ sums_of plan triangles shot
    pub small : All (IsSmall (length (offsets_of plan.pattern))) sums

  -- The fragments of the image have nodes, and these are its bytes.
  pub record AreBytes (bytes : List ℕ) : Type 0 where
    pub fit : total_of plan triangles shot ≤ plan.nodes
    pub are : bytes ≡ image_of plan triangles shot

  -- The answer of its drawing, up to its sums or its bytes.
  abbrev pub IsDrawAnswer : {T : Type 0} → (T → Type 0) → Result T ImageFault → Type 0
  IsDrawAnswer Drawn (Ok drawn) = Drawn drawn
  IsDrawAnswer Drawn (Err (fault.Full fragments nodes)) = IsFull fragments nodes
  IsDrawAnswer Drawn (Err fault.Write) = ⊥
  IsDrawAnswer Drawn (Err fault.Memory) = Unit {0}

  module _ (out : Taken) where
    -- All of it was written.
    pub record IsWritten : Type 0 where
      pub fit : total_of plan triangles shot ≤ plan.nodes
      pub written : Appends out.old out.new (image_of plan triangles shot)

    -- The sink failed, and took a prefix of it.
    pub record IsCutShort : Type 0 where
      pub fit : total_of plan triangles shot ≤ plan.nodes
      pub part : (count : ℕ) × Appends out.old out.new (take count (image_of plan triangles shot))
      pub rose : Rose out.faults_old out.faults_new

    -- The answer of its writing. A full image isn't written, nor is one for which memory runs out.
    abbrev pub IsWriteAnswer : {T : Type 0} → Result T ImageFault → Type 0
    IsWriteAnswer (Ok _) = IsWritten
    IsWriteAnswer (Err (fault.Full fragments nodes)) = IsFull fragments nodes × Keeps out.old out.new
    IsWriteAnswer (Err fault.Write) = IsCutShort
    IsWriteAnswer (Err fault.Memory) = Keeps out.old out.new

module _ (out : Taken) where
  -- All bytes were written.
  abbrev pub WritesBytes : {T : Type 0} → List ℕ → Result T ImageFault → Type 0
  WritesBytes bytes (Ok _) = Appends out.old out.new bytes
  WritesBytes bytes (Err (fault.Full fragments nodes)) = ⊥
  WritesBytes bytes (Err fault.Write) = (count : ℕ) × Appends out.old out.new (take count bytes) × Rose out.faults_old out.faults_new
  WritesBytes bytes (Err fault.Memory) = ⊥

  -- What the writing of an image answers that was drawn, or of one that wasn't.
  abbrev pub WritesDrawn : {T : Type 0} → Result (List ℕ) ImageFault → Result T ImageFault → Type 0
  WritesDrawn (Ok bytes) result = WritesBytes bytes result
  WritesDrawn (Err fault) result = (result ≡ Err fault) × Keeps out.old out.new
