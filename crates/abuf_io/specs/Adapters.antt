-- What the adapters over readers, writers and the working folder have, and the counts that they keep.
use Rattle.std.specs.Prelude.{ℕ}
use Rattle.abuf_io.specs.declared.adapters.ReadSource.{ReadSource}
use Rattle.abuf_io.specs.declared.adapters.WriteSink.{WriteSink}
use Rattle.abuf_io.specs.declared.folder.FolderShelf.{FolderShelf}

abbrev pub reader_of : {R : Type 0} → ReadSource R → R
reader_of s = s.inner

abbrev pub read_faults : {R : Type 0} → ReadSource R → ℕ
read_faults s = s.faults

abbrev pub writer_of : {W : Type 0} → WriteSink W → W
writer_of s = s.inner

abbrev pub write_faults : {W : Type 0} → WriteSink W → ℕ
write_faults s = s.faults

abbrev pub folder_calls : {R F E : Type 0} → FolderShelf R F E → ℕ
folder_calls s = s.calls

abbrev pub folder_faults : {R F E : Type 0} → FolderShelf R F E → ℕ
folder_faults s = s.faults
