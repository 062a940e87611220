-- What the adapters over the standard streams keep.
use Rattle.std.specs.Prelude.{ℕ}
use Rattle.tb_io.specs.declared.standard.StdSource.{StdSource}
use Rattle.tb_io.specs.declared.standard.StdSink.{StdSink}

-- how often the reader failed
abbrev pub reader_faults : {R : Type 0} → StdSource R → ℕ
reader_faults s = s.faults

-- how often the writer failed
abbrev pub writer_faults : {W : Type 0} → StdSink W → ℕ
writer_faults s = s.faults
