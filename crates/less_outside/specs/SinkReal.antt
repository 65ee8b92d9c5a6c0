-- A sink over a writer.
use Rattle.std.specs.Prelude.{◌≡◌}
use Rattle.less_outside.specs.declared.sink_real.SinkReal.{SinkReal}

-- it has this writer, and nothing has failed
pub record IsNewSinkReal {W : Type 0} (sink : SinkReal W) (writer : W) : Type 0 where
  pub over : sink.writer ≡ writer
  pub fresh : sink.faults ≡ 0
