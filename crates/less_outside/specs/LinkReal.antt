-- A link over a reader and a writer.
use Rattle.std.specs.Prelude.{◌≡◌}
use Rattle.less_outside.specs.declared.link_real.LinkReal.{LinkReal}

-- it has this reader and this writer, and nothing has failed
pub record IsNewLinkReal {R W : Type 0} (link : LinkReal R W) (source : R) (target : W) : Type 0 where
  pub from : link.reader ≡ source
  pub over : link.writer ≡ target
  pub no_read_fault : link.read_faults ≡ 0
  pub no_write_fault : link.write_faults ≡ 0
