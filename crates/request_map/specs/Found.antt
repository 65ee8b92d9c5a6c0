-- What the parser finds at the front of bytes.
use Rattle.std.specs.Prelude.{ℕ, List, drop}
use Rattle.httparse.specs.Grammar.{RequestHead}
use Rattle.httparse.specs.Spans.{IsRequestAt, IsRequestWithin}
use Rattle.httparse.specs.declared.spans.HeaderSpan.{HeaderSpan}
use Rattle.httparse.specs.declared.spans.RequestSpans.{RequestSpans}
use Rattle.request_map.specs.Heads.{BeginsWith}

-- the spans cover the parts of the head that the bytes begin with
pub record IsFound (bytes : List ℕ) (headers : List HeaderSpan) (spans : RequestSpans) : Type 0 where
  pub head : RequestHead
  pub at : IsRequestAt bytes headers spans head
  pub within : IsRequestWithin bytes headers spans
  pub begins : BeginsWith bytes head (drop spans.len bytes)
