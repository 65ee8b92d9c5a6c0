-- Requests as plain data.
use Rattle.std.specs.Prelude.{ℕ, List}
use Rattle.reply_text.specs.Headers.{Header}

-- what a head tells. The version is 0 for HTTP/1.0 and 1 for HTTP/1.1
pub record Head : Type 0 where
  pub method : List ℕ
  pub target : List ℕ
  pub version : ℕ
  pub headers : List Header

pub record Request : Type 0 where
  pub head : Head
  pub body : List ℕ
