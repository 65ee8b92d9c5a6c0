-- What the run of a script leaves for its reply.
use Rattle.std.specs.Prelude.{ℕ, List}
use Rattle.reply_text.specs.Headers.{Header}
use Rattle.reply_text.specs.declared.script.ScriptEnd.{ScriptEnd}
use Rattle.reply_text.specs.declared.script.ScriptEnd.TheVariants as view
use Rattle.reply_text.specs.declared.script.ScriptRun.{ScriptRun}

-- how it ended
pub data RunEnd : Type 0 where
  -- it came to its end
  Done : RunEnd
  -- a removed file or function was to be entered
  Removed : RunEnd
  -- one tick more than the budget was wanted
  Budget : RunEnd
  -- it could not go on, at a line of a file
  Fatal : (name file : List ℕ) (line : ℕ) → RunEnd

pub record RunReply : Type 0 where
  -- the status that the script set, or 200
  pub status : ℕ
  pub headers : List Header
  pub output : List ℕ
  pub end : RunEnd

-- what a view of a run shows
abbrev pub end_of : ScriptEnd → RunEnd
end_of view.Done = Done
end_of view.Removed = Removed
end_of view.Budget = Budget
end_of (view.Fatal name file line) = Fatal name.now file.now line

abbrev pub run_of : ScriptRun → RunReply
run_of run = record { status = run.status; headers = run.headers.now; output = run.output.now; end = end_of run.end }
