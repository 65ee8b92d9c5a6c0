-- A frame that waits for a value hands on what is no value.
use Rattle.std.proofs.Common.{◌≡◌, refl, sym, ap, ◌∙◌}
use Rattle.php_world.specs.Naming.{Naming}
use Rattle.php_meaning.specs.World.{World}
use Rattle.php_meaning.specs.Course.{Then}
use Rattle.php_rest.specs.declared.now.Ending.{Ending}
use Rattle.php_rest.specs.declared.now.Ending.TheVariants as ending
use Rattle.php_rest.specs.declared.stmt_frame.StmtFrame.{StmtFrame}
use Rattle.php_rest.specs.declared.stmt_frame.StmtFrame.TheVariants as b
use Rattle.php_rest.specs.Rest.{after_stmt, signal_of}

-- the frames that wait for a value
abbrev pub ForValue : StmtFrame → Type 0
ForValue (b.EchoOf es) = Unit {0}
ForValue b.Discard = Unit {0}
ForValue (b.Choose ss xs others) = Unit {0}
ForValue (b.Test l) = Unit {0}
ForValue (b.ForList es l) = Unit {0}
ForValue (b.ForTest es l) = Unit {0}
ForValue (b.EachOf e) = Unit {0}
ForValue (b.SwitchOf cs) = Unit {0}
ForValue (b.CaseOf d ss cs all) = Unit {0}
ForValue b.ReturnOf = Unit {0}
ForValue b.ThrowOf = Unit {0}
ForValue _ = ⊥

passes : (t : Naming) (f : StmtFrame) → ForValue f → (k : Then) (x : Ending) (w : World) → k (signal_of x) w ≡ after_stmt t f k (signal_of x) w
passes t (b.EchoOf es) h k ending.Normal w = refl
passes t (b.EchoOf es) h k (ending.Returned v) w = refl
passes t (b.EchoOf es) h k (ending.Breaks n) w = refl
passes t (b.EchoOf es) h k (ending.Continues n) w = refl
passes t b.Discard h k ending.Normal w = refl
passes t b.Discard h k (ending.Returned v) w = refl
passes t b.Discard h k (ending.Breaks n) w = refl
passes t b.Discard h k (ending.Continues n) w = refl
passes t (b.Choose ss xs others) h k ending.Normal w = refl
passes t (b.Choose ss xs others) h k (ending.Returned v) w = refl
passes t (b.Choose ss xs others) h k (ending.Breaks n) w = refl
passes t (b.Choose ss xs others) h k (ending.Continues n) w = refl
passes t (b.Test l) h k ending.Normal w = refl
passes t (b.Test l) h k (ending.Returned v) w = refl
passes t (b.Test l) h k (ending.Breaks n) w = refl
passes t (b.Test l) h k (ending.Continues n) w = refl
passes t (b.ForList es l) h k ending.Normal w = refl
passes t (b.ForList es l) h k (ending.Returned v) w = refl
passes t (b.ForList es l) h k (ending.Breaks n) w = refl
passes t (b.ForList es l) h k (ending.Continues n) w = refl
passes t (b.ForTest es l) h k ending.Normal w = refl
passes t (b.ForTest es l) h k (ending.Returned v) w = refl
passes t (b.ForTest es l) h k (ending.Breaks n) w = refl
passes t (b.ForTest es l) h k (ending.Continues n) w = refl
passes t (b.EachOf e) h k ending.Normal w = refl
passes t (b.EachOf e) h k (ending.Returned v) w = refl
passes t (b.EachOf e) h k (ending.Breaks n) w = refl
passes t (b.EachOf e) h k (ending.Continues n) w = refl
passes t (b.SwitchOf cs) h k ending.Normal w = refl
passes t (b.SwitchOf cs) h k (ending.Returned v) w = refl
passes t (b.SwitchOf cs) h k (ending.Breaks n) w = refl
passes t (b.SwitchOf cs) h k (ending.Continues n) w = refl
passes t (b.CaseOf d ss cs all) h k ending.Normal w = refl
passes t (b.CaseOf d ss cs all) h k (ending.Returned v) w = refl
passes t (b.CaseOf d ss cs all) h k (ending.Breaks n) w = refl
passes t (b.CaseOf d ss cs all) h k (ending.Continues n) w = refl
passes t b.ReturnOf h k ending.Normal w = refl
passes t b.ReturnOf h k (ending.Returned v) w = refl
passes t b.ReturnOf h k (ending.Breaks n) w = refl
passes t b.ReturnOf h k (ending.Continues n) w = refl
passes t b.ThrowOf h k ending.Normal w = refl
passes t b.ThrowOf h k (ending.Returned v) w = refl
passes t b.ThrowOf h k (ending.Breaks n) w = refl
passes t b.ThrowOf h k (ending.Continues n) w = refl
passes t _ h k x w = absurd h

pub passed : (f g : StmtFrame) → f ≡ g → ForValue g → (t : Naming) (k : Then) (x : Ending) (w : World) → k (signal_of x) w ≡ after_stmt t f k (signal_of x) w
passed f g is h t k x w = passes t g h k x w ∙ ap (λ z. after_stmt t z k (signal_of x) w) (sym is)
