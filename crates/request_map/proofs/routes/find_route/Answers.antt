use Rattle.std.proofs.Common.{sym, ◌∙◌, string_bytes}
use Rattle.std.proofs.lemmas.Slice.Eq.{bytes_eq-Decides}
use Rattle.request_map.proofs.routes.find_route.Goals as goal

pub returns-in_ok-script-in-Some : goal.returns-in_ok-script-in-Some
returns-in_ok-script-in-Some c =
    (c.in-Some.ensures.found, c.in_ok-script-in-Some.ensures.cases ∙ (bytes_eq-Decides (string_bytes c.in-Some.script.now) c.args.path.now).0 c.in-Some.ensures.at)

pub returns-in-Some-find_static : goal.returns-in-Some-find_static
returns-in-Some-find_static c = (c.in-None.ensures.none, sym c.in-Some-find_static.ensures)

pub returns-in-None-find_static : goal.returns-in-None-find_static
returns-in-None-find_static c = (c.in-None.ensures.none, sym c.in-None-find_static.ensures)
