use Rattle.std.proofs.Common.{◌∙◌, sym, ap}
use Rattle.request_map.specs.Routes.{static_at}
use Rattle.request_map.specs.declared.routes.Route.TheVariants.{Script, Static, NotFound}
use Rattle.role_copies.proofs.Walks.{route_of_copies}
use Rattle.role_copies.proofs.routing.route_at.Goals as goal

pub returns-in_ok-clone-in-Some : goal.returns-in_ok-clone-in-Some
returns-in_ok-clone-in-Some c =
    route_of_copies c.args.copies.now.programs.items c.args.copies.now.statics.items c.args.path.now (Script c.in_ok-clone-in-Some.field-0) c.files.result.now c.index.result.now
    c.args.copies.now.sound (c.files.ensures.files ∙ c.index.ensures) (c.in-Some.ensures.found, c.in_ok-clone-in-Some.ensures.cases ∙ c.in-Some.ensures.at)

pub returns-in-Some-static_at : goal.returns-in-Some-static_at
returns-in-Some-static_at c =
    route_of_copies c.args.copies.now.programs.items c.args.copies.now.statics.items c.args.path.now (Static c.in-Some-static_at.number) c.files.result.now c.index.result.now
    c.args.copies.now.sound (c.files.ensures.files ∙ c.index.ensures)
    (c.in-None.ensures.none, sym (ap (λ files. static_at files c.args.path.now) c.deref.ensures.value) ∙ sym c.static_at.ensures ∙ c.in-Some-static_at.is)

pub returns-in-None-static_at : goal.returns-in-None-static_at
returns-in-None-static_at c =
    route_of_copies c.args.copies.now.programs.items c.args.copies.now.statics.items c.args.path.now NotFound c.files.result.now c.index.result.now
    c.args.copies.now.sound (c.files.ensures.files ∙ c.index.ensures)
    (c.in-None.ensures.none, sym (ap (λ files. static_at files c.args.path.now) c.deref.ensures.value) ∙ sym c.static_at.ensures ∙ c.in-None-static_at.is)
