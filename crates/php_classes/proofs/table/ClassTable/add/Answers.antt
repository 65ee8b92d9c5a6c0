use Rattle.std.proofs.Common.{sym, ◌∙◌, ap, arith}
use Rattle.php_classes.specs.Ancestors.{lineage_of}
use Rattle.php_classes.proofs.Kept.{length_lineages, kept_more, unfinished, pushed}
use Rattle.php_classes.proofs.table.ClassTable.add.Goals as goal

pub lineage_of-requires : goal.lineage_of-requires
lineage_of-requires c = let n = length_lineages c.self.inside.classes.items c.self.inside.lineages.items c.self.invariant in search (arith, n)

pub invariant_of-self-else-is_err : goal.invariant_of-self-else-is_err
invariant_of-self-else-is_err c =
    kept_more c.self.inside.classes.items c.self.inside.lineages.items c.args.class c.in_ok-lineage.lineage c.args.self.now c.push.new.self.items c.push-2.new.self.items
    c.self.invariant c.self.view_is (omega arith) c.requires (c.in_ok-lineage.ensures ∙ ap (λ ls. lineage_of ls c.args.class) c.as_slice.ensures.value) c.in_ok-push.ensures.items
    (pushed c.push-2.result c.push-2.new.self.items _ c.self.inside.lineages.items c.push-2.ensures.items (sym c.if-is_err.ensures.value))

pub returns-then-is_unfinished-clause-refused : goal.returns-then-is_unfinished-clause-refused
returns-then-is_unfinished-clause-refused c _ =
    unfinished c.self.inside.classes.items c.self.inside.lineages.items c.args.class c.in_ok-lineage.lineage c.args.self.now c.push.new.self.items _
    c.self.invariant c.self.view_is (c.in_ok-lineage.ensures ∙ ap (λ ls. lineage_of ls c.args.class) c.as_slice.ensures.value) c.in_ok-push.ensures.items (cc)

pub returns-clause-whole : goal.returns-clause-whole
returns-clause-whole c =
    unfinished c.self.inside.classes.items c.self.inside.lineages.items c.args.class c.in_ok-lineage.lineage c.args.self.now c.push.new.self.items _
    c.self.invariant c.self.view_is (c.in_ok-lineage.ensures ∙ ap (λ ls. lineage_of ls c.args.class) c.as_slice.ensures.value) c.in_ok-push.ensures.items (cc)
