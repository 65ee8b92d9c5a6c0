-- What applications and programs are made of may cross threads. The kit's own search gives up at trees of statements, so each type
-- is taken by its fields, and each cycle of types by the fields that lie outside it.
use mathlib.Core.List.{[], ◌∷◌}
use denote.RattleType.{RattleType}
use denote.Param.Send.{IsSend, IsSync, sendable}
use denote.Param.SendFields.{declared_send, declared_sync, as_row_send, as_row_sync}
use denote.Builtin.{u8}
use denote.Struct.Field.{row_field, u32-field}
use denote.Struct.Tuple.{Tuple, tuple_type}
use Rattle.std.proofs.Crossing.{crosses}
use Rattle.php_tree.specs.contracts.expr.ChainOp as ChainOp
use Rattle.php_tree.specs.contracts.decl.Signature as Signature
use Rattle.php_tree.specs.contracts.decl.Param as Param
use Rattle.php_tree.specs.contracts.expr.Expr as Expr
use Rattle.php_tree.specs.contracts.decl.Hint as Hint
use Rattle.php_tree.specs.contracts.decl.PropertyDecl as PropertyDecl
use Rattle.php_tree.specs.contracts.decl.ClassConst as ClassConst
use Rattle.php_tree.specs.contracts.name.ClassName as ClassName
use Rattle.php_tree.specs.contracts.name.FunName as FunName
use Rattle.php_tree.specs.contracts.name.VarName as VarName
use Rattle.php_tree.specs.contracts.file.FunSpan as FunSpan
use Rattle.php_tree.specs.contracts.file.FileTree as FileTree
use Rattle.php_tree.proofs.name.VarName.TheSendSync as var_name
use Rattle.php_tree.proofs.file.FunSpan.TheSendSync as fun_span
use Rattle.app_load.specs.contracts.app.AppFile as AppFile
use Rattle.app_files.specs.contracts.app.App as App
use Rattle.app_files.specs.contracts.app.Program as Program
use Rattle.php_tree.specs.contracts.name.ConstName as ConstName
use Rattle.php_tree.specs.contracts.name.MemberName as MemberName
use Rattle.php_tree.specs.contracts.stmt.StaticVar as StaticVar
use Rattle.php_tree.specs.contracts.stmt.ConstDecl as ConstDecl
use Rattle.sqlite_items.specs.contracts.boxed.Boxed as Boxed
use Rattle.sqlite_items.specs.contracts.items.Items as Items
use Rattle.std.specs.contracts.option.Option as Option
use Rattle.php_tree.proofs.decl.Modifiers.TheSendSync as modifiers
use Rattle.php_tree.proofs.decl.ClassKind.TheSendSync as class_kind
use Rattle.php_tree.proofs.file.Span.TheSendSync as span
use Rattle.php_tree.specs.contracts.stmt.Stmt as Stmt
use Rattle.php_tree.proofs.name.ClassName.TheSendSync as class_name
use Rattle.php_tree.proofs.name.ConstName.TheSendSync as const_name
use Rattle.php_tree.proofs.name.FunName.TheSendSync as fun_name
use Rattle.php_tree.proofs.name.MemberName.TheSendSync as member_name
use Rattle.php_tree.proofs.expr.Access.TheSendSync as access
use Rattle.php_tree.proofs.expr.AssignOp.TheSendSync as assign_op
use Rattle.php_tree.proofs.expr.Branch.TheSendSync as branch
use Rattle.php_tree.proofs.expr.ChainOp.TheSendSync as chain_op
use Rattle.php_tree.proofs.expr.CompareOp.TheSendSync as compare_op
use Rattle.php_tree.proofs.expr.IncludeKind.TheSendSync as include_kind
use Rattle.php_tree.proofs.expr.Item.TheSendSync as item
use Rattle.php_tree.proofs.expr.QuoteKey.TheSendSync as quote_key
use Rattle.php_tree.proofs.expr.QuotePart.TheSendSync as quote_part
use Rattle.php_tree.proofs.expr.StepOp.TheSendSync as step_op
use Rattle.php_tree.proofs.expr.UnaryOp.TheSendSync as unary_op
use Rattle.php_tree.proofs.decl.Hint.TheSendSync as hint
use Rattle.sqlite_items.proofs.boxed.Boxed.TheSendSync as boxed
use Rattle.sqlite_items.proofs.items.Items.TheSendSync as items
use Rattle.std.proofs.option.Option.TheSendSync as option
use Rattle.std.proofs.string.String.TheSendSync as string
use Rattle.std.proofs.alloc.Global.TheSendSync as heap
use Rattle.php_tree.proofs.expr.Expr.TheLaws.TheKnot as expr_knot
use Rattle.php_tree.proofs.decl.Member.TheLaws.TheKnot as knot

pub ruleset parts = (class_name.the_send, class_name.the_sync, const_name.the_send, const_name.the_sync, fun_name.the_send, fun_name.the_sync, member_name.the_send, member_name.the_sync, access.the_send, access.the_sync, assign_op.the_send, assign_op.the_sync, branch.the_send, branch.the_sync, chain_op.the_send, chain_op.the_sync, compare_op.the_send, compare_op.the_sync, include_kind.the_send, include_kind.the_sync, item.the_send, item.the_sync, quote_key.the_send, quote_key.the_sync, quote_part.the_send, quote_part.the_sync, step_op.the_send, step_op.the_sync, unary_op.the_send, unary_op.the_sync, hint.the_send, hint.the_sync, boxed.the_send, boxed.the_sync, items.the_send, items.the_sync, option.the_send, option.the_sync)

pair_send : (A B : RattleType) → IsSend A → IsSend B → IsSend (Tuple (A ∷ B ∷ []))
pair_send A B a b = declared_send (tuple_type (A ∷ B ∷ [])) (as_row_send (row_field A) a, (as_row_send (row_field B) b, tt))

pair_sync : (A B : RattleType) → IsSync A → IsSync B → IsSync (Tuple (A ∷ B ∷ []))
pair_sync A B a b = declared_sync (tuple_type (A ∷ B ∷ [])) (as_row_sync (row_field A) a, (as_row_sync (row_field B) b, tt))

pub expr_send : IsSend Expr.the_row
expr_send =
    as_row_send Expr.the_field
    (expr_knot.send-Expr
    (search (sendable, crosses, parts) depth 20) (search (sendable, crosses, parts) depth 20)
    (search (sendable, crosses, parts) depth 20) (λ h x. items.the_send _ (quote_part.the_send h x))
    (search (sendable, crosses, parts) depth 20) (λ h x. items.the_send _ (item.the_send h x)) (λ h x. boxed.the_send h x)
    (λ h x. items.the_send h x) (search (sendable, crosses, parts) depth 20) (search (sendable, crosses, parts) depth 20)
    (search (sendable, crosses, parts) depth 20) (λ h x. items.the_send _ (access.the_send h x))
    (λ h x. items.the_send (Tuple (ChainOp.the_row ∷ h ∷ [])) (pair_send ChainOp.the_row h chain_op.the_send x))
    (search (sendable, crosses, parts) depth 20) (λ h x. items.the_send _ (branch.the_send h x))
    (search (sendable, crosses, parts) depth 20) (search (sendable, crosses, parts) depth 20)
    (search (sendable, crosses, parts) depth 20) (search (sendable, crosses, parts) depth 20))

pub expr_sync : IsSync Expr.the_row
expr_sync =
    as_row_sync Expr.the_field
    (expr_knot.sync-Expr
    (search (sendable, crosses, parts) depth 20) (search (sendable, crosses, parts) depth 20)
    (search (sendable, crosses, parts) depth 20) (λ h x. items.the_sync _ (quote_part.the_sync h x))
    (search (sendable, crosses, parts) depth 20) (λ h x. items.the_sync _ (item.the_sync h x)) (λ h x. boxed.the_sync h x)
    (λ h x. items.the_sync h x) (search (sendable, crosses, parts) depth 20) (search (sendable, crosses, parts) depth 20)
    (search (sendable, crosses, parts) depth 20) (λ h x. items.the_sync _ (access.the_sync h x))
    (λ h x. items.the_sync (Tuple (ChainOp.the_row ∷ h ∷ [])) (pair_sync ChainOp.the_row h chain_op.the_sync x))
    (search (sendable, crosses, parts) depth 20) (λ h x. items.the_sync _ (branch.the_sync h x))
    (search (sendable, crosses, parts) depth 20) (search (sendable, crosses, parts) depth 20)
    (search (sendable, crosses, parts) depth 20) (search (sendable, crosses, parts) depth 20))

pub boxed_send : IsSend (Boxed.the_row Expr.the_row)
boxed_send = boxed.the_send Expr.the_row expr_send

pub param_send : IsSend Param.the_row
param_send = declared_send Param.the_type ((as_row_send (Option.the_field Hint.the_row) (option.the_field_send Hint.the_row hint.the_send)), ((search sendable), ((search sendable), ((as_row_send (Option.the_field (Boxed.the_row Expr.the_row)) (option.the_field_send (Boxed.the_row Expr.the_row) boxed_send)), ((search sendable), tt)))))

pub signature_send : IsSend Signature.the_row
signature_send = declared_send Signature.the_type (as_row_send FunName.the_field fun_name.the_field_send, ((as_row_send (row_field (Items.the_row Param.the_row)) (items.the_send Param.the_row param_send)), ((as_row_send (Option.the_field Hint.the_row) (option.the_field_send Hint.the_row hint.the_send)), ((search sendable), tt))))

pub property_send : IsSend PropertyDecl.the_row
property_send = declared_send PropertyDecl.the_type (as_row_send MemberName.the_field member_name.the_field_send, ((as_row_send (Option.the_field (Boxed.the_row Expr.the_row)) (option.the_field_send (Boxed.the_row Expr.the_row) boxed_send)), tt))

pub class_const_send : IsSend ClassConst.the_row
class_const_send = declared_send ClassConst.the_type (as_row_send MemberName.the_field member_name.the_field_send, ((as_row_send (row_field (Boxed.the_row Expr.the_row)) boxed_send), tt))

pub static_send : IsSend StaticVar.the_row
static_send = declared_send StaticVar.the_type ((search sendable), ((as_row_send (Option.the_field (Boxed.the_row Expr.the_row)) (option.the_field_send (Boxed.the_row Expr.the_row) boxed_send)), tt))

pub const_send : IsSend ConstDecl.the_row
const_send = declared_send ConstDecl.the_type (as_row_send ConstName.the_field const_name.the_field_send, ((as_row_send (row_field (Boxed.the_row Expr.the_row)) boxed_send), tt))

pub stmt_send : IsSend Stmt.the_row
stmt_send =
    as_row_send Stmt.the_field
    (knot.send-Stmt
    (items.the_send ClassConst.the_row class_const_send) (search sendable) modifiers.the_field_send
    (items.the_send PropertyDecl.the_row property_send) (λ h x. boxed.the_send h x)
    (boxed.the_send Signature.the_row signature_send) (items.the_send ClassName.the_row class_name.the_send)
    (λ h x. items.the_send h x) boxed_send (items.the_send u8 (search sendable)) (items.the_send Expr.the_row expr_send)
    (option.the_field_send u32-field.row (search sendable)) (search sendable)
    (option.the_field_send (Boxed.the_row Expr.the_row) boxed_send) (items.the_send u32-field.row (search sendable))
    (items.the_send StaticVar.the_row static_send) (items.the_send ConstDecl.the_row const_send)
    (option.the_field_send (Items.the_row u8) (items.the_send u8 (search sendable))) class_kind.the_field_send
    class_name.the_field_send (option.the_field_send ClassName.the_row class_name.the_send) fun_name.the_field_send
    (items.the_send Param.the_row param_send) (option.the_field_send Hint.the_row hint.the_send) span.the_field_send)

pub boxed_sync : IsSync (Boxed.the_row Expr.the_row)
boxed_sync = boxed.the_sync Expr.the_row expr_sync

pub param_sync : IsSync Param.the_row
param_sync = declared_sync Param.the_type ((as_row_sync (Option.the_field Hint.the_row) (option.the_field_sync Hint.the_row hint.the_sync)), ((search sendable), ((search sendable), ((as_row_sync (Option.the_field (Boxed.the_row Expr.the_row)) (option.the_field_sync (Boxed.the_row Expr.the_row) boxed_sync)), ((search sendable), tt)))))

pub signature_sync : IsSync Signature.the_row
signature_sync = declared_sync Signature.the_type (as_row_sync FunName.the_field fun_name.the_field_sync, ((as_row_sync (row_field (Items.the_row Param.the_row)) (items.the_sync Param.the_row param_sync)), ((as_row_sync (Option.the_field Hint.the_row) (option.the_field_sync Hint.the_row hint.the_sync)), ((search sendable), tt))))

pub property_sync : IsSync PropertyDecl.the_row
property_sync = declared_sync PropertyDecl.the_type (as_row_sync MemberName.the_field member_name.the_field_sync, ((as_row_sync (Option.the_field (Boxed.the_row Expr.the_row)) (option.the_field_sync (Boxed.the_row Expr.the_row) boxed_sync)), tt))

pub class_const_sync : IsSync ClassConst.the_row
class_const_sync = declared_sync ClassConst.the_type (as_row_sync MemberName.the_field member_name.the_field_sync, ((as_row_sync (row_field (Boxed.the_row Expr.the_row)) boxed_sync), tt))

pub static_sync : IsSync StaticVar.the_row
static_sync = declared_sync StaticVar.the_type ((search sendable), ((as_row_sync (Option.the_field (Boxed.the_row Expr.the_row)) (option.the_field_sync (Boxed.the_row Expr.the_row) boxed_sync)), tt))

pub const_sync : IsSync ConstDecl.the_row
const_sync = declared_sync ConstDecl.the_type (as_row_sync ConstName.the_field const_name.the_field_sync, ((as_row_sync (row_field (Boxed.the_row Expr.the_row)) boxed_sync), tt))

pub stmt_sync : IsSync Stmt.the_row
stmt_sync =
    as_row_sync Stmt.the_field
    (knot.sync-Stmt
    (items.the_sync ClassConst.the_row class_const_sync) (search sendable) modifiers.the_field_sync
    (items.the_sync PropertyDecl.the_row property_sync) (λ h x. boxed.the_sync h x)
    (boxed.the_sync Signature.the_row signature_sync) (items.the_sync ClassName.the_row class_name.the_sync)
    (λ h x. items.the_sync h x) boxed_sync (items.the_sync u8 (search sendable)) (items.the_sync Expr.the_row expr_sync)
    (option.the_field_sync u32-field.row (search sendable)) (search sendable)
    (option.the_field_sync (Boxed.the_row Expr.the_row) boxed_sync) (items.the_sync u32-field.row (search sendable))
    (items.the_sync StaticVar.the_row static_sync) (items.the_sync ConstDecl.the_row const_sync)
    (option.the_field_sync (Items.the_row u8) (items.the_sync u8 (search sendable))) class_kind.the_field_sync
    class_name.the_field_sync (option.the_field_sync ClassName.the_row class_name.the_sync) fun_name.the_field_sync
    (items.the_sync Param.the_row param_sync) (option.the_field_sync Hint.the_row hint.the_sync) span.the_field_sync)

pub tree_send : IsSend FileTree.the_row
tree_send = declared_send FileTree.the_type (as_row_send (row_field (Items.the_row Stmt.the_row)) (items.the_send Stmt.the_row stmt_send), (as_row_send (row_field (Items.the_row FunSpan.the_row)) (items.the_send FunSpan.the_row fun_span.the_send), (as_row_send (row_field (Items.the_row VarName.the_row)) (items.the_send VarName.the_row var_name.the_send), tt)))

pub file_send : IsSend AppFile.the_row
file_send = declared_send AppFile.the_type ((search (sendable, crosses, as_row_send, string.the_field_send, string.the_send, heap.the_send) depth 20), ((search (sendable, crosses, as_row_send) depth 20), (as_row_send (Option.the_field FileTree.the_row) (option.the_field_send FileTree.the_row tree_send), tt)))

pub tree_sync : IsSync FileTree.the_row
tree_sync = declared_sync FileTree.the_type (as_row_sync (row_field (Items.the_row Stmt.the_row)) (items.the_sync Stmt.the_row stmt_sync), (as_row_sync (row_field (Items.the_row FunSpan.the_row)) (items.the_sync FunSpan.the_row fun_span.the_sync), (as_row_sync (row_field (Items.the_row VarName.the_row)) (items.the_sync VarName.the_row var_name.the_sync), tt)))

pub file_sync : IsSync AppFile.the_row
file_sync = declared_sync AppFile.the_type ((search (sendable, crosses, as_row_sync, string.the_field_sync, string.the_sync, heap.the_sync) depth 20), ((search (sendable, crosses, as_row_sync) depth 20), (as_row_sync (Option.the_field FileTree.the_row) (option.the_field_sync FileTree.the_row tree_sync), tt)))

pub app_send : IsSend App.the_row
app_send = search (sendable, crosses, file_send, file_sync) depth 20

pub program_send : IsSend Program.the_row
program_send = search (sendable, crosses, file_send, file_sync) depth 20

pub app_sync : IsSync App.the_row
app_sync = search (sendable, crosses, file_send, file_sync) depth 20

pub program_sync : IsSync Program.the_row
program_sync = search (sendable, crosses, file_send, file_sync) depth 20
