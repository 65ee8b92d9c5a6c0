-- What is read: the parts of the grammar, and the rules by which they are read, under the names that the table has for them.
pub use Rattle.php_grammar.specs.declared.part.Context.{Context}
pub use Rattle.php_grammar.specs.declared.part.Context.TheVariants.{InFull as in_full, InConst as in_const}
pub use Rattle.php_grammar.specs.declared.part.Level.{Level}
pub use Rattle.php_grammar.specs.declared.part.Level.TheVariants.{LowOr as low_or, LowXor as low_xor, LowAnd as low_and, Choice as choice, Coalescing as coalescing, Either as either, Both as both, Equality as equality, Order as order, Sum as sum, Product as product, Instance as instance}
pub use Rattle.php_grammar.specs.declared.part.Seen.{Seen}
pub use Rattle.php_grammar.specs.declared.part.Seen.TheVariants.{WordSeen as word_seen, VarSeen as var_seen, ThisSeen as this_seen, PlaceSeen as place_seen, OtherSeen as other_seen, PlaceMemberSeen as place_member_seen, OtherMemberSeen as other_member_seen, StaticMemberSeen as static_member_seen, ExitSeen as exit_seen, NewSeen as new_seen}
pub use Rattle.php_grammar.specs.declared.part.Loop.{Loop}
pub use Rattle.php_grammar.specs.declared.part.Loop.TheVariants.{OfWhile as of_while, OfFor as of_for, OfForeach as of_foreach}
pub use Rattle.php_grammar.specs.declared.part.Part.{Part}
pub use Rattle.php_grammar.specs.declared.part.Part.TheVariants.{File as file, Stmts as stmts, Stmt as stmt, IfBody as if_body, IfRest as if_rest, IfListedRest as if_listed_rest, LoopBody as loop_body, SwitchBody as switch_body, MaybeSemi as maybe_semi, Arms as arms, ArmSign as arm_sign, MaybeInt as maybe_int, MaybeExpr as maybe_expr, SecondVar as second_var, MoreVars as more_vars, AfterStatic as after_static, MoreStatic as more_static, MaybeDefault as maybe_default, MoreConsts as more_consts, MaybeText as maybe_text, FirstCatch as first_catch, MoreCatches as more_catches, MoreCaught as more_caught, Params as params, MoreParams as more_params, Param as param, MaybeAmp as maybe_amp, HintName as hint_name, MaybeHint as maybe_hint, Hint as hint, MaybeResult as maybe_result, PlainWord as plain_word, ClassName as class_name, ClassOrVar as class_or_var, MaybeParent as maybe_parent, MaybeInterfaces as maybe_interfaces, MaybeParents as maybe_parents, MoreNames as more_names, Members as members, MoreClassConsts as more_class_consts, MoreProperties as more_properties, AnyVar as any_var, Mods as mods, Member as member, MethodBody as method_body, AnyWord as any_word, PrintPart as print_part, NotPart as not_part, UnaryPart as unary_part, QuoteRest as quote_rest, ArrayPart as array_part, Prim as prim, AfterColons as after_colons, Tail as tail, IndexPart as index_part, AssignOnly as assign_only, ValueOrReference as value_or_reference, MemberPart as member_part, Args as args, MoreArgs as more_args, Items as items, ItemExpr as item_expr, ArrowValue as arrow_value, MoreItems as more_items, MorePlaces as more_places, Place as place, StepPlace as step_place, StaticPlace as static_place, PlaceTail as place_tail, ThisPlaceTail as this_place_tail, PlaceMemberPart as place_member_part, CNotPart as c_not_part, CUnaryPart as c_unary_part, CPrim as c_prim, CWordTail as c_word_tail, CMember as c_member, CArrayPart as c_array_part, BegunPrim as begun_prim, QuestionPart as question_part, CQuestionPart as c_question_part, Operators as operators, Level as level, Begun as begun}
pub use Rattle.php_grammar.specs.declared.part.Rule.{Rule}
pub use Rattle.php_grammar.specs.declared.part.Rule.TheVariants.{NoneOf as none_of, Whole as whole, SomeStmts as some_stmts, InlineText as inline_text, EchoTag as echo_tag, EchoWord as echo_word, EmptyStmt as empty_stmt, Block as block, IfStmt as if_stmt, WhileStmt as while_stmt, DoStmt as do_stmt, ForStmt as for_stmt, ForeachStmt as foreach_stmt, SwitchStmt as switch_stmt, JumpStmt as jump_stmt, ReturnStmt as return_stmt, GlobalStmt as global_stmt, StaticStmt as static_stmt, UnsetStmt as unset_stmt, ThrowStmt as throw_stmt, TryStmt as try_stmt, FunctionStmt as function_stmt, AbstractClass as abstract_class, FinalClass as final_class, PlainClass as plain_class, InterfaceStmt as interface_stmt, ConstStmt as const_stmt, RemovedStmt as removed_stmt, ExprStmt as expr_stmt, IfListed as if_listed, IfSingle as if_single, ElseIf as else_if, ElseSingle as else_single, ElseIfListed as else_if_listed, ElseListed as else_listed, EndIf as end_if, WhileListed as while_listed, ForListed as for_listed, ForeachListed as foreach_listed, BodySingle as body_single, SwitchBraced as switch_braced, SwitchListed as switch_listed, ASemi as a_semi, CaseArm as case_arm, DefaultArm as default_arm, ArmColon as arm_colon, ArmSemi as arm_semi, AnInt as an_int, AnExpr as an_expr, KeyThenValue as key_then_value, NextVar as next_var, StaticVars as static_vars, StaticExpr as static_expr, NextStatic as next_static, ADefault as a_default, NextConst as next_const, NextText as next_text, ACatch as a_catch, NextCaught as next_caught, SomeParams as some_params, NextParam as next_param, AParam as a_param, AnAmp as an_amp, OpenHint as open_hint, HintWord as hint_word, HintStatic as hint_static, HintArray as hint_array, PlainHintWord as plain_hint_word, PlainHintStatic as plain_hint_static, PlainHintArray as plain_hint_array, AResult as a_result, APlainWord as a_plain_word, AHintWord as a_hint_word, ClassWord as class_word, ClassHintWord as class_hint_word, ClassStatic as class_static, ClassArray as class_array, ClassVar as class_var, ClassThis as class_this, AParent as a_parent, TheInterfaces as the_interfaces, TheParents as the_parents, NextName as next_name, SomeMembers as some_members, ConstMember as const_member, NextClassConst as next_class_const, FunctionMember as function_member, PropertyMember as property_member, ThisMember as this_member, NextProperty as next_property, PlainVar as plain_var, ThisVar as this_var, VisibleMod as visible_mod, StaticMod as static_mod, AbstractMod as abstract_mod, FinalMod as final_mod, VarMod as var_mod, WithBody as with_body, WithoutBody as without_body, NamedWord as named_word, PrintExpr as print_expr, NoPrint as no_print, NotExpr as not_expr, NoNot as no_not, SignExpr as sign_expr, PrefixExpr as prefix_expr, StepBefore as step_before, NoUnary as no_unary, IntPrim as int_prim, TextPrim as text_prim, QuotePrim as quote_prim, EmbeddingPrim as embedding_prim, QuoteNext as quote_next, QuoteEnd as quote_end, VarPrim as var_prim, ThisPrim as this_prim, WordPrim as word_prim, HintWordPrim as hint_word_prim, StaticPrim as static_prim, ArrayPrim as array_prim, ArrayItems as array_items, ArrayName as array_name, BracketPrim as bracket_prim, ParenPrim as paren_prim, IssetPrim as isset_prim, EmptyPrim as empty_prim, ExitPrim as exit_prim, NewPrim as new_prim, ClonePrim as clone_prim, IncludePrim as include_prim, StaticProperty as static_property, StaticPropertyThis as static_property_this, ClassForm as class_form, StaticMember as static_member, OpenIndex as open_index, Arrow as arrow, CallArgs as call_args, ExitArgs as exit_args, Colons as colons, AssignVar as assign_var, AssignPlace as assign_place, AssignOp as assign_op, StepAfter as step_after, Appended as appended, AtIndexPlace as at_index_place, AtIndexOther as at_index_other, OnlyAssign as only_assign, OnlyAssignOp as only_assign_op, Reference as reference, AValue as a_value, PlaceMember as place_member, OtherMember as other_member, SomeArgs as some_args, NextArg as next_arg, SomeItems as some_items, ItemFull as item_full, ItemConst as item_const, Paired as paired, NextItem as next_item, NextPlace as next_place, VarPlace as var_place, ThisPlace as this_place, WordPlace as word_place, HintWordPlace as hint_word_place, StaticNamedPlace as static_named_place, ArrayNamedPlace as array_named_place, ThisStepPlace as this_step_place, VarStaticPlace as var_static_place, ThisStaticPlace as this_static_place, PlaceIndex as place_index, PlaceArrow as place_arrow, PlaceNamed as place_named, CNotExpr as c_not_expr, CNoNot as c_no_not, CSignExpr as c_sign_expr, CNoSign as c_no_sign, CInt as c_int, CText as c_text, CWord as c_word, CHintWord as c_hint_word, CStatic as c_static, CArray as c_array, CBracket as c_bracket, CColons as c_colons, CClassForm as c_class_form, CNamed as c_named, CArrayItems as c_array_items, CArrayName as c_array_name, BegunStatic as begun_static, OrStep as or_step, XorStep as xor_step, AndStep as and_step, Ternary as ternary, Coalesced as coalesced, EitherStep as either_step, BothStep as both_step, EqualityStep as equality_step, OrderStep as order_step, SignStep as sign_step, DotStep as dot_step, ProductStep as product_step, InstanceStep as instance_step, CTernary as c_ternary, CSignStep as c_sign_step, CDotStep as c_dot_step, CProductStep as c_product_step, ShortChoice as short_choice, FullChoice as full_choice, CShortChoice as c_short_choice, CFullChoice as c_full_choice}
pub use Rattle.php_grammar.specs.declared.part.Symbol.{Symbol}
pub use Rattle.php_grammar.specs.declared.part.Symbol.TheVariants.{Tok as tok, Sub as sub}
