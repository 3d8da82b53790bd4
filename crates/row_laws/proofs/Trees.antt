-- What the tape of each part of a tree does: by cases on the tree.
use Rattle.std.proofs.Common.{◌≡◌, ◌≢◌, ℕ, suc, Bool, true, false, if◌then◌else◌, List, [], ◌∷◌, ◌++◌, Option, None, Some, refl, sym, ◌∙◌, ap, subst, append_assoc}
use Rattle.std.specs.Prelude.{◌&&◌, All}
use Rattle.std.proofs.lemmas.List.Elements.{All-head, All-tail}
use Rattle.std.proofs.lemmas.List.{append-nil}
use Rattle.flow_graph.specs.declared.constraint.Constraint.{Constraint}
use Rattle.c_syntax.specs.declared.parts.Identifier.{Identifier}
use Rattle.tape_ops.specs.declared.op.Op.{Op}
use Rattle.tape_ops.specs.declared.specifier.TagKind.{TagKind}
use Rattle.tape_ops.specs.declared.specifier.TagKind.TheVariants as tags
use Rattle.tape_ops.specs.declared.statement.StmtOp.TheVariants as stmts
use Rattle.tape_ops.specs.declared.declarator.DeclrOp.TheVariants as declrs
use Rattle.c_tree.specs.Tree.{Expr, operation, cast, prefix, sizeof_value, sizeof_type, extension, index, call, dot, arrow, post, compound, name_use, number_use, char_use, text_use, paren, statement_expr, va_arg, va_start, va_copy, offset, Operator, comma, assign, cond, binary, SomeExpr, no_expr, some_expr, Exprs, no_exprs, more_exprs, SpecWords, no_words, more_words, SpecWord, storage, thread, inline_word, noreturn, qualifier, basic, struct_type, enum_type, typedef_name, attribute, SomeBody, no_body, some_body, StructItems, no_struct_items, more_struct_items, StructItem, member, member_semi, member_assert, MemDeclrs, no_mem_declrs, more_mem_declrs, MemDeclr, named, unnamed, SomeValue, no_value, some_value, EnumType, enum_of, no_enum_body, some_enum_body, Enumerators, no_enumerators, more_enumerators, Declr, pointer, declr_name, declr_paren, array, params, abs_pointer, abs_paren, abs_array, abs_params, SomeDeclr, no_declr, some_declr, SomeSize, no_size, some_size, ArraySize, size_value, size_star, Params, no_params, more_params, Init, init_value, init_braced, InitList, init_list, InitItems, no_init_items, more_init_items, Desigs, no_desigs, more_desigs, Desig, member_desig, index_desig, SomeInit, no_init, some_init, InitDeclrs, no_init_declrs, more_init_declrs, Declaration, declaration, Decl, decl_declaration, decl_assert, BlockItems, no_block_items, more_block_items, BlockItem, block_decl, block_stmt, Stmt, block, expr_stmt, attr_stmt, label, case_stmt, default_stmt, if_stmt, switch_stmt, while_stmt, do_stmt, for_stmt, goto_stmt, continue_stmt, break_stmt, return_stmt, asm_stmt, SomeElse, no_else, some_else, ForStart, start_declaration, start_value, complex_part, label_use, compat, choose, generic, Assocs, no_assocs, more_assocs, Assoc, typed_assoc, default_assoc, typeof_value, typeof_type, align, auto_word, identifiers, base_name, range_desig, old_desig, block_labels, case_range, goto_value}
use Rattle.c_tree.specs.declared.lexeme.Lexeme.{Lexeme}
use Rattle.c_tree.specs.WellFormed.{IsExpr, IsMiddle, IsSomeExpr, AreArguments, AreAssocs, IsAssoc, AreSteps, IsStep, AreDesigs, IsDesig, AreTypeWords, AreSpecWords, IsSpecWord, IsBody, AreStructItems, IsStructItem, AreMemDeclrs, IsMemDeclr, IsSomeValue, IsEnum, AreEnumerators, IsDeclr, IsSomeAbstract, IsSomeDirect, IsSomeDeclr, IsSize, IsArraySize, AreParams, IsInit, IsInitList, AreInitItems, IsSomeInit, AreInitDeclrs, IsDeclaration, IsDecl, AreBlockItems, IsBlockItem, IsStmt, IsOther, IsStart, has_auto, IsAutoDeclr, IsAutoWhere, is_named, lists_identifiers}
use Rattle.c_tree.specs.Addresses.{comes_by_pointer}
use Rattle.c_words.specs.declared.kinds.Punct.TheVariants as signs
use Rattle.tape_ops.specs.declared.op.Op.TheVariants as ops
use Rattle.tape_ops.specs.declared.expression.ExprOp.TheVariants as exprs
use Rattle.tape_ops.specs.declared.specifier.SpecOp.TheVariants as specs
use Rattle.c_tree.specs.Ends.{first_text, first_token, last_token}
use Rattle.c_tape.specs.Tests.{are_auto, is_void, tag_kind, declares_tag, is_name, is_end, says_none}
use Rattle.c_tape.specs.Tape.{stmt, declr, spec, tape_in, assocs_tape, assoc_tape, auto_declrs_tape, auto_init_tape, identifiers_tape, old_contents, old_declrs_tape, old_declaration_tape, old_declarations_tape, in_scope, specs_with, params_with, declared_init_tape, middle_tape, some_expr_tape, exprs_tape, dropped_tape, steps_tape, step_tape, words_tape, word_tape, struct_tape, struct_items_tape, struct_item_tape, members_tape, unnamed_tape, unnamed_word_tape, mem_declrs_tape, mem_declr_tape, some_value_tape, enum_tape, enumerators_tape, some_declr_tape, contents, some_contents, some_size_tape, size_tape, params_tape, init_tape, list_tape, init_items_tape, indices_tape, index_tape, some_init_tape, init_declrs_tape, declaration_tape, decl_tape, block_items_tape, block_item_tape, stmt_tape, some_else_tape, for_start_tape}
use Rattle.name_rules.specs.Spellings.{Named}
use Rattle.type_rules.specs.Tokens.{declared_name}
use Rattle.type_rules.specs.Tokens as rule_tokens
use Rattle.qual_types.specs.Skel.{Skel, root}
use Rattle.row_rules.specs.Vals.{value, own, left_of, is_ref}
use Rattle.row_rules.specs.Vals as vals
use Rattle.row_rules.specs.Annotations.{write_bounds}
use Rattle.name_rules.specs.Uses.{use_at}
use Rattle.resolve_laws.proofs.NameLaws.Agreeing.{same_name}
use Rattle.row_rules.specs.Worlds.{World, at, all_lattices, span}
use Rattle.row_rules.specs.Rows.{index_demand, picked, identified_kind, own_skeleton, RowKind, row_of_name, param_kind, row_at, returned, started, flowing, use_demand, formed_here, taken_fresh, literal_row, cast_demand}
use Rattle.constraint_rules.specs.Values.{val, pointer_to, candidate_of}
use Rattle.constraint_rules.specs.Demands.{demand_in, assocs_demand, assoc_demand, old_declrs_demand, old_declaration_demand, old_declarations_demand, old_declr_demand, type_of_name, zero_at, where_is, list_rule, demand, some_expr_demand, exprs_demand, words_demand, word_demand, some_body_demand, struct_items_demand, struct_item_demand, unnamed_word_demand, unnamed_demand, members_demand, mem_declrs_demand, mem_declr_demand, declr_demand, some_declr_demand, params_demand, init_demand, init_list_demand, init_items_demand, init_declrs_demand, some_init_demand, declaration_demand, decl_demand, block_items_demand, block_item_demand, stmt_demand, some_else_demand, for_start_demand}
use Rattle.constraint_rules.specs.Demands as demands
use Rattle.row_rules.specs.RowSteps.Rounds.{own_param, identified_param, Naming, Rounds, is_quiet, naming, with_round, entered, silenced}
use Rattle.row_rules.specs.RowSteps.State.{State, Operand, named_type}
use Rattle.row_rules.specs.RowSteps.Steps.{run, initialised_by}
use Rattle.row_rules.specs.RowSteps.OpRows.{naming_row}
use Rattle.row_laws.proofs.Goes.{Registers, run_append, started_from, Over, unless, Stacks, state, Runs, stay, op_runs, chain, giving, ending, Goes, as_is, nowhere, one, join, from, next, same, reaching, without, group_two, group_three}
use Rattle.row_laws.proofs.Stacks.{with_assoc, with_assocs, operand_of, with_expr, with_some_expr, with_middle, with_arguments, type_at_words, leaves, leaves_in, leaves_of, with_leaves, with_stmt, with_block_item, with_items, no_stmt_kept, none_kept, value_kept, declaring, token_in, token_in_some, token_of, declared_in, target_named}
use Rattle.row_laws.proofs.Idle.{either, pieces_idle, tag_idle, none_said}
use Rattle.row_laws.proofs.Rules.{leaf_row}
use Rattle.row_laws.proofs.Parts.{prefix_goes, index_goes, arrow_goes, generic_goes, compat_goes, control_goes, IsOwn, IsNamed, nth_naming, further_naming, own_skel_of, param_rows, middle_demand, operation_rows, operator_goes, stmt_expr_goes, call_goes, type_name_goes, literal_goes, braced_goes, scoped, body_goes, quietly_goes, sizeof_goes, offset_goes, param_round, number_behind, params_with_go}

va_arg_rows : (xs ys zs us : List Constraint) → (xs ++ (ys ++ zs)) ++ us ≡ xs ++ (ys ++ (zs ++ us))
va_arg_rows xs ys zs us =
    group_two xs (ys ++ zs) us ∙ ap (λ (rows : List Constraint). xs ++ rows) (group_two ys zs us)

-- what is given by the expressions of an offset, where it is not quiet

-- the constraints of an index among the steps of an offset, and none of a member
abbrev step_rows : World → Desig → List Constraint
step_rows w (member_desig before name) = []
step_rows w (index_desig opening e closing) = demand w e
step_rows w (range_desig opening e dots e2 closing) = []
step_rows w (old_desig name colon) = []

abbrev steps_rows : World → Desigs → List Constraint
steps_rows w no_desigs = []
steps_rows w (more_desigs d ds) = step_rows w d ++ steps_rows w ds

-- where a declaration is of the type of its initialiser, its declarators are one with an initialiser
auto_is : (ws : SpecWords) (ds : InitDeclrs) → are_auto ws ds ≡ true → IsAutoWhere (has_auto ws) ws ds
    → IsAutoDeclr ws ds
auto_is ws ds is where_auto =
    let has : IsAutoWhere true ws ds =
    subst (λ (b : Bool). IsAutoWhere b ws ds) (first_of (has_auto ws) _ is) where_auto in has
  where
    first_of : (a b : Bool) → (a && b) ≡ true → a ≡ true
    first_of true b e = refl
    first_of false b e = e

-- declarators of a declaration, where the row of a name is one by the name

-- the constraints of declarators, where the row of each is one by its name
abbrev declrs_rows : World → (Option Named → RowKind) → InitDeclrs → List Constraint
declrs_rows w row no_init_declrs = []
declrs_rows w row (more_init_declrs attrs d asm_label attrs2 init ds) =
    declr_demand w (row (declared_name d)) None d ++ (some_init_demand w (declared_name d) init ++ declrs_rows w row ds)

-- where each name has its own row, the constraints of declarators are those of the rules
plain_rows : (w : World) (ds : InitDeclrs) → declrs_rows w (λ it. row_of_name) ds ≡ init_declrs_demand w ds
plain_rows w no_init_declrs = refl
plain_rows w (more_init_declrs attrs d asm_label attrs2 init ds) =
    ap (λ (rows : List Constraint). declr_demand w row_of_name None d
    ++ (some_init_demand w (declared_name d) init ++ rows)) (plain_rows w ds)

-- where each name has the row of an identifier, the constraints are those of declarations behind a list of these
old_rows : (w : World) (f : Option Skel) (ds : InitDeclrs)
    → declrs_rows w (identified_kind w f) ds ≡ old_declrs_demand w f ds
old_rows w f no_init_declrs = refl
old_rows w f (more_init_declrs attrs d asm_label attrs2 init ds) =
    ap (λ (rows : List Constraint). declr_demand w (identified_kind w f (declared_name d)) None d
    ++ (some_init_demand w (declared_name d) init ++ rows)) (old_rows w f ds)

module _ (k : Over) where
  -- the row of this name, where there is one
  abbrev RowIs : Rounds → RowKind → Option Named → Type 0
  RowIs r row None = Unit {0}
  RowIs r row (Some it) = naming_row k.world (naming r) it.token ≡ row

  abbrev pub IsRow : Rounds → RowKind → Option Named → Type 0
  IsRow r row it = k.asked ≡ true → RowIs r row it

  row_of_all : (r : Rounds) (row : RowKind) (it : Option Named)
      → ((token : ℕ) → naming_row k.world (naming r) token ≡ row) → RowIs r row it
  row_of_all r row None is = tt
  row_of_all r row (Some it) is = is it.token

  -- statements

  pub named_row : (r : Rounds) → IsNamed k r → (it : Option Named) → IsRow r row_of_name it
  named_row r n it y = row_of_all r row_of_name it (λ token. ap (λ (by : Naming). naming_row k.world by token) (n y))

  in_own : (r : Rounds) → IsNamed k (entered r)
  in_own r y = refl

  unkept : (r : Rounds) (s : Stmt) → Goes k r (stmt_tape false s) as_is (with_stmt k false s) (stmt_demand k.world s)
      → Goes k r (stmt_tape false s) as_is as_is (stmt_demand k.world s)
  unkept r s p = reaching as_is p (no_stmt_kept k s)

  condition : {r : Rounds} {tape : List Op} {rows : List Constraint} (e : Expr) →
      Goes k r tape as_is (with_expr k e) rows → Goes k r (tape ++ stmt stmts.Pop) as_is as_is rows
  condition e p = without p (one [] (λ y c s. refl) (λ c s. refl))

  -- a statement in a scope of its own
  inner : (r : Rounds) (s : Stmt) →
      Goes k (entered r) (stmt_tape false s) as_is (with_stmt k false s) (stmt_demand k.world s)
      → Goes k r (in_scope (stmt_tape false s)) as_is as_is (stmt_demand k.world s)
  inner r s p = scoped k r (unkept (entered r) s p)

  -- parameters

  own_rows : (own : Bool) (d : Declr) (i token : ℕ)
      → naming_row k.world (nth_naming (own && is_name d) (token_in d) i) token ≡
      param_kind (own_skel_of k.world own (declared_name d)) (rule_tokens.is_bare d) i
  own_rows own d i token =
      param_rows k.world own (is_name d) (declared_name d) i token
      ∙ ap (λ (bare : Bool). param_kind (own_skel_of k.world own (declared_name d)) bare i) (same_name d)

  own_params : (r : Rounds) (own : Bool) (d : Declr) (declared : Option ℕ) (ps : Params) →
      Runs k (is_quiet r) Stacks (params_tape ps)
      (λ c s. state (param_round k r (own && is_name d) (token_in d) 0) c s)
      (λ c s. state (param_round k r (own && is_name d) (token_in d) (number_behind k r ps 0)) c s)
      (params_demand k.world (own_skel_of k.world own (declared_name d)) (rule_tokens.is_bare d) 0 ps)
      → Goes k r (params_with (own && is_name d) (says_none ps) (params_tape ps)) (declaring (token_in d) declared)
      (declaring (token_in d) declared)
      (params_demand k.world (own_skel_of k.world own (declared_name d)) (rule_tokens.is_bare d) 0 ps)
  own_params r own d declared ps p =
      params_with_go k r (own && is_name d) (token_in d) declared ps p
      (none_said k.world (own_skel_of k.world own (declared_name d)) (rule_tokens.is_bare d) 0 ps)

  other_params : (r : Rounds) (name declared : Option ℕ) (ps : Params) →
      Runs k (is_quiet r) Stacks (params_tape ps) (λ c s. state (param_round k r false name 0) c s)
      (λ c s. state (param_round k r false name (number_behind k r ps 0)) c s)
      (params_demand k.world None false 0 ps)
      → Goes k r (params_with false (says_none ps) (params_tape ps)) (declaring name declared)
      (declaring name declared) (params_demand k.world None false 0 ps)
  other_params r name declared ps p =
      params_with_go k r false name declared ps p (none_said k.world None false 0 ps)

  param_runs : (r : Rounds) (b : Bool) (name : Option ℕ) (i : ℕ) (ws : SpecWords) (d : SomeDeclr) (row : RowKind) →
      Goes k (param_round k r b name i) (words_tape false ws) as_is as_is (words_demand k.world ws)
      → Goes k (param_round k r b name i) (some_declr_tape d) (declaring None None)
      (declaring (token_in_some d) None) (some_declr_demand k.world row d)
      → Runs k (is_quiet r) Stacks (specs_with (words_tape false ws) ++ some_declr_tape d ++ declr declrs.Param)
      (λ c s. state (param_round k r b name i) c s) (λ c s. state (param_round k r b name (suc i)) c s)
      (words_demand k.world ws ++ some_declr_demand k.world row d)
  param_runs r b name i ws d row p q =
      giving (ending _
      (chain (join (without p (one [] (λ y c s. refl) (λ c s. refl))) q).runs (op_runs [] (λ y c s. refl)))
      (λ c s. ap (λ (it : Naming). state (with_round it (is_quiet r) r) c s) (further_naming b name i)))
      (λ y. append-nil (words_demand k.world ws ++ some_declr_demand k.world row d))

  -- what passes inside a member without a declarator

  unnamed_word_goes : (word : SpecWord) → (r : Rounds)
      → Goes k r (unnamed_word_tape word) as_is as_is (unnamed_word_demand k.world word)
  unnamed_word_goes (storage word) r = nowhere
  unnamed_word_goes (thread token) r = nowhere
  unnamed_word_goes (inline_word token) r = nowhere
  unnamed_word_goes (noreturn token) r = nowhere
  unnamed_word_goes (qualifier q) r = nowhere
  unnamed_word_goes (basic word) r = nowhere
  unnamed_word_goes (struct_type word attrs None body) r =
      one (formed_here k.world word.token) (λ y c s. refl) (λ c s. refl)
  unnamed_word_goes (struct_type word attrs (Some tag) body) r = nowhere
  unnamed_word_goes (enum_type e) r = nowhere
  unnamed_word_goes (typedef_name name) r = nowhere
  unnamed_word_goes (attribute attr) r = nowhere
  unnamed_word_goes (typeof_value keyword opening e closing) r = nowhere
  unnamed_word_goes (typeof_type word opening ws d closing) r = nowhere
  unnamed_word_goes (align attr) r = nowhere
  unnamed_word_goes (auto_word token) r = nowhere

  unnamed_goes : (ws : SpecWords) → (r : Rounds) → Goes k r (unnamed_tape ws) as_is as_is (unnamed_demand k.world ws)
  unnamed_goes no_words r = nowhere
  unnamed_goes (more_words word ws) r = next (unnamed_word_goes word r) (unnamed_goes ws r)

  -- what is known of a register behind an op that does not change it
  still : (xs : List Op) (op : Op) (st : State) (by : Skel) →
      (run k.world (run k.world st xs) (op ∷ [])).carried ≡ (run k.world st xs).carried →
      (run k.world st xs).carried ≡ by → (run k.world st (xs ++ op ∷ [])).carried ≡ by
  still xs op st by same is = ap (λ (it : State). it.carried) (run_append k.world xs (op ∷ []) st) ∙ (same ∙ is)

  -- an op that notes a pointer
  noted_by : {r : Rounds} {xs : List Op} {g : Stacks → Stacks} {rows : List Constraint} (op : Op) (c : Stacks)
      (s : Registers) (by : Skel) →
      Goes k r xs as_is g rows → ((s : Registers) → (run k.world (state r (g c) s) (op ∷ [])).carried ≡ by) →
      (run k.world (state r c s) (xs ++ op ∷ [])).carried ≡ by
  noted_by {r} {xs} {g} op c s by p is =
      ap (λ (it : State). it.carried) (run_append k.world xs (op ∷ []) (state r c s))
      ∙ (ap (λ (it : State). (run k.world it (op ∷ [])).carried) (p.runs.goes c s) ∙ is (p.runs.behind c s))

  -- the initialiser that gives its type to the name before it
  auto_init_goes : (e : Expr) (r : Rounds) → Goes k r (tape_in false false e) as_is (with_expr k e) (demand k.world e) →
      (equal semi : ℕ) (it : Option Named) (declared : Option ℕ) →
      Goes k r (auto_init_tape semi (some_init equal (init_value e))) (declaring (token_of it) declared)
      (declaring None (token_of it)) (some_init_demand k.world it (some_init equal (init_value e)))
  auto_init_goes e r p equal semi it declared =
      same (join (without (next {xs = declr declrs.AutoBegin} (one [] (λ y c s. refl) (λ c s. refl)) p)
      (one [] (λ y c s. refl) (λ c s. refl)))
      (one (demands.rule k.world (initialised_by k.world (token_of it)) (init_value e))
      (λ y c s. ap (unless (is_quiet r)) (leaf_row k r e (initialised_by k.world (token_of it)))) (λ c s. refl)))
      (ap (λ (t : Option Skel). init_demand k.world (init_value e) ++ demands.rule k.world t (init_value e))
      (target_named k.world it))

-- The trees are well formed: a type's name declares no name, which among parameters would be taken for one.
module _ (k : Over) (all : List Lexeme) where
  mutual
    pub expr_goes : (e : Expr) → IsExpr all e → (r : Rounds) → IsOwn k r → (called aims : Bool) →
        Goes k r (tape_in called aims e) as_is (with_expr k e) (demand_in k.world aims e)
    expr_goes (operation e op token e2) h r o called aims =
        same (join
        (next (next (expr_goes e h.0 r o false false) (middle_goes op h.3 r o)) (expr_goes e2 h.1 r o false false))
        (operator_goes k r e op token e2)) (operation_rows k.world aims e op token e2)
    expr_goes (cast opening ws d closing e) h r o called aims =
        same (join (next (type_name_goes k r ws (token_in_some d) (type_words_go ws h.1 r o)
        (abstract_goes d h.2 r o row_of_name None)) (expr_goes e h.3 r o false false))
        (one (cast_demand k.world (type_of_name k.world ws) (zero_at k.world e) (value (val k.world e))
        (own k.world opening) (where_is k.world (cast opening ws d closing e))) (λ y c s. refl) (λ c s. refl)))
        (group_three (words_demand k.world ws) (some_declr_demand k.world row_of_name d) (demand k.world e)
        (cast_demand k.world (type_of_name k.world ws) (zero_at k.world e) (value (val k.world e))
        (own k.world opening) (where_is k.world (cast opening ws d closing e))))
    expr_goes (prefix token p e) h r o called aims =
        prefix_goes k r token p e aims (expr_goes e h.0 r o false true) (λ is c s. carried_is e h.0 false is r o c s)
        (expr_goes e h.0 r o false false)
    expr_goes (sizeof_value word e) h r o called aims =
        sizeof_goes k r (operand_of k e) word.token (expr_goes e h.0 (silenced r) o false false)
    expr_goes (sizeof_type word opening ws d closing) h r o called aims =
        sizeof_goes k r (named_type (type_at_words k ws)) word.token (type_name_goes k (silenced r) ws (token_in_some d)
        (type_words_go ws h.1 (silenced r) o) (abstract_goes d h.2 (silenced r) o row_of_name None))
    expr_goes (extension keyword e) h r o called aims =
        without (expr_goes e h.0 r o false aims) (one [] (λ y c s. refl) (λ c s. refl))
    expr_goes (index e opening e2 closing) h r o called aims =
        same (join (next (expr_goes e h.0 r o false false) (expr_goes e2 h.1 r o false false))
        (index_goes k r e opening e2 closing aims))
        (group_two (demand k.world e) (demand k.world e2)
        (index_demand k.world (value (val k.world e)) (value (val k.world e2)) aims
        (where_is k.world (index e opening e2 closing))))
    expr_goes (call e opening es closing) h r o called aims =
        same (call_goes k r e opening es closing (next (expr_goes e h.0 r o true false) (exprs_go es h.1 r o)))
        (group_two (demand k.world e) (exprs_demand k.world es)
        (demands.arguments k.world (vals.contents (value (val k.world e))) 0 es))
    expr_goes (dot e token name) h r o called aims =
        without (expr_goes e h.0 r o false aims) (one [] (λ y c s. refl) (λ c s. refl))
    expr_goes (arrow e token name) h r o called aims =
        without (join (expr_goes e h.0 r o false false) (arrow_goes k r e token name aims))
        (one [] (λ y c s. refl) (λ c s. refl))
    expr_goes (post e token p) h r o called aims =
        join (expr_goes e h.0 r o false false)
        (one (write_bounds k.world (root (val k.world e).skel) (where_is k.world (post e token p))) (λ y c s. refl)
        (λ c s. refl))
    expr_goes (compound opening ws d closing list) h r o called aims =
        same (literal_goes k r (type_at_words k ws) opening list
        (type_name_goes k r ws (token_in_some d) (type_words_go ws h.1 r o)
        (abstract_goes d h.2 r o row_of_name None))
        (list_goes list h.3 r o))
        (group_two (words_demand k.world ws) (some_declr_demand k.world row_of_name d) (init_list_demand k.world list
        ++ (literal_row k.world opening (type_of_name k.world ws)
        ++ list_rule k.world (vals.contents (own k.world opening)) list)))
    expr_goes (name_use token name) h r o called aims =
        one (use_demand k.world token (use_at k.world.names.uses (at k.world token))) (λ y c s. refl) (λ c s. refl)
    expr_goes (number_use token) h r o called aims = one [] (λ y c s. refl) (λ c s. refl)
    expr_goes (char_use token) h r o called aims = one [] (λ y c s. refl) (λ c s. refl)
    expr_goes (text_use texts) h r o called aims =
        one (formed_here k.world (first_text texts)) (λ y c s. refl) (λ c s. refl)
    expr_goes (paren opening e closing) h r o called aims =
        without (expr_goes e h r o false aims) (one [] (λ y c s. refl) (λ c s. refl))
    expr_goes (statement_expr opening opening2 items closing closing2) h r o called aims =
        reaching _ (without (scoped k r (block_items_go items h.0 (entered r) o (in_own k r) true))
        (from _ (stmt_expr_goes k r _ opening)))
        (value_kept k opening items)
    expr_goes (va_arg keyword opening e separator ws d closing) h r o called aims =
        same (join
        (next (expr_goes e h.0 r o false false) (type_name_goes k r ws (token_in_some d) (type_words_go ws h.2 r o)
        (abstract_goes d h.3 r o row_of_name None)))
        (one (taken_fresh k.world keyword (type_of_name k.world ws) (value (val k.world e))
        (where_is k.world (va_arg keyword opening e separator ws d closing))) (λ y c s. refl) (λ c s. refl)))
        (va_arg_rows (demand k.world e) (words_demand k.world ws) (some_declr_demand k.world row_of_name d)
        (taken_fresh k.world keyword (type_of_name k.world ws) (value (val k.world e))
        (where_is k.world (va_arg keyword opening e separator ws d closing))))
    expr_goes (va_start keyword opening e separator e2 closing) h r o called aims =
        same (join (next (expr_goes e h.0 r o false false) (expr_goes e2 h.1 r o false false))
        (one (started k.world k.world.own (value (val k.world e))
        (where_is k.world (va_start keyword opening e separator e2 closing)))
        (λ y c s. ap (λ (it : Option Skel). unless (is_quiet r) (started k.world it (value (val k.world e))
        (where_is k.world (va_start keyword opening e separator e2 closing)))) (o y)) (λ c s. refl)))
        (group_two (demand k.world e) (demand k.world e2) (started k.world k.world.own (value (val k.world e))
        (where_is k.world (va_start keyword opening e separator e2 closing))))
    expr_goes (va_copy keyword opening e separator e2 closing) h r o called aims =
        same (join (next (expr_goes e h.0 r o false false) (expr_goes e2 h.1 r o false false))
        (one (flowing (zero_at k.world e2) (value (val k.world e2)) (value (val k.world e)) (all_lattices k.world)
        (where_is k.world (va_copy keyword opening e separator e2 closing))) (λ y c s. refl) (λ c s. refl)))
        (group_two (demand k.world e) (demand k.world e2) (flowing (zero_at k.world e2) (value (val k.world e2))
        (value (val k.world e)) (all_lattices k.world)
        (where_is k.world (va_copy keyword opening e separator e2 closing))))
    expr_goes (offset keyword opening ws d separator name steps closing) h r o called aims =
        offset_goes k r (type_at_words k ws) name keyword
        (type_name_goes k (silenced r) ws (token_in_some d) (type_words_go ws h.1 (silenced r) o)
        (abstract_goes d h.2 (silenced r) o row_of_name None)) (steps_go steps h.3 (silenced r) o)
    expr_goes (complex_part keyword e) h r o called aims =
        without (expr_goes e h.0 r o false aims) (one [] (λ y c s. refl) (λ c s. refl))
    expr_goes (label_use token name) h r o called aims = one (formed_here k.world token) (λ y c s. refl) (λ c s. refl)
    expr_goes (compat keyword opening ws d separator ws2 d2 closing) h r o called aims =
        compat_goes k r (type_at_words k ws) (type_at_words k ws2) keyword
        (type_name_goes k (silenced r) ws (token_in_some d) (type_words_go ws h.1 (silenced r) o)
        (abstract_goes d h.2 (silenced r) o row_of_name None))
        (type_name_goes k (silenced r) ws2 (token_in_some d2) (type_words_go ws2 h.4 (silenced r) o)
        (abstract_goes d2 h.5 (silenced r) o row_of_name None))
    expr_goes (choose keyword opening e separator e2 separator2 e3 closing) h r o called aims =
        same (join (next
        (next (quietly_goes k r e (expr_goes e h.0 (silenced r) o false false)) (expr_goes e2 h.1 r o false false))
        (expr_goes e3 h.2 r o false false))
        (one (picked k.world (left_of (candidate_of k.world e2 ∷ candidate_of k.world e3 ∷ [])) (own k.world keyword)
        (span k.world keyword keyword)) (λ y c s. refl) (λ c s. refl)))
        (group_two (demand k.world e2) (demand k.world e3)
        (picked k.world (left_of (candidate_of k.world e2 ∷ candidate_of k.world e3 ∷ [])) (own k.world keyword)
        (span k.world keyword keyword)))
    expr_goes (generic keyword opening e xs closing) h r o called aims =
        join (next (control_goes k r e (expr_goes e h.0 (silenced r) o false false)) (assocs_go xs h.3 r o))
        (generic_goes k r keyword opening e xs closing)

    -- behind an expression only addressed that led to its place by a pointer, that is the one that was noted
    carried_is : (e : Expr) → IsExpr all e → (within : Bool) → comes_by_pointer within e ≡ true → (r : Rounds)
        → IsOwn k r →
        (c : Stacks) (s : Registers) → (run k.world (state r c s) (tape_in false true e)).carried ≡ pointer_to k.world e
    carried_is (prefix token signs.Star e) h within is r o c s =
        noted_by k (ops.Expr (exprs.Prefix signs.Star token (last_token e) true)) c s (value (val k.world e))
        (expr_goes e h.0 r o false false) (λ s. refl)
    carried_is (index e opening e2 closing) h within is r o c s =
        noted_by k (ops.Expr (exprs.Index opening (first_token e) closing true)) c s
        (if is_ref (value (val k.world e)) then value (val k.world e) else value (val k.world e2))
        (next (expr_goes e h.0 r o false false) (expr_goes e2 h.1 r o false false)) (λ s. refl)
    carried_is (arrow e token name) h within is r o c s =
        still k (tape_in false false e ++ ops.Expr (exprs.Arrow token (first_token e) name.token true) ∷ [])
        (ops.Expr (exprs.Dot token name.token name.name)) (state r c s) (value (val k.world e)) refl
        (noted_by k (ops.Expr (exprs.Arrow token (first_token e) name.token true)) c s (value (val k.world e))
        (expr_goes e h.0 r o false false) (λ s. refl))
    carried_is (extension keyword e) h within is r o c s =
        still k (tape_in false true e) (ops.Expr (exprs.Ext keyword)) (state r c s) (pointer_to k.world e) refl
        (carried_is e h.0 within is r o c s)
    carried_is (complex_part keyword e) h within is r o c s =
        still k (tape_in false true e) (ops.Expr (exprs.Ext keyword)) (state r c s) (pointer_to k.world e) refl
        (carried_is e h.0 within is r o c s)
    carried_is (dot e token name) h within is r o c s =
        still k (tape_in false true e) (ops.Expr (exprs.Dot token name.token name.name)) (state r c s)
        (pointer_to k.world e) refl
        (carried_is e h.0 true is r o c s)
    carried_is (paren opening e closing) h within is r o c s =
        still k (tape_in false true e) (ops.Expr (exprs.Paren opening)) (state r c s) (pointer_to k.world e) refl
        (carried_is e h within is r o c s)
    carried_is e h within is r o c s = absurd cc

    assocs_go : (xs : Assocs) → AreAssocs all xs → (r : Rounds) → IsOwn k r →
        Goes k r (assocs_tape xs) as_is (with_assocs k xs) (assocs_demand k.world xs)
    assocs_go no_assocs h r o = nowhere
    assocs_go (more_assocs x xs) h r o = next (assoc_goes x h.0 r o) (assocs_go xs h.1 r o)

    assoc_goes : (x : Assoc) → IsAssoc all x → (r : Rounds) → IsOwn k r →
        Goes k r (assoc_tape x) as_is (with_assoc k x) (assoc_demand k.world x)
    assoc_goes (typed_assoc ws d colon e) h r o =
        same (next
        (type_name_goes k r ws (token_in_some d) (type_words_go ws h.1 r o) (abstract_goes d h.2 r o row_of_name None))
        (expr_goes e h.3 r o false false))
        (group_two (words_demand k.world ws) (some_declr_demand k.world row_of_name d) (demand k.world e))
    assoc_goes (default_assoc keyword colon e) h r o =
        next (one [] (λ y c s. refl) (λ c s. refl)) (expr_goes e h.0 r o false false)

    middle_goes : (op : Operator) → IsMiddle all op → (r : Rounds) → IsOwn k r →
        Goes k r (middle_tape op) as_is (with_middle k op) (middle_demand k.world op)
    middle_goes comma h r o = nowhere
    middle_goes (assign p) h r o = nowhere
    middle_goes (cond middle colon) h r o = some_expr_goes middle h r o
    middle_goes (binary p) h r o = nowhere

    some_expr_goes : (e : SomeExpr) → IsSomeExpr all e → (r : Rounds) → IsOwn k r →
        Goes k r (some_expr_tape e) as_is (with_some_expr k e) (some_expr_demand k.world e)
    some_expr_goes no_expr h r o = nowhere
    some_expr_goes (some_expr e) h r o = expr_goes e h r o false false

    exprs_go : (es : Exprs) → AreArguments all es → (r : Rounds) → IsOwn k r →
        Goes k r (exprs_tape es) as_is (with_arguments k es) (exprs_demand k.world es)
    exprs_go no_exprs h r o = nowhere
    exprs_go (more_exprs e es) h r o = next (expr_goes e h.0 r o false false) (exprs_go es h.2 r o)

    dropped_goes : (e : SomeExpr) → IsSomeExpr all e → (r : Rounds) → IsOwn k r →
        Goes k r (dropped_tape e) as_is as_is (some_expr_demand k.world e)
    dropped_goes no_expr h r o = nowhere
    dropped_goes (some_expr e) h r o = condition k e (expr_goes e h r o false false)

    steps_go : (ds : Desigs) → AreSteps all ds → (r : Rounds) → IsOwn k r →
        Goes k r (steps_tape ds) as_is as_is (steps_rows k.world ds)
    steps_go no_desigs h r o = nowhere
    steps_go (more_desigs d ds) h r o = join (step_goes d h.0 r o) (steps_go ds h.1 r o)

    step_goes : (d : Desig) → IsStep all d → (r : Rounds) → IsOwn k r →
        Goes k r (step_tape d) as_is as_is (step_rows k.world d)
    step_goes (member_desig before name) h r o = one [] (λ y c s. refl) (λ c s. refl)
    step_goes (index_desig opening e closing) h r o =
        without (expr_goes e h r o false false) (one [] (λ y c s. refl) (λ c s. refl))
    step_goes (range_desig opening e dots e2 closing) h r o = absurd h
    step_goes (old_desig name colon) h r o = absurd h

    -- the names of types, whose declarators declare no name

    type_words_go : (ws : SpecWords) → AreTypeWords all ws → (r : Rounds) → IsOwn k r →
        Goes k r (words_tape false ws) as_is as_is (words_demand k.world ws)
    type_words_go no_words h r o = nowhere
    type_words_go (more_words word ws) h r o = next (word_goes word h.0 r o false) (type_words_go ws h.2 r o)

    abstract_goes : (d : SomeDeclr) → IsSomeAbstract all d → (r : Rounds) → IsOwn k r
        → (row : RowKind) (declared : Option ℕ) →
        Goes k r (some_declr_tape d) (declaring None declared) (declaring (token_in_some d) declared)
        (some_declr_demand k.world row d)
    abstract_goes no_declr h r o row declared = nowhere
    abstract_goes (some_declr d) h r o row declared =
        without (bare_goes d h.0 h.1 r o row false declared) (from _ (pieces_idle k r d))

    some_bare_goes : (d : SomeDeclr) → IsSomeAbstract all d → (r : Rounds) → IsOwn k r
        → (row : RowKind) (declared : Option ℕ) →
        Goes k r (some_contents d) (declaring None declared) (declaring (token_in_some d) declared)
        (some_declr_demand k.world row d)
    some_bare_goes no_declr h r o row declared = nowhere
    some_bare_goes (some_declr d) h r o row declared = bare_goes d h.0 h.1 r o row false declared

    direct_bare_goes : (d : SomeDeclr) → IsSomeDirect all d → (r : Rounds) → IsOwn k r
        → (row : RowKind) (declared : Option ℕ) →
        Goes k r (some_contents d) (declaring None declared) (declaring (token_in_some d) declared)
        (some_declr_demand k.world row d)
    direct_bare_goes no_declr h r o row declared = nowhere
    direct_bare_goes (some_declr d) h r o row declared = bare_goes d h.0 h.1 r o row false declared

    bare_goes : (d : Declr) → IsDeclr all d → is_named d ≡ false → (r : Rounds) → IsOwn k r
        → (row : RowKind) (own : Bool)
        (declared : Option ℕ) →
        Goes k r (contents own d) (declaring None declared) (declaring (token_in d) declared)
        (declr_demand k.world row (own_skel_of k.world own (declared_name d)) d)
    bare_goes (abs_pointer star words d) h is r o row own declared = some_bare_goes d h.1 r o row declared
    bare_goes (abs_paren opening attrs d closing) h is r o row own declared = bare_goes d h.1 h.2 r o row own declared
    bare_goes (abs_array d opening words size closing) h is r o row own declared =
        without (direct_bare_goes d h.0 r o row declared) (from _ (some_size_goes size h.2 r o))
    bare_goes (abs_params d opening ps dots closing) h is r o row own declared =
        join (direct_bare_goes d h.0 r o row declared) (other_params k r (token_in_some d) declared ps
        (params_go ps h.1 r o false (token_in_some d) None false 0 (λ i token. refl)))
    bare_goes d h is r o row own declared = absurd cc

    -- specifiers

    pub words_go : (ws : SpecWords) → AreSpecWords all ws → (r : Rounds) → IsOwn k r → (alone : Bool) →
        Goes k r (words_tape alone ws) as_is as_is (words_demand k.world ws)
    words_go no_words h r o alone = nowhere
    words_go (more_words word ws) h r o alone = next (word_goes word h.0 r o alone) (words_go ws h.1 r o alone)

    word_goes : (word : SpecWord) → IsSpecWord all word → (r : Rounds) → IsOwn k r → (alone : Bool) →
        Goes k r (word_tape alone word) as_is as_is (word_demand k.world word)
    word_goes (storage word) h r o alone = one [] (λ y c s. refl) (λ c s. refl)
    word_goes (thread token) h r o alone = nowhere
    word_goes (inline_word token) h r o alone = one [] (λ y c s. refl) (λ c s. refl)
    word_goes (noreturn token) h r o alone = nowhere
    word_goes (qualifier q) h r o alone = one [] (λ y c s. refl) (λ c s. refl)
    word_goes (basic word) h r o alone =
        either k r (is_void word.keyword) (λ e. one [] (λ y c s. refl) (λ c s. refl)) (λ e. nowhere)
    word_goes (struct_type word attrs tag body) h r o alone =
        struct_goes body h.3 r o alone (tag_kind word.keyword) word.token tag
    word_goes (enum_type e) h r o alone = enum_goes e h r o
    word_goes (typedef_name name) h r o alone = one [] (λ y c s. refl) (λ c s. refl)
    word_goes (attribute attr) h r o alone = nowhere
    word_goes (typeof_value keyword opening e closing) h r o alone =
        quietly_goes k r e (without (next {xs = spec specs.PartBegin} (one [] (λ y c s. refl) (λ c s. refl))
        (expr_goes e h (silenced r) o false false)) (one [] (λ y c s. refl) (λ c s. refl)))
    word_goes (typeof_type word opening ws d closing) h r o alone =
        without (next {xs = spec specs.PartBegin} (one [] (λ y c s. refl) (λ c s. refl))
        (type_name_goes k r ws (token_in_some d) (type_words_go ws h.2 r o) (abstract_goes d h.3 r o row_of_name None)))
        (one [] (λ y c s. refl) (λ c s. refl))
    word_goes (align attr) h r o alone = nowhere
    word_goes (auto_word token) h r o alone = nowhere

    struct_goes : (body : SomeBody) → IsBody all body → (r : Rounds) → IsOwn k r
        → (alone : Bool) (kind : TagKind) (keyword : ℕ)
        (tag : Option Identifier) →
        Goes k r (struct_tape alone kind keyword tag body) as_is as_is (some_body_demand k.world body)
    struct_goes no_body h r o alone kind keyword tag = tag_idle k r alone kind tag
    struct_goes (some_body opening items closing) h r o alone kind keyword tag =
        body_goes k r kind keyword tag (struct_items_go items h (entered r) o (in_own k r))

    struct_items_go : (items : StructItems) → AreStructItems all items → (r : Rounds) → IsOwn k r → IsNamed k r →
        Goes k r (struct_items_tape items) as_is as_is (struct_items_demand k.world items)
    struct_items_go no_struct_items h r o n = nowhere
    struct_items_go (more_struct_items item items) h r o n =
        next (struct_item_goes item h.0 r o n) (struct_items_go items h.1 r o n)

    struct_item_goes : (item : StructItem) → IsStructItem all item → (r : Rounds) → IsOwn k r → IsNamed k r →
        Goes k r (struct_item_tape item) as_is as_is (struct_item_demand k.world item)
    struct_item_goes (member exts ws ds semi) h r o n =
        without
        (join (without (words_go ws h.1 r o false) (one [] (λ y c s. refl) (λ c s. refl))) (members_go ds h.4 r o n ws))
        (one [] (λ y c s. refl) (λ c s. refl))
    struct_item_goes (member_semi semi) h r o n = nowhere
    struct_item_goes (member_assert it) h r o n = nowhere

    members_go : (ds : MemDeclrs) → AreMemDeclrs all ds → (r : Rounds) → IsOwn k r → IsNamed k r → (ws : SpecWords) →
        Goes k r (members_tape ws ds) (declaring None None) (declaring None None) (members_demand k.world ws ds)
    members_go no_mem_declrs h r o n ws = from (declaring None None) (unnamed_goes k ws r)
    members_go (more_mem_declrs attrs d ds) h r o n ws = join (mem_declr_goes d h.1 r o n) (mem_declrs_go ds h.2 r o n)

    mem_declrs_go : (ds : MemDeclrs) → AreMemDeclrs all ds → (r : Rounds) → IsOwn k r → IsNamed k r →
        Goes k r (mem_declrs_tape ds) (declaring None None) (declaring None None) (mem_declrs_demand k.world ds)
    mem_declrs_go no_mem_declrs h r o n = nowhere
    mem_declrs_go (more_mem_declrs attrs d ds) h r o n = join (mem_declr_goes d h.1 r o n) (mem_declrs_go ds h.2 r o n)

    mem_declr_goes : (d : MemDeclr) → IsMemDeclr all d → (r : Rounds) → IsOwn k r → IsNamed k r →
        Goes k r (mem_declr_tape d) (declaring None None) (declaring None None) (mem_declr_demand k.world d)
    mem_declr_goes (named d width attrs) h r o n =
        without (without (without (contents_go d h.0 r o row_of_name (named_row k r n (declared_name d)) false None)
        (from _ (pieces_idle k r d))) (one [] (λ y c s. refl) (λ c s. refl)))
        (from _ (some_value_goes width h.2 r o))
    mem_declr_goes (unnamed colon e attrs) h r o n =
        from (declaring None None) (quietly_goes k r e (expr_goes e h.0 (silenced r) o false false))

    some_value_goes : (it : SomeValue) → IsSomeValue all it → (r : Rounds) → IsOwn k r
        → Goes k r (some_value_tape it) as_is as_is []
    some_value_goes no_value h r o = nowhere
    some_value_goes (some_value token e) h r o = quietly_goes k r e (expr_goes e h.0 (silenced r) o false false)

    enum_goes : (e : EnumType) → IsEnum all e → (r : Rounds) → IsOwn k r → Goes k r (enum_tape e) as_is as_is []
    enum_goes (enum_of keyword attrs tag no_enum_body) h r o = tag_idle k r false tags.Enum tag
    enum_goes (enum_of keyword attrs tag (some_enum_body opening es last closing)) h r o =
        body_goes k r tags.Enum keyword tag (enumerators_go es h.2.1 (entered r) o)

    enumerators_go : (es : Enumerators) → AreEnumerators all es → (r : Rounds) → IsOwn k r
        → Goes k r (enumerators_tape es) as_is as_is []
    enumerators_go no_enumerators h r o = nowhere
    enumerators_go (more_enumerators name attrs value es) h r o =
        next (without (some_value_goes value h.1 r o) (one [] (λ y c s. refl) (λ c s. refl)))
        (enumerators_go es h.2 r o)

    -- declarators

    pub contents_go : (d : Declr) → IsDeclr all d → (r : Rounds) → IsOwn k r → (row : RowKind)
        → IsRow k r row (declared_name d) →
        (own : Bool) (declared : Option ℕ) →
        Goes k r (contents own d) (declaring None declared) (declaring (token_in d) declared)
        (declr_demand k.world row (own_skel_of k.world own (declared_name d)) d)
    contents_go (pointer star words d) h r o row is own declared = contents_go d h.1 r o row is own declared
    contents_go (declr_name token it) h r o row is own declared =
        one (row_at k.world row token)
        (λ y c s. ap (λ (it : RowKind). unless (is_quiet r) (row_at k.world it token)) (is y)) (λ c s. refl)
    contents_go (declr_paren opening attrs d closing) h r o row is own declared =
        contents_go d h.1 r o row is own declared
    contents_go (array d opening words size closing) h r o row is own declared =
        without (contents_go d h.0 r o row is own declared) (from _ (some_size_goes size h.4 r o))
    contents_go (params d opening ps dots closing) h r o row is own declared =
        join (contents_go d h.0 r o row is own declared) (own_params k r own d declared ps
        (params_go ps h.3 r o (own && is_name d) (token_in d) (own_skel_of k.world own (declared_name d))
        (rule_tokens.is_bare d) 0 (own_rows k own d)))
    contents_go (abs_pointer star words d) h r o row is own declared = some_bare_goes d h.1 r o row declared
    contents_go (abs_paren opening attrs d closing) h r o row is own declared = bare_goes d h.1 h.2 r o row own declared
    contents_go (abs_array d opening words size closing) h r o row is own declared =
        without (direct_bare_goes d h.0 r o row declared) (from _ (some_size_goes size h.2 r o))
    contents_go (abs_params d opening ps dots closing) h r o row is own declared =
        join (direct_bare_goes d h.0 r o row declared) (other_params k r (token_in_some d) declared ps
        (params_go ps h.1 r o false (token_in_some d) None false 0 (λ i token. refl)))
    contents_go (identifiers d opening names closing) h r o row is own declared =
        record {
          runs = giving (chain (chain (contents_go d h.0 r o row is own declared).runs (op_runs [] (λ y c s. refl)))
              (op_runs [] (λ y c s. refl)))
              (λ y. append-nil (declr_demand k.world row (own_skel_of k.world own (declared_name d)) d ++ [])
              ∙ append-nil (declr_demand k.world row (own_skel_of k.world own (declared_name d)) d));
        }
    contents_go (base_name token) h r o row is own declared = nowhere

    some_declr_goes : (d : SomeDeclr) → IsSomeDeclr all d → (r : Rounds) → IsOwn k r → (row : RowKind) →
        IsRow k r row (rule_tokens.some_declared_name d) → (declared : Option ℕ) →
        Goes k r (some_declr_tape d) (declaring None declared) (declaring (token_in_some d) declared)
        (some_declr_demand k.world row d)
    some_declr_goes no_declr h r o row is declared = nowhere
    some_declr_goes (some_declr d) h r o row is declared =
        without (contents_go d h r o row is false declared) (from _ (pieces_idle k r d))

    pub some_size_goes : (size : SomeSize) → IsSize all size → (r : Rounds) → IsOwn k r
        → Goes k r (some_size_tape size) as_is as_is []
    some_size_goes no_size h r o = nowhere
    some_size_goes (some_size size) h r o = size_goes size h r o

    size_goes : (size : ArraySize) → IsArraySize all size → (r : Rounds) → IsOwn k r
        → Goes k r (size_tape size) as_is as_is []
    size_goes (size_value e) h r o = quietly_goes k r e (expr_goes e h.0 (silenced r) o false false)
    size_goes (size_star token) h r o = nowhere

    pub params_go : (ps : Params) → AreParams all ps → (r : Rounds) → IsOwn k r
        → (b : Bool) (name : Option ℕ) (own : Option Skel)
        (bare : Bool) (i : ℕ) → ((j token : ℕ) → naming_row k.world (nth_naming b name j) token ≡ param_kind own bare j)
        → Runs k (is_quiet r) Stacks (params_tape ps) (λ c s. state (param_round k r b name i) c s)
        (λ c s. state (param_round k r b name (number_behind k r ps i)) c s) (params_demand k.world own bare i ps)
    params_go no_params h r o b name own bare i rows = stay
    params_go (more_params ws d attrs ps) h r o b name own bare i rows =
        giving (chain (param_runs k r b name i ws d (param_kind own bare i)
        (words_go ws h.1 (param_round k r b name i) o false)
        (some_declr_goes d h.3 (param_round k r b name i) o (param_kind own bare i)
        (λ y. row_of_all k (param_round k r b name i) (param_kind own bare i) (rule_tokens.some_declared_name d)
        (rows i)) None))
        (params_go ps h.6 r o b name own bare (suc i) rows))
        (λ y. group_two (words_demand k.world ws) (some_declr_demand k.world (param_kind own bare i) d)
        (params_demand k.world own bare (suc i) ps))

    -- initialisers

    init_goes : (i : Init) → IsInit all i → (r : Rounds) → IsOwn k r →
        Goes k r (init_tape i) as_is (with_leaves (leaves k i)) (init_demand k.world i)
    init_goes (init_value e) h r o = expr_goes e h.0 r o false false
    init_goes (init_braced list) h r o = list_goes list h r o

    list_goes : (list : InitList) → IsInitList all list → (r : Rounds) → IsOwn k r →
        Goes k r (list_tape list) as_is (with_leaves (leaves_in k list)) (init_list_demand k.world list)
    list_goes (init_list opening items last closing) h r o = init_items_go items h.0 r o

    init_items_go : (items : InitItems) → AreInitItems all items → (r : Rounds) → IsOwn k r →
        Goes k r (init_items_tape items) as_is (with_leaves (leaves_of k items)) (init_items_demand k.world items)
    init_items_go no_init_items h r o = nowhere
    init_items_go (more_init_items ds equal i items) h r o =
        reaching _ (next (next (indices_go ds h.0 r o) (init_goes i h.2 r o)) (init_items_go items h.3 r o))
        (λ c. ap (λ (operands : List Operand). record c { operands = operands })
        (sym (append_assoc (leaves_of k items) (leaves k i) c.operands)))

    indices_go : (ds : Desigs) → AreDesigs all ds → (r : Rounds) → IsOwn k r → Goes k r (indices_tape ds) as_is as_is []
    indices_go no_desigs h r o = nowhere
    indices_go (more_desigs d ds) h r o = next (index_tape_goes d h.0 r o) (indices_go ds h.1 r o)

    index_tape_goes : (d : Desig) → IsDesig all d → (r : Rounds) → IsOwn k r → Goes k r (index_tape d) as_is as_is []
    index_tape_goes (member_desig before name) h r o = nowhere
    index_tape_goes (index_desig opening e closing) h r o =
        quietly_goes k r e (expr_goes e h.0 (silenced r) o false false)
    index_tape_goes (range_desig opening e dots e2 closing) h r o =
        next (quietly_goes k r e (expr_goes e h.0 (silenced r) o false false))
        (quietly_goes k r e2 (expr_goes e2 h.2 (silenced r) o false false))
    index_tape_goes (old_desig name colon) h r o = nowhere

    some_init_goes : (i : SomeInit) → IsSomeInit all i → (r : Rounds) → IsOwn k r → (it : Option Named) →
        Goes k r (some_init_tape i) (declaring None (token_of it)) (declaring None (token_of it))
        (some_init_demand k.world it i)
    some_init_goes no_init h r o it = nowhere
    some_init_goes (some_init equal i) h r o it =
        same (declared_init_goes i h r o (token_of it))
        (ap (λ (t : Option Skel). init_demand k.world i ++ demands.rule k.world t i) (target_named k.world it))

    declared_init_goes : (i : Init) → IsInit all i → (r : Rounds) → IsOwn k r → (declared : Option ℕ) →
        Goes k r (declared_init_tape i) (declaring None declared) (declaring None declared)
        (init_demand k.world i ++ demands.rule k.world (initialised_by k.world declared) i)
    declared_init_goes (init_value e) h r o declared =
        join (from (declaring None declared) (expr_goes e h.0 r o false false))
        (one (demands.rule k.world (initialised_by k.world declared) (init_value e))
        (λ y c s. ap (unless (is_quiet r)) (leaf_row k r e (initialised_by k.world declared))) (λ c s. refl))
    declared_init_goes (init_braced list) h r o declared = braced_goes k r declared list (list_goes list h r o)

    -- declarations

    init_declrs_go : (ds : InitDeclrs) → AreInitDeclrs all ds → (r : Rounds) → IsOwn k r → IsNamed k r
        → (declared : Option ℕ) →
        Goes k r (init_declrs_tape ds) (declaring None declared) (declaring None (declared_in ds declared))
        (init_declrs_demand k.world ds)
    init_declrs_go no_init_declrs h r o n declared = nowhere
    init_declrs_go (more_init_declrs attrs d asm_label attrs2 i ds) h r o n declared =
        same (join
        (join (without (without (contents_go d h.1 r o row_of_name (named_row k r n (declared_name d)) false declared)
        (from _ (pieces_idle k r d))) (one [] (λ y c s. refl) (λ c s. refl)))
        (some_init_goes i h.5 r o (declared_name d))) (init_declrs_go ds h.6 r o n (token_in d)))
        (group_two (declr_demand k.world row_of_name None d) (some_init_demand k.world (declared_name d) i)
        (init_declrs_demand k.world ds))

    -- the name that has the type of its initialiser, with its row
    auto_goes : (semi : ℕ) (ws : SpecWords) (ds : InitDeclrs) → IsAutoDeclr ws ds → AreInitDeclrs all ds → (r : Rounds)
        → IsOwn k r →
        (row : Option Named → RowKind) → ((it : Option Named) → IsRow k r (row it) it) → (declared : Option ℕ) →
        Goes k r (auto_declrs_tape semi ds) (declaring None declared) (declaring None (declared_in ds declared))
        (declrs_rows k.world row ds)
    auto_goes semi ws (more_init_declrs attrs (declr_name token name) None attrs2
        (some_init equal (init_value e)) no_init_declrs) it h r o
        row is declared =
        same (join (join (one (row_at k.world (row (Some (record { token = token; name = name }))) token)
        (λ y c s. ap (λ (it : RowKind). unless (is_quiet r) (row_at k.world it token))
        (is (Some (record { token = token; name = name })) y)) (λ c s. refl))
        (auto_init_goes k e r (expr_goes e h.5.0 r o false false) equal semi
        (Some (record { token = token; name = name })) declared)) nowhere)
        (group_two (row_at k.world (row (Some (record { token = token; name = name }))) token)
        (some_init_demand k.world (Some (record { token = token; name = name })) (some_init equal (init_value e))) [])
    auto_goes semi ws
        (more_init_declrs attrs (base_name token) None attrs2 (some_init equal (init_value e)) no_init_declrs) it h r o
        row is declared =
        same (join (join nowhere
        (auto_init_goes k e r (expr_goes e h.5.0 r o false false) equal semi None declared)) nowhere)
        (group_two [] (some_init_demand k.world None (some_init equal (init_value e))) [])
    auto_goes semi ws _ it h r o row is declared = absurd it

    declaration_goes : (d : Declaration) → IsDeclaration all d → (r : Rounds) → IsOwn k r → IsNamed k r →
        Goes k r (declaration_tape d) as_is as_is (declaration_demand k.world d)
    declaration_goes (declaration exts ws ds semi) h r o n =
        without (join (without (words_go ws h.1 r o (declares_tag ws ds)) (one [] (λ y c s. refl) (λ c s. refl)))
        (either k r (are_auto ws ds)
        (λ is. same (auto_goes semi ws ds (auto_is ws ds is h.4) h.3 r o (λ it. row_of_name) (named_row k r n) None)
        (plain_rows k.world ds))
        (λ is. init_declrs_go ds h.3 r o n None))) (one [] (λ y c s. refl) (λ c s. refl))

    pub decl_goes : (d : Decl) → IsDecl all d → (r : Rounds) → IsOwn k r → IsNamed k r →
        Goes k r (decl_tape d) as_is as_is (decl_demand k.world d)
    decl_goes (decl_declaration d) h r o n = declaration_goes d h r o n
    decl_goes (decl_assert it) h r o n = nowhere

    -- statements

    pub block_items_go : (items : BlockItems) → AreBlockItems all items → (r : Rounds) → IsOwn k r → IsNamed k r
        → (kept : Bool) →
        Goes k r (block_items_tape kept items) as_is (with_items k kept items) (block_items_demand k.world items)
    block_items_go no_block_items h r o n kept = nowhere
    block_items_go (more_block_items item items) h r o n kept =
        next (block_item_goes item h.0 r o n (kept && is_end items)) (block_items_go items h.1 r o n kept)

    block_item_goes : (item : BlockItem) → IsBlockItem all item → (r : Rounds) → IsOwn k r → IsNamed k r
        → (kept : Bool) →
        Goes k r (block_item_tape kept item) as_is (with_block_item k kept item) (block_item_demand k.world item)
    block_item_goes (block_decl d) h r o n kept = decl_goes d h r o n
    block_item_goes (block_stmt s) h r o n kept = stmt_goes s h r o n kept
    block_item_goes (block_labels keyword names semi) h r o n kept = nowhere

    stmt_goes : (s : Stmt) → IsStmt all s → (r : Rounds) → IsOwn k r → IsNamed k r → (kept : Bool) →
        Goes k r (stmt_tape kept s) as_is (with_stmt k kept s) (stmt_demand k.world s)
    stmt_goes (block opening items closing) h r o n kept =
        scoped k r (reaching as_is (block_items_go items h.0 (entered r) o (in_own k r) false) (none_kept k items))
    stmt_goes (expr_stmt e semi) h r o n true = some_expr_goes e h r o
    stmt_goes (expr_stmt e semi) h r o n false = dropped_goes e h r o
    stmt_goes (attr_stmt attrs semi) h r o n kept = nowhere
    stmt_goes (label name colon attrs s) h r o n kept = unkept k r s (stmt_goes s h.1 r o n false)
    stmt_goes (case_stmt keyword e colon s) h r o n kept =
        next (quietly_goes k r e (expr_goes e h.0 (silenced r) o false false))
        (unkept k r s (stmt_goes s h.2 r o n false))
    stmt_goes (default_stmt keyword colon s) h r o n kept = unkept k r s (stmt_goes s h r o n false)
    stmt_goes (if_stmt keyword opening e closing s other) h r o n kept =
        same (scoped k r (next (next (condition k e (expr_goes e h.0 (entered r) o false false))
        (inner k (entered r) s (stmt_goes s h.1 (entered (entered r)) o (in_own k (entered r)) false)))
        (some_else_goes s other h.2 (entered r) o)))
        (group_two (demand k.world e) (stmt_demand k.world s) (some_else_demand k.world other))
    stmt_goes (switch_stmt keyword opening e closing s) h r o n kept =
        scoped k r (next (condition k e (expr_goes e h.0 (entered r) o false false))
        (inner k (entered r) s (stmt_goes s h.1 (entered (entered r)) o (in_own k (entered r)) false)))
    stmt_goes (while_stmt keyword opening e closing s) h r o n kept =
        scoped k r (next (condition k e (expr_goes e h.0 (entered r) o false false))
        (inner k (entered r) s (stmt_goes s h.1 (entered (entered r)) o (in_own k (entered r)) false)))
    stmt_goes (do_stmt keyword s keyword2 opening e closing semi) h r o n kept =
        scoped k r
        (without (next (inner k (entered r) s (stmt_goes s h.0 (entered (entered r)) o (in_own k (entered r)) false))
        (expr_goes e h.1 (entered r) o false false)) (one [] (λ y c s. refl) (λ c s. refl)))
    stmt_goes (for_stmt keyword opening start e semi e2 closing s) h r o n kept =
        same (scoped k r (next (next (next (for_start_goes start h.0 (entered r) o (in_own k r))
        (dropped_goes e h.1 (entered r) o)) (dropped_goes e2 h.2 (entered r) o))
        (inner k (entered r) s (stmt_goes s h.3 (entered (entered r)) o (in_own k (entered r)) false))))
        (group_three (for_start_demand k.world start) (some_expr_demand k.world e) (some_expr_demand k.world e2)
        (stmt_demand k.world s))
    stmt_goes (goto_stmt keyword name semi) h r o n kept = nowhere
    stmt_goes (continue_stmt keyword semi) h r o n kept = nowhere
    stmt_goes (break_stmt keyword semi) h r o n kept = nowhere
    stmt_goes (return_stmt keyword no_expr semi) h r o n kept = nowhere
    stmt_goes (return_stmt keyword (some_expr e) semi) h r o n kept =
        join (expr_goes e h r o false false)
        (one (returned k.world k.world.own (zero_at k.world e) (value (val k.world e)) (span k.world keyword semi))
        (λ y c s. ap (λ (it : Option Skel). unless (is_quiet r) (returned k.world it (zero_at k.world e)
        (value (val k.world e)) (span k.world keyword semi))) (o y)) (λ c s. refl))
    stmt_goes (asm_stmt keyword words group semi) h r o n kept = nowhere
    stmt_goes (case_range keyword e dots e2 colon s) h r o n kept =
        next (next (quietly_goes k r e (expr_goes e h.0 (silenced r) o false false))
        (quietly_goes k r e2 (expr_goes e2 h.2 (silenced r) o false false)))
        (unkept k r s (stmt_goes s h.4 r o n false))
    stmt_goes (goto_value keyword star e semi) h r o n kept = condition k e (expr_goes e h r o false false)

    some_else_goes : (before : Stmt) (other : SomeElse) → IsOther all before other → (r : Rounds) → IsOwn k r →
        Goes k r (some_else_tape other) as_is as_is (some_else_demand k.world other)
    some_else_goes before no_else h r o = nowhere
    some_else_goes before (some_else keyword s) h r o = inner k r s (stmt_goes s h.0 (entered r) o (in_own k r) false)

    for_start_goes : (start : ForStart) → IsStart all start → (r : Rounds) → IsOwn k r → IsNamed k r →
        Goes k r (for_start_tape start) as_is as_is (for_start_demand k.world start)
    for_start_goes (start_declaration d) h r o n = declaration_goes d h r o n
    for_start_goes (start_value e semi) h r o n = dropped_goes e h r o

  -- declarations behind a list of identifiers

  old_declrs_go : (ds : InitDeclrs) → AreInitDeclrs all ds → (r : Rounds) → IsOwn k r → (f : Option Skel) →
      ((it : Option Named) → IsRow k r (identified_kind k.world f it) it) → (declared : Option ℕ) →
      Goes k r (old_declrs_tape ds) (declaring None declared) (declaring None (declared_in ds declared))
      (old_declrs_demand k.world f ds)
  old_declrs_go no_init_declrs h r o f is declared = nowhere
  old_declrs_go (more_init_declrs attrs d asm_label attrs2 i ds) h r o f is declared =
      same (join (join (without (without (contents_go d h.1 r o (identified_kind k.world f (declared_name d))
      (is (declared_name d)) false declared) (from _ (pieces_idle k r d))) (one [] (λ y c s. refl) (λ c s. refl)))
      (some_init_goes i h.5 r o (declared_name d))) (old_declrs_go ds h.6 r o f is (token_in d)))
      (group_two (declr_demand k.world (identified_kind k.world f (declared_name d)) None d)
      (some_init_demand k.world (declared_name d) i) (old_declrs_demand k.world f ds))

  old_declaration_goes : (d : Declaration) → IsDeclaration all d → (r : Rounds) → IsOwn k r → (f : Option Skel) →
      ((it : Option Named) → IsRow k r (identified_kind k.world f it) it) →
      Goes k r (old_declaration_tape d) as_is as_is (old_declaration_demand k.world f d)
  old_declaration_goes (declaration exts ws ds semi) h r o f is =
      without (join (without (words_go ws h.1 r o (declares_tag ws ds)) (one [] (λ y c s. refl) (λ c s. refl)))
      (either k r (are_auto ws ds)
      (λ auto. same (auto_goes semi ws ds (auto_is ws ds auto h.4) h.3 r o (identified_kind k.world f) is None)
      (old_rows k.world f ds))
      (λ auto. old_declrs_go ds h.3 r o f is None))) (one [] (λ y c s. refl) (λ c s. refl))

  old_declarations_go : (ds : List Declaration) → All (IsDeclaration all) ds → (r : Rounds) → IsOwn k r
      → (f : Option Skel) →
      ((it : Option Named) → IsRow k r (identified_kind k.world f it) it) →
      Goes k r (old_declarations_tape ds) as_is as_is (old_declarations_demand k.world f ds)
  old_declarations_go [] h r o f is = nowhere
  old_declarations_go (d ∷ ds) h r o f is =
      next (old_declaration_goes d (All-head (IsDeclaration all) d ds h) r o f is)
      (old_declarations_go ds (All-tail (IsDeclaration all) d ds h) r o f is)

  -- the round of a list of identifiers, behind the first of these
  abbrev listed_round : Rounds → Option ℕ → Rounds
  listed_round r f = with_round (identified_param f) (is_quiet r) r

  identified_run : (names : List Identifier) (r : Rounds) (f : Option ℕ) →
      Runs k (is_quiet r) Stacks (identifiers_tape names) (λ c s. state (listed_round r f) c s)
      (λ c s. state (listed_round r f) c s) []
  identified_run [] r f = stay
  identified_run (name ∷ names) r f = chain (op_runs [] (λ y c s. refl)) (identified_run names r f)

  identifiers_run : (names : List Identifier) → names ≢ [] → (r : Rounds) (f : Option ℕ) →
      Runs k (is_quiet r) Stacks (identifiers_tape names) (λ c s. state (with_round (own_param f 0) (is_quiet r) r) c s)
      (λ c s. state (listed_round r f) c s) []
  identifiers_run [] some r f = absurd (some refl)
  identifiers_run (name ∷ names) some r f = chain (op_runs [] (λ y c s. refl)) (identified_run names r f)

  -- what is said of a parameter by its identifier
  identified_is : (r : Rounds) (it : Option Named) (at : Option Named) →
      IsRow k (listed_round r (token_of it)) (identified_kind k.world (own_skeleton k.world it) at) at
  identified_is r it None y = tt
  identified_is r None (Some at) y = refl
  identified_is r (Some it) (Some at) y = refl

  -- a declarator with a list of identifiers
  pub old_contents_go : (ds : List Declaration) → All (IsDeclaration all) ds → (d : Declr) → IsDeclr all d →
      lists_identifiers d ≡ true → (r : Rounds) → IsOwn k r → IsNamed k r → (declared : Option ℕ) →
      Goes k r (old_contents ds d) (declaring None declared) (declaring (token_in d) declared)
      (old_declr_demand k.world (own_skeleton k.world (declared_name d)) ds d)
  old_contents_go ds hs (identifiers d opening names closing) h is r o n declared =
      record {
        runs = giving (chain (chain (chain (chain
            (contents_go d h.0 r o row_of_name (named_row k r n (declared_name d)) false declared).runs
            (op_runs [] (λ y c s. refl)))
            (started_from (declaring (token_in d) declared) (λ c s. s) (identifiers_run names h.2 r (token_in d))))
            (from (declaring (token_in d) declared) (old_declarations_go ds hs (listed_round r (token_in d)) o
            (own_skeleton k.world (declared_name d)) (identified_is r (declared_name d)))).runs)
            (op_runs [] (λ y c s. refl)))
            (λ y. append-nil ((((declr_demand k.world row_of_name None d) ++ []) ++ [])
            ++ old_declarations_demand k.world (own_skeleton k.world (declared_name d)) ds)
            ∙ ap (λ (rows : List Constraint). rows
            ++ old_declarations_demand k.world (own_skeleton k.world (declared_name d)) ds)
            (append-nil (declr_demand k.world row_of_name None d ++ [])
            ∙ append-nil (declr_demand k.world row_of_name None d)));
      }
  old_contents_go ds hs (pointer star words d) h is r o n declared = old_contents_go ds hs d h.1 is r o n declared
  old_contents_go ds hs (declr_paren opening attrs d closing) h is r o n declared =
      old_contents_go ds hs d h.1 is r o n declared
  old_contents_go ds hs (array d opening words size closing) h is r o n declared =
      without (old_contents_go ds hs d h.0 is r o n declared) (from _ (some_size_goes size h.4 r o))
  old_contents_go ds hs (params d opening ps dots closing) h is r o n declared =
      join (old_contents_go ds hs d h.0 is r o n declared) (other_params k r (token_in d) declared ps
      (params_go ps h.3 r o false (token_in d) None false 0 (λ i token. refl)))
  old_contents_go ds hs (declr_name token name) h is r o n declared = absurd cc
  old_contents_go ds hs (base_name token) h is r o n declared = absurd cc
  old_contents_go ds hs (abs_pointer star words d) h is r o n declared = absurd cc
  old_contents_go ds hs (abs_paren opening attrs d closing) h is r o n declared = absurd cc
  old_contents_go ds hs (abs_array d opening words size closing) h is r o n declared = absurd cc
  old_contents_go ds hs (abs_params d opening ps dots closing) h is r o n declared = absurd cc
