-- Where skeletons begin along the tape of each part of a tree: by cases on the tree.
use Rattle.std.proofs.Common.{◌≡◌, ℕ, Bool, true, false, List, [], ◌∷◌, ◌++◌, Option, None, Some, refl, sym, ◌∙◌, ap, subst, append_assoc}
use Rattle.std.specs.Prelude.{not, ◌&&◌, if◌then◌else◌, All}
use Rattle.std.proofs.lemmas.List.{append-nil}
use Rattle.std.proofs.lemmas.List.Elements.{All-head, All-tail}
use Rattle.c_words.specs.declared.kinds.Keyword.TheVariants as keywords
use Rattle.c_syntax.specs.declared.parts.Identifier.{Identifier}
use Rattle.tape_ops.specs.declared.op.Op.{Op}
use Rattle.tape_ops.specs.declared.op.Op.TheVariants as ops
use Rattle.tape_ops.specs.declared.expression.ExprOp.TheVariants as exprs
use Rattle.tape_ops.specs.declared.form.FormOp.TheVariants as forms
use Rattle.tape_ops.specs.declared.initialiser.InitOp.TheVariants as inits
use Rattle.tape_ops.specs.declared.specifier.TagKind.{TagKind}
use Rattle.tape_ops.specs.declared.specifier.TagKind.TheVariants as tags
use Rattle.tape_ops.specs.declared.specifier.SpecOp.TheVariants as specs
use Rattle.tape_ops.specs.declared.declarator.DeclrOp.TheVariants as declrs
use Rattle.tape_ops.specs.declared.statement.StmtOp.TheVariants as stmts
use Rattle.c_tree.specs.Tree.{Expr, operation, cast, prefix, sizeof_value, sizeof_type, extension, index, call, dot, arrow, post, compound, name_use, number_use, char_use, text_use, paren, statement_expr, va_arg, va_start, va_copy, offset, Operator, comma, assign, cond, binary, SomeExpr, no_expr, some_expr, Exprs, no_exprs, more_exprs, SpecWords, no_words, more_words, SpecWord, storage, thread, inline_word, noreturn, qualifier, basic, struct_type, enum_type, typedef_name, attribute, SomeBody, no_body, some_body, StructItems, no_struct_items, more_struct_items, StructItem, member, member_semi, member_assert, MemDeclrs, no_mem_declrs, more_mem_declrs, MemDeclr, named, unnamed, SomeValue, no_value, some_value, EnumType, enum_of, no_enum_body, some_enum_body, Enumerators, no_enumerators, more_enumerators, Declr, pointer, declr_name, declr_paren, array, params, abs_pointer, abs_paren, abs_array, abs_params, SomeDeclr, no_declr, some_declr, SomeSize, no_size, some_size, ArraySize, size_value, size_star, Params, no_params, more_params, Init, init_value, init_braced, InitList, init_list, InitItems, no_init_items, more_init_items, Desigs, no_desigs, more_desigs, Desig, member_desig, index_desig, SomeInit, no_init, some_init, InitDeclrs, no_init_declrs, more_init_declrs, Declaration, declaration, Decl, decl_declaration, decl_assert, BlockItems, no_block_items, more_block_items, BlockItem, block_decl, block_stmt, Stmt, block, expr_stmt, attr_stmt, label, case_stmt, default_stmt, if_stmt, switch_stmt, while_stmt, do_stmt, for_stmt, goto_stmt, continue_stmt, break_stmt, return_stmt, asm_stmt, SomeElse, no_else, some_else, ForStart, start_declaration, start_value, complex_part, label_use, compat, choose, generic, Assocs, no_assocs, more_assocs, Assoc, typed_assoc, default_assoc, typeof_value, typeof_type, align, auto_word, identifiers, base_name, range_desig, old_desig, block_labels, case_range, goto_value}
use Rattle.c_tree.specs.declared.lexeme.Lexeme.{Lexeme}
use Rattle.c_tree.specs.WellFormed.{IsExpr, IsMiddle, IsSomeExpr, AreArguments, AreAssocs, IsAssoc, AreSteps, AreDesigs, IsDesig, AreTypeWords, AreSpecWords, IsSpecWord, IsBody, AreStructItems, IsStructItem, AreMemDeclrs, IsMemDeclr, IsSomeValue, IsEnum, AreEnumerators, IsDeclr, IsSomeAbstract, IsSomeDirect, IsSomeDeclr, IsSize, IsArraySize, AreParams, IsInit, IsInitList, AreInitItems, IsSomeInit, AreInitDeclrs, IsDeclaration, IsDecl, AreBlockItems, IsBlockItem, IsStmt, IsOther, IsStart, has_auto, IsAutoDeclr, IsAutoWhere, is_named, lists_identifiers}
use Rattle.c_tree.specs.Firsts.{qual_token, first_word}
use Rattle.c_tree.specs.Ends.{first_token, last_token, first_text}
use Rattle.c_tape.specs.Tests.{are_auto, is_void, tag_kind, declares_tag, is_name, says_none, is_end}
use Rattle.c_tape.specs.Tests as tape_tests
use Rattle.c_tape.specs.Tape.{tape_in, assocs_tape, assoc_tape, auto_declrs_tape, auto_init_tape, identifiers_tape, old_contents, old_declrs_tape, old_declaration_tape, old_declarations_tape, count, params_with, params_tape, some_size_tape, middle_tape, some_expr_tape, exprs_tape, dropped_tape, steps_tape, words_tape, word_tape, struct_tape, struct_items_tape, struct_item_tape, members_tape, mem_declrs_tape, mem_declr_tape, some_value_tape, unnamed_tape, unnamed_word_tape, enum_tape, enumerators_tape, some_declr_tape, contents, some_contents, some_size_tape, size_tape, params_tape, init_tape, list_tape, init_items_tape, indices_tape, index_tape, some_init_tape, init_declrs_tape, declaration_tape, decl_tape, block_items_tape, block_item_tape, stmt_tape, some_else_tape, for_start_tape}
use Rattle.type_table.specs.Types.{base, void, pointer as pointer_type}
use Rattle.name_rules.specs.Spellings.{place}
use Rattle.name_rules.specs.Uses.{use_at, text_type}
use Rattle.row_rules.specs.Starting.{Start, Around, Having, with_skeleton, without_skeleton, having_where, had_name, name_start, use_start, quiet, fresh, fresh_where}
use Rattle.row_rules.specs.RowSteps.Rounds.{other_param, with_round, is_quiet, params_naming}
use Rattle.row_rules.specs.RowSteps.Starting.{naming_has}
use Rattle.type_rules.specs.Tokens.{declared_name, is_bare}
use Rattle.name_rules.specs.ShapeSteps.State.{State}
use Rattle.resolve_laws.proofs.NameLaws.Agreeing.{same_name}
use Rattle.constraint_rules.specs.Starts.{assocs_starts, assoc_starts, old_declrs_starts, old_declaration_starts, old_declarations_starts, old_declr_starts, unnamed_start, unnamed_starts, ends_in_value, expr_starts, some_expr_starts, exprs_starts, words_starts, word_starts, some_body_starts, struct_items_starts, struct_item_starts, members_starts, mem_declrs_starts, mem_declr_starts, some_value_starts, enum_starts, enumerators_starts, declr_starts, some_declr_starts, some_size_starts, array_size_starts, params_starts, init_starts, init_list_starts, init_items_starts, desigs_starts, desig_starts, some_init_starts, init_declrs_starts, declaration_starts, decl_starts, block_items_starts, block_item_starts, stmt_starts, some_else_starts, for_start_starts}
use Rattle.row_laws.proofs.StartLaws.Found.{around_tape, Over, at, Finds, nothing, join, same, followed, without, one, idle, silent, of_three, of_four}
use Rattle.row_laws.proofs.StartLaws.Idle.{none_said, pieces_plain, tag_none, arguments_none, list_none, same_end}
use Rattle.row_laws.proofs.StartLaws.States.{declaring, token_of, contents_left}
use Rattle.row_laws.proofs.StartLaws.Parts.{control_finds, compat_finds, prefix_finds, choose_finds, generic_finds, in_list, identifiers_find, own_plain, own_joined, own_listed, listed, scoped, quietly_finds, sizeof_finds, offset_finds, body_finds, type_name_finds, middle_starts, operation_finds, cast_finds, va_arg_finds, literal_finds, FindsParams, no_param, one_param, params_grouped, params_with_find, own_of, OwnFinds}

-- the steps of an offset, where nothing is fresh
abbrev steps_starts : Around → Desigs → List Start
steps_starts a no_desigs = []
steps_starts a (more_desigs (member_desig before name) ds) = steps_starts a ds
steps_starts a (more_desigs (index_desig opening e closing) ds) = expr_starts a e ++ steps_starts a ds
steps_starts a (more_desigs (range_desig opening e dots e2 closing) ds) = []
steps_starts a (more_desigs (old_desig name colon) ds) = []

-- without the steps that no offset has
quiet_steps : (all : List Lexeme) (a : Around) (ds : Desigs) → AreSteps all ds
    → steps_starts (quiet a) ds ≡ desigs_starts a ds
quiet_steps all a no_desigs w = refl
quiet_steps all a (more_desigs (member_desig before name) ds) w = quiet_steps all a ds w.1
quiet_steps all a (more_desigs (index_desig opening e closing) ds) w =
    ap (λ (starts : List Start). expr_starts (quiet a) e ++ starts) (quiet_steps all a ds w.1)
quiet_steps all a (more_desigs (range_desig opening e dots e2 closing) ds) w = absurd w.0
quiet_steps all a (more_desigs (old_desig name colon) ds) w = absurd w.0

-- the names behind a list of identifiers are found like others
plain_starts : (a : Around) (ds : InitDeclrs) → old_declrs_starts a with_skeleton ds ≡ init_declrs_starts a ds
plain_starts a no_init_declrs = refl
plain_starts a (more_init_declrs attrs d asm_label attrs2 init ds) =
    ap (λ (starts : List Start). declr_starts a with_skeleton without_skeleton d ++ (some_init_starts a init ++ starts))
    (plain_starts a ds)

-- declarators whose type is that of an initialiser are one such declarator, as in a well-formed declaration
auto_is : (ws : SpecWords) (ds : InitDeclrs) → are_auto ws ds ≡ true → IsAutoWhere (has_auto ws) ws ds
    → IsAutoDeclr ws ds
auto_is ws ds is where_auto =
    let has : IsAutoWhere true ws ds =
    subst (λ (b : Bool). IsAutoWhere b ws ds) (first_of (has_auto ws) _ is) where_auto in has
  where
    first_of : (a b : Bool) → (a && b) ≡ true → a ≡ true
    first_of true b e = refl
    first_of false b e = e

-- the five groups of skeletons of a test of types, in the grouping of its tape
compat_groups : (xs ys zs us vs : List Start) → ((xs ++ ys) ++ (zs ++ us)) ++ vs ≡ xs ++ (ys ++ (zs ++ (us ++ vs)))
compat_groups xs ys zs us vs =
    append_assoc (xs ++ ys) (zs ++ us) vs
    ∙ (append_assoc xs ys ((zs ++ us) ++ vs)
    ∙ ap (λ (starts : List Start). xs ++ (ys ++ starts)) (append_assoc zs us vs))

-- in another grouping of tapes
grouped : {k : Over} {h : Having} {f : Around → List Start} (xs ys zs : List Op) → Finds k h (xs ++ (ys ++ zs)) f →
    Finds k h ((xs ++ ys) ++ zs) f
grouped {k} {h} {f} xs ys zs p = subst (λ (tape : List Op). Finds k h tape f) (sym (append_assoc xs ys zs)) p

own_grouped : {k : Over} {h : Having} {f : Around → List Start} {tape other : List Op} → OwnFinds k h tape f
    → tape ≡ other →
    OwnFinds k h other f
own_grouped {k} {h} {f} p e = subst (λ (tape : List Op). OwnFinds k h tape f) e p

-- a tape with parts between two ops is the one that is grouped from the left
listed_groups : (xs ys zs : List Op) (first last : Op) →
    xs ++ (first ∷ ((ys ++ zs) ++ last ∷ [])) ≡ (((xs ++ first ∷ []) ++ ys) ++ zs) ++ last ∷ []
listed_groups xs ys zs first last =
    sym (ap (λ (tape : List Op). tape ++ last ∷ []) (append_assoc (xs ++ first ∷ []) ys zs)
    ∙ (append_assoc (xs ++ first ∷ []) (ys ++ zs) (last ∷ []) ∙ append_assoc xs (first ∷ []) ((ys ++ zs) ++ last ∷ [])))

none_have : (bare : Bool) → having_where bare without_skeleton ≡ without_skeleton
none_have true = refl
none_have false = refl

-- what stands directly around the name of a function
abbrev own_params : Declr → Params → List Op
own_params d ps = params_with (is_name d) (says_none ps) (params_tape ps)

own_have : (k : Over) (d : Declr) (bare : Bool) (n : Option ℕ) (st : State) →
    naming_has k.spelling k.names (params_naming bare (declaring (token_of (declared_name d)) n st).declarations)
    ≡ having_where bare (own_of k d)
own_have k d true n st = refl
own_have k d false n st = refl

module _ (k : Over) where
  name_finds : (token name : ℕ) (h : Having) →
      Finds k h (ops.Declr (declrs.DeclName token name) ∷ []) (λ a. had_name h a token)
  name_finds token name h =
      one (ops.Declr (declrs.DeclName token name)) (λ a. had_name h a token)
      (λ st r e. ap (λ (has : Having). had_name has (at k r) token) e) (λ ds r. refl)

  -- members without a declarator

  unnamed_word_finds : (word : SpecWord) →
      Finds k with_skeleton (unnamed_word_tape word) (λ a. unnamed_start a word)
  unnamed_word_finds (storage word) = nothing
  unnamed_word_finds (thread token) = nothing
  unnamed_word_finds (inline_word token) = nothing
  unnamed_word_finds (noreturn token) = nothing
  unnamed_word_finds (qualifier q) = nothing
  unnamed_word_finds (basic word) = nothing
  unnamed_word_finds (struct_type word attrs None body) =
      one (ops.Spec (specs.UnnamedMember word.token)) (λ a. name_start a word.token) (λ st r e. refl) (λ ds r. refl)
  unnamed_word_finds (struct_type word attrs (Some tag) body) = nothing
  unnamed_word_finds (enum_type e) = nothing
  unnamed_word_finds (typedef_name name) = nothing
  unnamed_word_finds (attribute attr) = nothing
  unnamed_word_finds (typeof_value keyword opening e closing) = nothing
  unnamed_word_finds (typeof_type word opening ws d closing) = nothing
  unnamed_word_finds (align attr) = nothing
  unnamed_word_finds (auto_word token) = nothing

  unnamed_find : (ws : SpecWords) → Finds k with_skeleton (unnamed_tape ws) (λ a. unnamed_starts a ws)
  unnamed_find no_words = nothing
  unnamed_find (more_words word ws) = join (unnamed_word_finds word) (unnamed_find ws)

  either : {h : Having} {xs ys : List Op} {f : Around → List Start} (b : Bool) → (b ≡ true → Finds k h xs f) →
      (b ≡ false → Finds k h ys f) → Finds k h (if b then xs else ys) f
  either true p q = p refl
  either false p q = q refl

  void_finds : (says_void : Bool) → (h : Having) →
      Finds k h (if says_void then ops.Spec specs.Void ∷ [] else []) (λ a. [])
  void_finds true h = idle (ops.Spec specs.Void) (λ st r. refl) (λ ds r. refl)
  void_finds false h = nothing

  -- an empty list of parameters

  empty_list : (h : Having)
      → Finds k h (ops.Declr (declrs.ParamsBegin false) ∷ (ops.Declr declrs.ParamsEnd ∷ [])) (λ a. [])
  empty_list h =
      around_tape {within = without_skeleton} {tape = []} (ops.Declr (declrs.ParamsBegin false))
      (ops.Declr declrs.ParamsEnd)
      (λ r. with_round other_param (is_quiet r) r) (λ a. a) (λ st r. refl) (λ st r. refl) (λ r. refl) (λ r. refl)
      (λ st r. refl)
      (λ ds r. refl) nothing

  -- an initialiser that gives its type to a name

  auto_init_finds : (e : Expr) (h : Having) → Finds k h (tape_in false false e) (λ a. expr_starts a e)
      → (equal semi : ℕ) →
      Finds k h (auto_init_tape semi (some_init equal (init_value e)))
      (λ a. some_init_starts a (some_init equal (init_value e)))
  auto_init_finds e h p equal semi =
      without (ops.Init (inits.Value (first_token e) (last_token e)))
      (without (ops.Declr (declrs.AutoEnd semi))
      (join (idle (ops.Declr declrs.AutoBegin) (λ st r. refl) (λ ds r. refl)) p)
      (λ st r. refl) (λ ds r. refl)) (λ st r. refl) (λ ds r. refl)

  -- statements

  condition : {h : Having} {tape : List Op} {f : Around → List Start} → Finds k h tape f →
      Finds k h (tape ++ ops.Stmt stmts.Pop ∷ []) f
  condition p = without (ops.Stmt stmts.Pop) p (λ st r. refl) (λ ds r. refl)

-- The trees are well formed: a type's name declares no name, which among parameters would be taken for one.
module _ (k : Over) (all : List Lexeme) where
  mutual
    pub expr_finds : (e : Expr) → IsExpr all e → (h : Having) (called aims : Bool) →
        Finds k h (tape_in called aims e) (λ a. expr_starts a e)
    expr_finds (operation e op token e2) w h called aims =
        operation_finds k e op token e2 called aims (expr_finds e w.0 h false false) (middle_finds op w.3 h)
        (expr_finds e2 w.1 h false false)
    expr_finds (cast opening ws d closing e) w h called aims =
        cast_finds k (λ a. words_starts a ws) (λ a. some_declr_starts a with_skeleton d)
        (λ a. expr_starts a e) opening ws d e (type_name_finds (first_word ws) (type_words_find ws w.1 h)
        (abstract_finds d w.2 h with_skeleton)) (expr_finds e w.3 h false false)
    expr_finds (prefix token p e) w h called aims =
        prefix_finds k token p e aims (expr_finds e w.0 h false true) (expr_finds e w.0 h false false)
    expr_finds (sizeof_value word e) w h called aims =
        sizeof_finds word.token (expr_finds e w.0 with_skeleton false false)
    expr_finds (sizeof_type word opening ws d closing) w h called aims =
        of_three (λ a. words_starts (quiet a) ws) (λ a. some_declr_starts (quiet a) with_skeleton d)
        (λ a. fresh a word.token (base []))
        (sizeof_finds word.token (type_name_finds (first_word ws) (type_words_find ws w.1 with_skeleton)
        (abstract_finds d w.2 with_skeleton with_skeleton)))
    expr_finds (extension keyword e) w h called aims =
        without (ops.Expr (exprs.Ext keyword)) (expr_finds e w.0 h false aims) (λ st r. refl) (λ ds r. refl)
    expr_finds (index e opening e2 closing) w h called aims =
        without (ops.Expr (exprs.Index opening (first_token e) closing aims))
        (join (expr_finds e w.0 h false false) (expr_finds e2 w.1 h false false)) (λ st r. refl) (λ ds r. refl)
    expr_finds (call e opening es closing) w h called aims =
        without (ops.Expr (exprs.Call opening (count es)))
        (silent (join (expr_finds e w.0 h true false) (exprs_find es w.1 h)) (arguments_none k es h)) (λ st r. refl)
        (λ ds r. refl)
    expr_finds (dot e token name) w h called aims =
        without (ops.Expr (exprs.Dot token name.token name.name)) (expr_finds e w.0 h false aims) (λ st r. refl)
        (λ ds r. refl)
    expr_finds (arrow e token name) w h called aims =
        without (ops.Expr (exprs.Dot token name.token name.name))
        (without (ops.Expr (exprs.Arrow token (first_token e) name.token aims)) (expr_finds e w.0 h false false)
        (λ st r. refl)
        (λ ds r. refl)) (λ st r. refl) (λ ds r. refl)
    expr_finds (post e token p) w h called aims =
        without (ops.Expr (exprs.Post p token (first_token e))) (expr_finds e w.0 h false false) (λ st r. refl)
        (λ ds r. refl)
    expr_finds (compound opening ws d closing list) w h called aims =
        literal_finds k (λ a. words_starts a ws) (λ a. some_declr_starts a with_skeleton d)
        (λ a. init_list_starts a list) opening ws d list (type_name_finds (first_word ws) (type_words_find ws w.1 h)
        (abstract_finds d w.2 h with_skeleton)) (list_finds list w.3 h)
    expr_finds (name_use token name) w h called aims =
        one (ops.Expr (exprs.Name called token name))
        (λ a. use_start a token (use_at a.names.uses (place a.spelling token))) (λ st r e. refl) (λ ds r. refl)
    expr_finds (number_use token) w h called aims =
        one (ops.Expr (exprs.Number token)) (λ a. fresh a token (base [])) (λ st r e. refl) (λ ds r. refl)
    expr_finds (char_use token) w h called aims =
        one (ops.Expr (exprs.Char token)) (λ a. fresh a token (base [])) (λ st r e. refl) (λ ds r. refl)
    expr_finds (text_use texts) w h called aims =
        one (ops.Expr (exprs.Text (first_text texts))) (λ a. fresh a (first_text texts) (pointer_type [] text_type))
        (λ st r e. refl) (λ ds r. refl)
    expr_finds (paren opening e closing) w h called aims =
        without (ops.Expr (exprs.Paren opening)) (expr_finds e w h false aims) (λ st r. refl) (λ ds r. refl)
    expr_finds (statement_expr opening opening2 items closing closing2) w h called aims =
        followed (ops.Form (forms.StmtExpr (tape_tests.ends_in_value items) opening))
        (λ a. fresh_where (not (ends_in_value items)) (fresh a opening (void [])))
        (scoped (block_items_find items w.0 true))
        (λ st r. ap (λ (b : Bool). fresh_where (not b) (fresh (at k r) opening (void []))) (same_end items))
        (λ ds r. refl)
    expr_finds (va_arg keyword opening e separator ws d closing) w h called aims =
        va_arg_finds k (λ a. expr_starts a e) (λ a. words_starts a ws) (λ a. some_declr_starts a with_skeleton d)
        keyword e ws d closing (expr_finds e w.0 h false false)
        (type_name_finds (first_word ws) (type_words_find ws w.2 h) (abstract_finds d w.3 h with_skeleton))
    expr_finds (va_start keyword opening e separator e2 closing) w h called aims =
        of_three (λ a. expr_starts a e) (λ a. expr_starts a e2) (λ a. fresh a keyword (void []))
        (followed (ops.Form (forms.VaStart keyword closing)) (λ a. fresh a keyword (void []))
        (join (expr_finds e w.0 h false false) (expr_finds e2 w.1 h false false)) (λ st r. refl) (λ ds r. refl))
    expr_finds (va_copy keyword opening e separator e2 closing) w h called aims =
        of_three (λ a. expr_starts a e) (λ a. expr_starts a e2) (λ a. fresh a keyword (void []))
        (followed (ops.Form (forms.VaCopy keyword closing)) (λ a. fresh a keyword (void []))
        (join (expr_finds e w.0 h false false) (expr_finds e2 w.1 h false false)) (λ st r. refl) (λ ds r. refl))
    expr_finds (offset keyword opening ws d separator name steps closing) w h called aims =
        of_four (λ a. words_starts (quiet a) ws) (λ a. some_declr_starts (quiet a) with_skeleton d)
        (λ a. desigs_starts a steps) (λ a. fresh a keyword (base []))
        (same (offset_finds keyword
        (join (without (ops.Form (forms.OffsetMember name.token name.name))
        (type_name_finds (first_word ws) (type_words_find ws w.1 with_skeleton)
        (abstract_finds d w.2 with_skeleton with_skeleton))
        (λ st r. refl) (λ ds r. refl)) (steps_find steps w.3)))
        (λ r. ap (λ (starts : List Start).
        ((words_starts (quiet (at k r)) ws ++ some_declr_starts (quiet (at k r)) with_skeleton d) ++ starts)
        ++ fresh (at k r) keyword (base [])) (quiet_steps all (at k r) steps w.3)))
    expr_finds (complex_part keyword e) w h called aims =
        without (ops.Expr (exprs.Ext keyword)) (expr_finds e w.0 h false aims) (λ st r. refl) (λ ds r. refl)
    expr_finds (label_use token name) w h called aims =
        one (ops.Expr (exprs.Label token)) (λ a. fresh a token (pointer_type [] (void []))) (λ st r e. refl)
        (λ ds r. refl)
    expr_finds (compat keyword opening ws d separator ws2 d2 closing) w h called aims =
        same (compat_finds keyword (join
        (type_name_finds (first_word ws) (type_words_find ws w.1 with_skeleton)
        (abstract_finds d w.2 with_skeleton with_skeleton))
        (type_name_finds (first_word ws2) (type_words_find ws2 w.4 with_skeleton)
        (abstract_finds d2 w.5 with_skeleton with_skeleton))))
        (λ r. compat_groups (words_starts (quiet (at k r)) ws) (some_declr_starts (quiet (at k r)) with_skeleton d)
        (words_starts (quiet (at k r)) ws2) (some_declr_starts (quiet (at k r)) with_skeleton d2)
        (fresh (at k r) keyword (base [])))
    expr_finds (choose keyword opening e separator e2 separator2 e3 closing) w h called aims =
        choose_finds k keyword e e2 e3 (quietly_finds (expr_finds e w.0 with_skeleton false false))
        (expr_finds e2 w.1 h false false)
        (expr_finds e3 w.2 h false false)
    expr_finds (generic keyword opening e xs closing) w h called aims =
        generic_finds k keyword e xs (control_finds (expr_finds e w.0 with_skeleton false false)) (assocs_find xs w.3 h)

    assocs_find : (xs : Assocs) → AreAssocs all xs → (h : Having) → Finds k h (assocs_tape xs) (λ a. assocs_starts a xs)
    assocs_find no_assocs w h = nothing
    assocs_find (more_assocs x xs) w h = join (assoc_finds x w.0 h) (assocs_find xs w.1 h)

    assoc_finds : (x : Assoc) → IsAssoc all x → (h : Having) → Finds k h (assoc_tape x) (λ a. assoc_starts a x)
    assoc_finds (typed_assoc ws d colon e) w h =
        of_three (λ a. words_starts a ws) (λ a. some_declr_starts a with_skeleton d) (λ a. expr_starts a e)
        (join (type_name_finds (first_word ws) (type_words_find ws w.1 h) (abstract_finds d w.2 h with_skeleton))
        (expr_finds e w.3 h false false))
    assoc_finds (default_assoc keyword colon e) w h =
        join (idle (ops.Form forms.NoType) (λ st r. refl) (λ ds r. refl)) (expr_finds e w.0 h false false)

    middle_finds : (op : Operator) → IsMiddle all op → (h : Having)
        → Finds k h (middle_tape op) (λ a. middle_starts k a op)
    middle_finds comma w h = nothing
    middle_finds (assign p) w h = nothing
    middle_finds (cond middle colon) w h = some_expr_finds middle w h
    middle_finds (binary p) w h = nothing

    some_expr_finds : (e : SomeExpr) → IsSomeExpr all e → (h : Having)
        → Finds k h (some_expr_tape e) (λ a. some_expr_starts a e)
    some_expr_finds no_expr w h = nothing
    some_expr_finds (some_expr e) w h = expr_finds e w h false false

    exprs_find : (es : Exprs) → AreArguments all es → (h : Having) → Finds k h (exprs_tape es) (λ a. exprs_starts a es)
    exprs_find no_exprs w h = nothing
    exprs_find (more_exprs e es) w h = join (expr_finds e w.0 h false false) (exprs_find es w.2 h)

    dropped_finds : (e : SomeExpr) → IsSomeExpr all e → (h : Having)
        → Finds k h (dropped_tape e) (λ a. some_expr_starts a e)
    dropped_finds no_expr w h = nothing
    dropped_finds (some_expr e) w h = condition k (expr_finds e w h false false)

    steps_find : (ds : Desigs) → AreSteps all ds → Finds k with_skeleton (steps_tape ds) (λ a. steps_starts a ds)
    steps_find no_desigs w = nothing
    steps_find (more_desigs (member_desig before name) ds) w =
        join (idle (ops.Form (forms.OffsetMember name.token name.name)) (λ st r. refl) (λ ds r. refl))
        (steps_find ds w.1)
    steps_find (more_desigs (index_desig opening e closing) ds) w =
        join (without (ops.Form (forms.OffsetIndex opening)) (expr_finds e w.0 with_skeleton false false) (λ st r. refl)
        (λ ds r. refl)) (steps_find ds w.1)
    steps_find (more_desigs (range_desig opening e dots e2 closing) ds) w = absurd w.0
    steps_find (more_desigs (old_desig name colon) ds) w = absurd w.0

    -- the names of types, whose declarators declare no name

    type_words_find : (ws : SpecWords) → AreTypeWords all ws → (h : Having)
        → Finds k h (words_tape false ws) (λ a. words_starts a ws)
    type_words_find no_words w h = nothing
    type_words_find (more_words word ws) w h = join (word_finds word w.0 false h) (type_words_find ws w.2 h)

    abstract_finds : (d : SomeDeclr) → IsSomeAbstract all d → (h g : Having)
        → Finds k h (some_declr_tape d) (λ a. some_declr_starts a g d)
    abstract_finds no_declr w h g = nothing
    abstract_finds (some_declr d) w h g = silent (bare_finds d w.0 w.1 h g) ((pieces_plain k d).none h)

    some_bare_finds : (d : SomeDeclr) → IsSomeAbstract all d → (h g : Having)
        → Finds k h (some_contents d) (λ a. some_declr_starts a g d)
    some_bare_finds no_declr w h g = nothing
    some_bare_finds (some_declr d) w h g = bare_finds d w.0 w.1 h g

    direct_bare_finds : (d : SomeDeclr) → IsSomeDirect all d → (h g : Having)
        → Finds k h (some_contents d) (λ a. some_declr_starts a g d)
    direct_bare_finds no_declr w h g = nothing
    direct_bare_finds (some_declr d) w h g = bare_finds d w.0 w.1 h g

    bare_finds : (d : Declr) → IsDeclr all d → is_named d ≡ false → (h g : Having) →
        Finds k h (contents false d) (λ a. declr_starts a g without_skeleton d)
    bare_finds (abs_pointer star words d) w is h g = some_bare_finds d w.1 h g
    bare_finds (abs_paren opening attrs d closing) w is h g = bare_finds d w.1 w.2 h g
    bare_finds (abs_array d opening words size closing) w is h g =
        join (direct_bare_finds d w.0 h g) (some_size_finds size w.2 h)
    bare_finds (abs_params d opening ps dots closing) w is h g =
        join (direct_bare_finds d w.0 h g) (params_with_find ps (params_find ps w.1 without_skeleton))
    bare_finds d w is h g = absurd cc

    -- specifiers

    pub words_find : (ws : SpecWords) → AreSpecWords all ws → (alone : Bool) (h : Having) →
        Finds k h (words_tape alone ws) (λ a. words_starts a ws)
    words_find no_words w alone h = nothing
    words_find (more_words word ws) w alone h = join (word_finds word w.0 alone h) (words_find ws w.1 alone h)

    word_finds : (word : SpecWord) → IsSpecWord all word → (alone : Bool) (h : Having) →
        Finds k h (word_tape alone word) (λ a. word_starts a word)
    word_finds (storage word) w alone h = idle (ops.Spec (specs.Storage word.keyword)) (λ st r. refl) (λ ds r. refl)
    word_finds (thread token) w alone h = nothing
    word_finds (inline_word token) w alone h =
        idle (ops.Spec (specs.Storage keywords.Inline)) (λ st r. refl) (λ ds r. refl)
    word_finds (noreturn token) w alone h = nothing
    word_finds (qualifier q) w alone h = idle (ops.Spec (specs.Word (qual_token q))) (λ st r. refl) (λ ds r. refl)
    word_finds (basic word) w alone h = void_finds k (is_void word.keyword) h
    word_finds (struct_type word attrs tag body) w alone h =
        struct_finds body w.3 alone (tag_kind word.keyword) word.token tag h
    word_finds (enum_type e) w alone h = enum_finds e w h
    word_finds (typedef_name name) w alone h =
        idle (ops.Spec (specs.Typedef name.token name.name)) (λ st r. refl) (λ ds r. refl)
    word_finds (attribute attr) w alone h = nothing
    word_finds (typeof_value keyword opening e closing) w alone h =
        quietly_finds (without (ops.Spec (specs.TypeofEnd closing))
        (join (idle (ops.Spec specs.PartBegin) (λ st r. refl) (λ ds r. refl))
        (expr_finds e w with_skeleton false false))
        (λ st r. refl) (λ ds r. refl))
    word_finds (typeof_type word opening ws d closing) w alone h =
        without (ops.Spec specs.TypeEnd)
        (join (idle (ops.Spec specs.PartBegin) (λ st r. refl) (λ ds r. refl))
        (type_name_finds (first_word ws) (type_words_find ws w.2 h) (abstract_finds d w.3 h with_skeleton)))
        (λ st r. refl) (λ ds r. refl)
    word_finds (align attr) w alone h = nothing
    word_finds (auto_word token) w alone h = nothing

    struct_finds : (body : SomeBody) → IsBody all body
        → (alone : Bool) (kind : TagKind) (keyword : ℕ) (tag : Option Identifier)
        (h : Having) → Finds k h (struct_tape alone kind keyword tag body) (λ a. some_body_starts a body)
    struct_finds no_body w alone kind keyword tag h = tag_none k alone kind tag h
    struct_finds (some_body opening items closing) w alone kind keyword tag h =
        body_finds kind keyword tag (struct_items_find items w)

    struct_items_find : (items : StructItems) → AreStructItems all items →
        Finds k with_skeleton (struct_items_tape items) (λ a. struct_items_starts a items)
    struct_items_find no_struct_items w = nothing
    struct_items_find (more_struct_items item items) w = join (struct_item_finds item w.0) (struct_items_find items w.1)

    struct_item_finds : (item : StructItem) → IsStructItem all item →
        Finds k with_skeleton (struct_item_tape item) (λ a. struct_item_starts a item)
    struct_item_finds (member exts ws ds semi) w =
        without (ops.Declr declrs.DeclarationEnd)
        (join (without (ops.Spec specs.SpecsEnd) (words_find ws w.1 false with_skeleton) (λ st r. refl) (λ ds r. refl))
        (members_find ds w.4 ws)) (λ st r. refl) (λ ds r. refl)
    struct_item_finds (member_semi semi) w = nothing
    struct_item_finds (member_assert it) w = nothing

    members_find : (ds : MemDeclrs) → AreMemDeclrs all ds → (ws : SpecWords) →
        Finds k with_skeleton (members_tape ws ds) (λ a. members_starts a ws ds)
    members_find no_mem_declrs w ws = unnamed_find k ws
    members_find (more_mem_declrs attrs d ds) w ws = join (mem_declr_finds d w.1) (mem_declrs_find ds w.2)

    mem_declrs_find : (ds : MemDeclrs) → AreMemDeclrs all ds
        → Finds k with_skeleton (mem_declrs_tape ds) (λ a. mem_declrs_starts a ds)
    mem_declrs_find no_mem_declrs w = nothing
    mem_declrs_find (more_mem_declrs attrs d ds) w = join (mem_declr_finds d w.1) (mem_declrs_find ds w.2)

    mem_declr_finds : (d : MemDeclr) → IsMemDeclr all d
        → Finds k with_skeleton (mem_declr_tape d) (λ a. mem_declr_starts a d)
    mem_declr_finds (named d width attrs) w =
        join (without (ops.Declr declrs.Member)
        (silent (contents_find d w.0 with_skeleton) ((pieces_plain k d).none with_skeleton)) (λ st r. refl)
        (λ ds r. refl)) (some_value_finds width w.2 with_skeleton)
    mem_declr_finds (unnamed colon e attrs) w = quietly_finds (expr_finds e w.0 with_skeleton false false)

    some_value_finds : (it : SomeValue) → IsSomeValue all it → (h : Having) →
        Finds k h (some_value_tape it) (λ a. some_value_starts a it)
    some_value_finds no_value w h = nothing
    some_value_finds (some_value token e) w h = quietly_finds (expr_finds e w.0 with_skeleton false false)

    enum_finds : (e : EnumType) → IsEnum all e → (h : Having) → Finds k h (enum_tape e) (λ a. enum_starts a e)
    enum_finds (enum_of keyword attrs tag no_enum_body) w h = tag_none k false tags.Enum tag h
    enum_finds (enum_of keyword attrs tag (some_enum_body opening es last closing)) w h =
        body_finds tags.Enum keyword tag (enumerators_find es w.2.1)

    enumerators_find : (es : Enumerators) → AreEnumerators all es →
        Finds k with_skeleton (enumerators_tape es) (λ a. enumerators_starts a es)
    enumerators_find no_enumerators w = nothing
    enumerators_find (more_enumerators name attrs value es) w =
        join (without (ops.Spec (specs.Enumerator name.token name.name)) (some_value_finds value w.1 with_skeleton)
        (λ st r. refl)
        (λ ds r. refl)) (enumerators_find es w.2)

    -- declarators

    contents_find : (d : Declr) → IsDeclr all d → (h : Having) →
        Finds k h (contents false d) (λ a. declr_starts a h without_skeleton d)
    contents_find (pointer star words d) w h = contents_find d w.1 h
    contents_find (declr_name token name) w h = name_finds k token name h
    contents_find (declr_paren opening attrs d closing) w h = contents_find d w.1 h
    contents_find (array d opening words size closing) w h = join (contents_find d w.0 h) (some_size_finds size w.4 h)
    contents_find (params d opening ps dots closing) w h =
        same (join (contents_find d w.0 h) (params_with_find ps (params_find ps w.3 without_skeleton)))
        (λ r. ap (λ (has : Having). declr_starts (at k r) h without_skeleton d ++ params_starts (at k r) has ps)
        (sym (none_have (is_bare d))))
    contents_find (abs_pointer star words d) w h = some_bare_finds d w.1 h h
    contents_find (abs_paren opening attrs d closing) w h = contents_find d w.1 h
    contents_find (abs_array d opening words size closing) w h =
        join (direct_bare_finds d w.0 h h) (some_size_finds size w.2 h)
    contents_find (abs_params d opening ps dots closing) w h =
        join (direct_bare_finds d w.0 h h) (params_with_find ps (params_find ps w.1 without_skeleton))
    contents_find (identifiers d opening names closing) w h =
        grouped (contents false d) (ops.Declr (declrs.ParamsBegin false) ∷ []) (ops.Declr declrs.ParamsEnd ∷ [])
        (silent (contents_find d w.0 h) (empty_list k h))
    contents_find (base_name token) w h = nothing

    -- the declarator of a function, whose own parameters have what is given
    pub own_contents_find : (d : Declr) → IsDeclr all d → (h : Having) →
        OwnFinds k h (contents true d) (λ a. declr_starts a h (own_of k d) d)
    own_contents_find (pointer star words d) w h =
        let it = own_contents_find d w.1 h in record { finds = it.finds; stays = it.stays }
    own_contents_find (declr_name token name) w h = own_plain (name_finds k token name h)
    own_contents_find (declr_paren opening attrs d closing) w h =
        let it = own_contents_find d w.1 h in record { finds = it.finds; stays = it.stays }
    own_contents_find (array d opening words size closing) w h =
        own_joined (own_contents_find d w.0 h) (some_size_finds size w.4 h)
    own_contents_find (params d opening ps dots closing) w h =
        let it : OwnFinds k h (contents true d ++ own_params d ps) (λ a. declr_starts a h (own_of k d) d
        ++ params_starts a (having_where (is_name d) (own_of k d)) ps) =
        own_listed (is_name d) (token_of (declared_name d)) (own_contents_find d w.0 h) (contents_left k d true)
        (λ n st. own_have k d (is_name d) n st)
        (listed (says_none ps) (params_tape ps) (λ none a. none_said a (having_where (is_name d) (own_of k d)) ps none)
        (params_find ps w.3 (having_where (is_name d) (own_of k d)))) in
        record {
          finds = λ n st r e. it.finds n st r e
              ∙ ap (λ (b : Bool).
              declr_starts (at k r) h (own_of k d) d ++ params_starts (at k r) (having_where b (own_of k d)) ps)
              (same_name d);
          stays = it.stays;
        }
    own_contents_find (abs_pointer star words d) w h = own_plain (some_bare_finds d w.1 h h)
    own_contents_find (abs_paren opening attrs d closing) w h =
        let it = own_contents_find d w.1 h in record { finds = it.finds; stays = it.stays }
    own_contents_find (abs_array d opening words size closing) w h =
        own_plain (join (direct_bare_finds d w.0 h h) (some_size_finds size w.2 h))
    own_contents_find (abs_params d opening ps dots closing) w h =
        own_plain (join (direct_bare_finds d w.0 h h) (params_with_find ps (params_find ps w.1 without_skeleton)))
    own_contents_find (identifiers d opening names closing) w h =
        let it : OwnFinds k h
        (contents true d ++ (ops.Declr (declrs.ParamsBegin false) ∷ (ops.Declr declrs.ParamsEnd ∷ [])))
        (λ a. declr_starts a h (own_of k d) d ++ []) = own_joined (own_contents_find d w.0 h) (empty_list k h) in
        own_grouped (record {
          finds = λ n st r e. it.finds n st r e ∙ append-nil (declr_starts (at k r) h (own_of k d) d);
          stays = it.stays;
        }) (sym
        (append_assoc (contents true d) (ops.Declr (declrs.ParamsBegin false) ∷ []) (ops.Declr declrs.ParamsEnd ∷ [])))
    own_contents_find (base_name token) w h = own_plain nothing

    some_declr_finds : (d : SomeDeclr) → IsSomeDeclr all d → (h : Having) →
        Finds k h (some_declr_tape d) (λ a. some_declr_starts a h d)
    some_declr_finds no_declr w h = nothing
    some_declr_finds (some_declr d) w h = silent (contents_find d w h) ((pieces_plain k d).none h)

    some_size_finds : (size : SomeSize) → IsSize all size → (h : Having) →
        Finds k h (some_size_tape size) (λ a. some_size_starts a size)
    some_size_finds no_size w h = nothing
    some_size_finds (some_size size) w h = size_finds size w h

    size_finds : (size : ArraySize) → IsArraySize all size → (h : Having)
        → Finds k h (size_tape size) (λ a. array_size_starts a size)
    size_finds (size_value e) w h = quietly_finds (expr_finds e w.0 with_skeleton false false)
    size_finds (size_star token) w h = nothing

    params_find : (ps : Params) → AreParams all ps → (h : Having)
        → FindsParams k h (params_tape ps) (λ a. params_starts a h ps)
    params_find no_params w h = no_param
    params_find (more_params ws d attrs ps) w h =
        params_grouped (λ a. words_starts a ws) (λ a. some_declr_starts a h d) (λ a. params_starts a h ps)
        (one_param (join (without (ops.Spec specs.SpecsEnd) (words_find ws w.1 false h) (λ st r. refl) (λ ds r. refl))
        (some_declr_finds d w.3 h)) (params_find ps w.6 h))

    -- initialisers

    init_finds : (i : Init) → IsInit all i → (h : Having) → Finds k h (init_tape i) (λ a. init_starts a i)
    init_finds (init_value e) w h = expr_finds e w.0 h false false
    init_finds (init_braced list) w h = list_finds list w h

    list_finds : (list : InitList) → IsInitList all list → (h : Having)
        → Finds k h (list_tape list) (λ a. init_list_starts a list)
    list_finds (init_list opening items last closing) w h = init_items_find items w.0 h

    init_items_find : (items : InitItems) → AreInitItems all items → (h : Having) →
        Finds k h (init_items_tape items) (λ a. init_items_starts a items)
    init_items_find no_init_items w h = nothing
    init_items_find (more_init_items ds equal i items) w h =
        of_three (λ a. desigs_starts a ds) (λ a. init_starts a i) (λ a. init_items_starts a items)
        (join (join (indices_find ds w.0 h) (init_finds i w.2 h)) (init_items_find items w.3 h))

    indices_find : (ds : Desigs) → AreDesigs all ds → (h : Having)
        → Finds k h (indices_tape ds) (λ a. desigs_starts a ds)
    indices_find no_desigs w h = nothing
    indices_find (more_desigs d ds) w h = join (index_finds d w.0 h) (indices_find ds w.1 h)

    index_finds : (d : Desig) → IsDesig all d → (h : Having) → Finds k h (index_tape d) (λ a. desig_starts a d)
    index_finds (member_desig before name) w h = nothing
    index_finds (index_desig opening e closing) w h = quietly_finds (expr_finds e w.0 with_skeleton false false)
    index_finds (range_desig opening e dots e2 closing) w h =
        join (quietly_finds (expr_finds e w.0 with_skeleton false false))
        (quietly_finds (expr_finds e2 w.2 with_skeleton false false))
    index_finds (old_desig name colon) w h = nothing

    some_init_finds : (i : SomeInit) → IsSomeInit all i → (h : Having)
        → Finds k h (some_init_tape i) (λ a. some_init_starts a i)
    some_init_finds no_init w h = nothing
    some_init_finds (some_init equal (init_value e)) w h =
        without (ops.Init (inits.Value (first_token e) (last_token e))) (expr_finds e w.0 h false false) (λ st r. refl)
        (λ ds r. refl)
    some_init_finds (some_init equal (init_braced list)) w h =
        without (ops.Init inits.End)
        (silent (without (ops.Init inits.Rule)
        (join (idle (ops.Init inits.Begin) (λ st r. refl) (λ ds r. refl)) (list_finds list w h)) (λ st r. refl)
        (λ ds r. refl)) (list_none k list h)) (λ st r. refl) (λ ds r. refl)

    -- declarations

    init_declrs_find : (ds : InitDeclrs) → AreInitDeclrs all ds →
        Finds k with_skeleton (init_declrs_tape ds) (λ a. init_declrs_starts a ds)
    init_declrs_find no_init_declrs w = nothing
    init_declrs_find (more_init_declrs attrs d asm_label attrs2 i ds) w =
        of_three (λ a. declr_starts a with_skeleton without_skeleton d) (λ a. some_init_starts a i)
        (λ a. init_declrs_starts a ds)
        (join (join (without (ops.Declr declrs.Declare)
        (silent (contents_find d w.1 with_skeleton) ((pieces_plain k d).none with_skeleton)) (λ st r. refl)
        (λ ds r. refl)) (some_init_finds i w.5 with_skeleton)) (init_declrs_find ds w.6))

    auto_finds : (semi : ℕ) (ws : SpecWords) (ds : InitDeclrs) → IsAutoDeclr ws ds → AreInitDeclrs all ds
        → (h : Having) →
        Finds k h (auto_declrs_tape semi ds) (λ a. old_declrs_starts a h ds)
    auto_finds semi ws (more_init_declrs attrs (declr_name token name) None attrs2
        (some_init equal (init_value e)) no_init_declrs) is w h =
        of_three (λ a. had_name h a token) (λ a. some_init_starts a (some_init equal (init_value e))) (λ a. [])
        (join (join (name_finds k token name h)
        (auto_init_finds k e h (expr_finds e w.5.0 h false false) equal semi)) nothing)
    auto_finds semi ws
        (more_init_declrs attrs (base_name token) None attrs2 (some_init equal (init_value e)) no_init_declrs) is w h =
        of_three (λ a. []) (λ a. some_init_starts a (some_init equal (init_value e))) (λ a. [])
        (join (join nothing (auto_init_finds k e h (expr_finds e w.5.0 h false false) equal semi)) nothing)
    auto_finds semi ws _ is w h = absurd is

    declaration_finds : (d : Declaration) → IsDeclaration all d →
        Finds k with_skeleton (declaration_tape d) (λ a. declaration_starts a d)
    declaration_finds (declaration exts ws ds semi) w =
        without (ops.Declr declrs.DeclarationEnd)
        (join (without (ops.Spec specs.SpecsEnd) (words_find ws w.1 (declares_tag ws ds) with_skeleton) (λ st r. refl)
        (λ ds r. refl)) (either k (are_auto ws ds)
        (λ is. same (auto_finds semi ws ds (auto_is ws ds is w.4) w.3 with_skeleton) (λ r. plain_starts (at k r) ds))
        (λ is. init_declrs_find ds w.3))) (λ st r. refl) (λ ds r. refl)

    pub decl_finds : (d : Decl) → IsDecl all d → Finds k with_skeleton (decl_tape d) (λ a. decl_starts a d)
    decl_finds (decl_declaration d) w = declaration_finds d w
    decl_finds (decl_assert it) w = nothing

    -- statements

    pub block_items_find : (items : BlockItems) → AreBlockItems all items → (kept : Bool) →
        Finds k with_skeleton (block_items_tape kept items) (λ a. block_items_starts a items)
    block_items_find no_block_items w kept = nothing
    block_items_find (more_block_items item items) w kept =
        join (block_item_finds item w.0 (kept && is_end items)) (block_items_find items w.1 kept)

    block_item_finds : (item : BlockItem) → IsBlockItem all item → (kept : Bool) →
        Finds k with_skeleton (block_item_tape kept item) (λ a. block_item_starts a item)
    block_item_finds (block_decl d) w kept = decl_finds d w
    block_item_finds (block_stmt t) w kept = stmt_finds t w kept
    block_item_finds (block_labels keyword names semi) w kept = nothing

    stmt_finds : (t : Stmt) → IsStmt all t → (kept : Bool)
        → Finds k with_skeleton (stmt_tape kept t) (λ a. stmt_starts a t)
    stmt_finds (block opening items closing) w kept = scoped (block_items_find items w.0 false)
    stmt_finds (expr_stmt e semi) w true = some_expr_finds e w with_skeleton
    stmt_finds (expr_stmt e semi) w false = dropped_finds e w with_skeleton
    stmt_finds (attr_stmt attrs semi) w kept = nothing
    stmt_finds (label name colon attrs t) w kept = stmt_finds t w.1 false
    stmt_finds (case_stmt keyword e colon t) w kept =
        join (quietly_finds (expr_finds e w.0 with_skeleton false false)) (stmt_finds t w.2 false)
    stmt_finds (default_stmt keyword colon t) w kept = stmt_finds t w false
    stmt_finds (if_stmt keyword opening e closing t other) w kept =
        scoped (of_three (λ a. expr_starts a e) (λ a. stmt_starts a t) (λ a. some_else_starts a other)
        (join (join (condition k (expr_finds e w.0 with_skeleton false false)) (scoped (stmt_finds t w.1 false)))
        (some_else_finds t other w.2)))
    stmt_finds (switch_stmt keyword opening e closing t) w kept =
        scoped (join (condition k (expr_finds e w.0 with_skeleton false false)) (scoped (stmt_finds t w.1 false)))
    stmt_finds (while_stmt keyword opening e closing t) w kept =
        scoped (join (condition k (expr_finds e w.0 with_skeleton false false)) (scoped (stmt_finds t w.1 false)))
    stmt_finds (do_stmt keyword t keyword2 opening e closing semi) w kept =
        scoped (condition k (join (scoped (stmt_finds t w.0 false)) (expr_finds e w.1 with_skeleton false false)))
    stmt_finds (for_stmt keyword opening start e semi e2 closing t) w kept =
        scoped (of_four (λ a. for_start_starts a start) (λ a. some_expr_starts a e) (λ a. some_expr_starts a e2)
        (λ a. stmt_starts a t)
        (join (join (join (for_start_finds start w.0) (dropped_finds e w.1 with_skeleton))
        (dropped_finds e2 w.2 with_skeleton))
        (scoped (stmt_finds t w.3 false))))
    stmt_finds (goto_stmt keyword name semi) w kept = nothing
    stmt_finds (continue_stmt keyword semi) w kept = nothing
    stmt_finds (break_stmt keyword semi) w kept = nothing
    stmt_finds (return_stmt keyword no_expr semi) w kept = nothing
    stmt_finds (return_stmt keyword (some_expr e) semi) w kept =
        without (ops.Stmt (stmts.Return keyword semi)) (expr_finds e w with_skeleton false false) (λ st r. refl)
        (λ ds r. refl)
    stmt_finds (asm_stmt keyword words group semi) w kept = nothing
    stmt_finds (case_range keyword e dots e2 colon t) w kept =
        of_three (λ a. expr_starts (quiet a) e) (λ a. expr_starts (quiet a) e2) (λ a. stmt_starts a t)
        (join (join (quietly_finds (expr_finds e w.0 with_skeleton false false))
        (quietly_finds (expr_finds e2 w.2 with_skeleton false false))) (stmt_finds t w.4 false))
    stmt_finds (goto_value keyword star e semi) w kept = condition k (expr_finds e w with_skeleton false false)

    some_else_finds : (before : Stmt) (other : SomeElse) → IsOther all before other →
        Finds k with_skeleton (some_else_tape other) (λ a. some_else_starts a other)
    some_else_finds before no_else w = nothing
    some_else_finds before (some_else keyword t) w = scoped (stmt_finds t w.0 false)

    for_start_finds : (start : ForStart) → IsStart all start →
        Finds k with_skeleton (for_start_tape start) (λ a. for_start_starts a start)
    for_start_finds (start_declaration d) w = declaration_finds d w
    for_start_finds (start_value e semi) w = dropped_finds e w with_skeleton

  -- declarations behind a list of identifiers

  old_declrs_find : (ds : InitDeclrs) → AreInitDeclrs all ds → (h : Having) →
      Finds k h (old_declrs_tape ds) (λ a. old_declrs_starts a h ds)
  old_declrs_find no_init_declrs w h = nothing
  old_declrs_find (more_init_declrs attrs d asm_label attrs2 i ds) w h =
      of_three (λ a. declr_starts a h without_skeleton d) (λ a. some_init_starts a i) (λ a. old_declrs_starts a h ds)
      (join (join (without (ops.Declr declrs.OldParam)
      (silent (contents_find d w.1 h) ((pieces_plain k d).none h)) (λ st r. refl)
      (λ ds r. refl)) (some_init_finds i w.5 h)) (old_declrs_find ds w.6 h))

  old_declaration_finds : (d : Declaration) → IsDeclaration all d → (h : Having) →
      Finds k h (old_declaration_tape d) (λ a. old_declaration_starts a h d)
  old_declaration_finds (declaration exts ws ds semi) w h =
      without (ops.Declr declrs.DeclarationEnd)
      (join (without (ops.Spec specs.SpecsEnd) (words_find ws w.1 (declares_tag ws ds) h) (λ st r. refl)
      (λ ds r. refl)) (either k (are_auto ws ds) (λ is. auto_finds semi ws ds (auto_is ws ds is w.4) w.3 h)
      (λ is. old_declrs_find ds w.3 h))) (λ st r. refl) (λ ds r. refl)

  old_declarations_find : (ds : List Declaration) → All (IsDeclaration all) ds → (h : Having) →
      Finds k h (old_declarations_tape ds) (λ a. old_declarations_starts a h ds)
  old_declarations_find [] w h = nothing
  old_declarations_find (d ∷ ds) w h =
      join (old_declaration_finds d (All-head (IsDeclaration all) d ds w) h)
      (old_declarations_find ds (All-tail (IsDeclaration all) d ds w) h)

  -- a declarator with such a list
  pub old_contents_find : (ds : List Declaration) → All (IsDeclaration all) ds → (d : Declr) → IsDeclr all d →
      lists_identifiers d ≡ true
      → OwnFinds k with_skeleton (old_contents ds d) (λ a. old_declr_starts a (own_of k d) ds d)
  old_contents_find ds ws (identifiers d opening names closing) w is =
      own_grouped (own_listed true (token_of (declared_name d)) (own_plain (contents_find d w.0 with_skeleton))
      (contents_left k d false) (λ n st. own_have k d true n st)
      (identifiers_find names (in_list (old_declarations_find ds ws (own_of k d)))))
      (listed_groups (contents false d) (identifiers_tape names) (old_declarations_tape ds)
      (ops.Declr (declrs.ParamsBegin true))
      (ops.Declr declrs.ParamsEnd))
  old_contents_find ds ws (pointer star words d) w is =
      let it = old_contents_find ds ws d w.1 is in record { finds = it.finds; stays = it.stays }
  old_contents_find ds ws (declr_paren opening attrs d closing) w is =
      let it = old_contents_find ds ws d w.1 is in record { finds = it.finds; stays = it.stays }
  old_contents_find ds ws (array d opening words size closing) w is =
      own_joined (old_contents_find ds ws d w.0 is) (some_size_finds size w.4 with_skeleton)
  old_contents_find ds ws (params d opening ps dots closing) w is =
      own_joined (old_contents_find ds ws d w.0 is) (params_with_find ps (params_find ps w.3 without_skeleton))
  old_contents_find ds ws (declr_name token name) w is = absurd cc
  old_contents_find ds ws (base_name token) w is = absurd cc
  old_contents_find ds ws (abs_pointer star words d) w is = absurd cc
  old_contents_find ds ws (abs_paren opening attrs d closing) w is = absurd cc
  old_contents_find ds ws (abs_array d opening words size closing) w is = absurd cc
  old_contents_find ds ws (abs_params d opening ps dots closing) w is = absurd cc
