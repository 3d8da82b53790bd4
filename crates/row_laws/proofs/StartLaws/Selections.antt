-- The candidates of selections along the tape of each part of a tree: by cases on the tree.
use Rattle.std.proofs.Common.{◌≡◌, ℕ, Bool, true, false, List, [], ◌∷◌, ◌++◌, Option, None, Some, refl, sym, ◌∙◌, ap, append_assoc}
use Rattle.std.specs.Prelude.{◌&&◌, if◌then◌else◌}
use Rattle.std.proofs.lemmas.List.{append-nil}
use Rattle.qual_base.proofs.Tests.{and_second, and_first}
use Rattle.c_words.specs.declared.kinds.Punct.{Punct}
use Rattle.c_words.specs.declared.kinds.Punct.TheVariants as signs
use Rattle.c_words.specs.declared.kinds.Keyword.TheVariants as keywords
use Rattle.c_syntax.specs.declared.parts.Identifier.{Identifier}
use Rattle.c_syntax.specs.declared.parts.Qual.{Qual}
use Rattle.c_syntax.specs.declared.parts.PointerWord.{PointerWord}
use Rattle.c_syntax.specs.declared.parts.PointerWord.TheVariants as pointer_words
use Rattle.c_syntax.specs.declared.parts.ArrayWord.{ArrayWord}
use Rattle.c_syntax.specs.declared.parts.ArrayWord.TheVariants as array_words
use Rattle.tape_ops.specs.declared.op.Op.{Op}
use Rattle.tape_ops.specs.declared.op.Op.TheVariants as ops
use Rattle.tape_ops.specs.declared.expression.ExprOp.TheVariants as exprs
use Rattle.tape_ops.specs.declared.form.FormOp.TheVariants as forms
use Rattle.tape_ops.specs.declared.initialiser.InitOp.TheVariants as inits
use Rattle.tape_ops.specs.declared.specifier.TagKind.{TagKind}
use Rattle.tape_ops.specs.declared.specifier.TagKind.TheVariants as tags
use Rattle.tape_ops.specs.declared.specifier.SpecOp.TheVariants as specs
use Rattle.tape_ops.specs.declared.declarator.DeclrOp.TheVariants as declrs
use Rattle.tape_ops.specs.declared.statement.StmtOp.TheVariants as stmts
use Rattle.c_tree.specs.Tree.{Expr, operation, cast, prefix, sizeof_value, sizeof_type, extension, index, call, dot, arrow, post, compound, name_use, number_use, char_use, text_use, paren, statement_expr, va_arg, va_start, va_copy, offset, Operator, comma, assign, cond, binary, SomeExpr, no_expr, some_expr, Exprs, no_exprs, more_exprs, SpecWords, no_words, more_words, SpecWord, storage, thread, inline_word, noreturn, qualifier, basic, struct_type, enum_type, typedef_name, attribute, SomeBody, no_body, some_body, StructItems, no_struct_items, more_struct_items, StructItem, member, member_semi, member_assert, MemDeclrs, no_mem_declrs, more_mem_declrs, MemDeclr, named, unnamed, SomeValue, no_value, some_value, EnumType, enum_of, no_enum_body, some_enum_body, Enumerators, no_enumerators, more_enumerators, Declr, pointer, declr_name, declr_paren, array, params, abs_pointer, abs_paren, abs_array, abs_params, SomeDeclr, no_declr, some_declr, SomeSize, no_size, some_size, ArraySize, size_value, size_star, Params, no_params, more_params, Init, init_value, init_braced, InitList, init_list, InitItems, no_init_items, more_init_items, Desigs, no_desigs, more_desigs, Desig, member_desig, index_desig, SomeInit, no_init, some_init, InitDeclrs, no_init_declrs, more_init_declrs, Declaration, declaration, Decl, decl_declaration, decl_assert, BlockItems, no_block_items, more_block_items, BlockItem, block_decl, block_stmt, Stmt, block, expr_stmt, attr_stmt, label, case_stmt, default_stmt, if_stmt, switch_stmt, while_stmt, do_stmt, for_stmt, goto_stmt, continue_stmt, break_stmt, return_stmt, asm_stmt, SomeElse, no_else, some_else, ForStart, start_declaration, start_value, complex_part, label_use, compat, choose, generic, Assocs, no_assocs, more_assocs, Assoc, typed_assoc, default_assoc, typeof_value, typeof_type, align, auto_word, identifiers, base_name, range_desig, old_desig, block_labels, case_range, goto_value, Dots}
use Rattle.c_tree.specs.Unit.{Item, function_item, old_function_item, decl_item, asm_item, semi_item}
use Rattle.c_tree.specs.Addresses.{comes_by_pointer}
use Rattle.c_tree.specs.WellFormed.{has_auto}
use Rattle.c_tree.specs.Firsts.{qual_token, first_word}
use Rattle.c_tree.specs.Ends.{first_token, last_token, first_text}
use Rattle.c_tape.specs.Tests.{is_void, tag_kind, is_bare_word, declares_tag, are_auto, has_value, have_values, is_name, says_none, has_ellipsis, is_end}
use Rattle.c_tape.specs.Tests as tape_tests
use Rattle.c_tape.specs.Tape.{tape_in, prefix_tape, assocs_tape, assoc_tape, assoc_count, auto_declrs_tape, auto_init_tape, identifiers_tape, old_contents, old_declrs_tape, old_declaration_tape, old_declarations_tape, count, specs_with, type_name_with, in_scope, quietly, params_with, params_tape, some_size_tape, quals_tape, pointer_words_tape, array_words_tape, dots_tape, pieces, some_pieces, tag_tape, body_tape, arguments, desigs_tape, rule, rule_of_list, rule_of_items, middle_tape, some_expr_tape, exprs_tape, dropped_tape, steps_tape, step_tape, words_tape, word_tape, struct_tape, struct_items_tape, struct_item_tape, members_tape, unnamed_tape, unnamed_word_tape, mem_declrs_tape, mem_declr_tape, some_value_tape, enum_tape, enumerators_tape, some_declr_tape, contents, some_contents, size_tape, init_tape, list_tape, init_items_tape, indices_tape, index_tape, some_init_tape, init_declrs_tape, declaration_tape, decl_tape, block_items_tape, block_item_tape, stmt_tape, some_else_tape, for_start_tape, item_tape, tape_of}
use Rattle.name_rules.specs.Spellings.{Spelling}
use Rattle.name_rules.specs.Scopes.{Names}
use Rattle.name_rules.specs.Values.{value}
use Rattle.type_rules.specs.Shapes.{shape_of, associations_of}
use Rattle.type_rules.specs.Program.{Source, names_of}
use Rattle.name_rules.specs.ShapeSteps.State.{Operand, State, nothing as no_operands, shape_of_operand, first_operand}
use Rattle.name_rules.specs.ShapeSteps.Steps.{step, associations}
use Rattle.resolve_laws.specs.ShapeLaws.Laws.{ShapesAreLeft, AddressedAreLeft, OldNamesAreLeft}
use Rattle.row_rules.specs.Starting.{Selection}
use Rattle.row_rules.specs.RowSteps.Starting.{op_selections, selections_found}
use Rattle.constraint_rules.specs.Selections.{selection_of, expr_selections, assocs_selections, assoc_selections, some_expr_selections, exprs_selections, words_selections, word_selections, some_body_selections, struct_items_selections, struct_item_selections, members_selections, mem_declrs_selections, mem_declr_selections, some_value_selections, enum_selections, enumerators_selections, declr_selections, some_declr_selections, some_size_selections, array_size_selections, params_selections, init_selections, init_list_selections, init_items_selections, desigs_selections, desig_selections, some_init_selections, init_declrs_selections, old_declrs_selections, old_declaration_selections, declaration_selections, decl_selections, block_items_selections, block_item_selections, stmt_selections, some_else_selections, for_start_selections, old_declarations_selections, old_declr_selections, item_selections, items_selections}
use Rattle.constraint_rules.specs.Systems.{selections_among}
use Rattle.row_laws.specs.StartLaws.Laws.{SelectionsAreFound, selections_on, SelectionsOfProgramAreFound}
use Rattle.row_laws.proofs.StartLaws.Found.{Over, behind}
use Rattle.row_laws.proofs.StartLaws.States.{operand_of, with_expr, with_assocs, under_assocs, assocs_kept, selection_tape, selection_left}

-- along a tape from any state these selections end
record Selects (k : Over) (tape : List Op) (all : List Selection) : Type 0 where
  are : (st : State) → selections_found k.spelling k.names st tape ≡ all

nothing : {k : Over} → Selects k [] []
nothing = record { are = λ st. refl }

-- selections along two tapes in a row are those of the first, then those of the second from the state behind it
selections_append : (k : Over) (xs ys : List Op) (st : State) → selections_found k.spelling k.names st (xs ++ ys) ≡
    selections_found k.spelling k.names st xs ++ selections_found k.spelling k.names (behind k st xs) ys
selections_append k [] ys st = refl
selections_append k (op ∷ xs) ys st =
    ap (λ (all : List Selection). op_selections k.spelling st op ++ all)
    (selections_append k xs ys (step k.spelling k.names st op))
    ∙ sym (append_assoc (op_selections k.spelling st op)
    (selections_found k.spelling k.names (step k.spelling k.names st op) xs)
    (selections_found k.spelling k.names (behind k (step k.spelling k.names st op) xs) ys))

-- two tapes with their selections are, joined, a tape with the selections of both
join : {k : Over} {xs ys : List Op} {f g : List Selection} → Selects k xs f → Selects k ys g
    → Selects k (xs ++ ys) (f ++ g)
join {k} {xs} {ys} {f} {g} p q = record {
  are = λ st. selections_append k xs ys st
      ∙ (ap (λ (all : List Selection). all ++ selections_found k.spelling k.names (behind k st xs) ys) (p.are st)
      ∙ ap (λ (all : List Selection). f ++ all) (q.are (behind k st xs)));
}

said : {k : Over} {tape : List Op} {f g : List Selection} → Selects k tape f → f ≡ g → Selects k tape g
said p e = record { are = λ st. p.are st ∙ e }

-- a tape behind at which none ends
silent : {k : Over} {xs ys : List Op} {f : List Selection} → Selects k xs f → Selects k ys [] → Selects k (xs ++ ys) f
silent {f = f} p q = said (join p q) (append-nil f)

one : {k : Over} (op : Op) → ((st : State) → op_selections k.spelling st op ≡ []) → Selects k (op ∷ []) []
one {k} op none = record { are = λ st. append-nil (op_selections k.spelling st op) ∙ none st }

-- one op behind a tape
after : {k : Over} {xs : List Op} {f : List Selection} (op : Op) → Selects k xs f
    → ((st : State) → op_selections k.spelling st op ≡ []) →
    Selects k (xs ++ op ∷ []) f
after op p none = silent p (one op none)

-- one op before a tape
before : {k : Over} {xs : List Op} {f : List Selection} (op : Op) → ((st : State) → op_selections k.spelling st op ≡ [])
    → Selects k xs f →
    Selects k (op ∷ xs) f
before op none p = join (one op none) p

-- the op that ends a selection, behind a tape
ending : {k : Over} {xs : List Op} {f : List Selection} (op : Op) (g : List Selection) → Selects k xs f →
    ((st : State) → op_selections k.spelling (behind k st xs) op ≡ g) → Selects k (xs ++ op ∷ []) (f ++ g)
ending {k} {xs} {f} op g p is = record {
  are = λ st. selections_append k xs (op ∷ []) st
      ∙ (ap (λ (all : List Selection). all ++ (op_selections k.spelling (behind k st xs) op ++ [])) (p.are st)
      ∙ ap (λ (all : List Selection). f ++ all) (append-nil (op_selections k.spelling (behind k st xs) op) ∙ is st));
}

in_three : {k : Over} {tape : List Op} (f g i : List Selection) → Selects k tape ((f ++ g) ++ i)
    → Selects k tape (f ++ (g ++ i))
in_three f g i p = said p (append_assoc f g i)

in_four : {k : Over} {tape : List Op} (f g i j : List Selection) → Selects k tape (((f ++ g) ++ i) ++ j) →
    Selects k tape (f ++ (g ++ (i ++ j)))
in_four f g i j p = said p (append_assoc (f ++ g) i j ∙ append_assoc f g (i ++ j))

in_pairs : {k : Over} {tape : List Op} (f g i j : List Selection) → Selects k tape ((f ++ g) ++ (i ++ j)) →
    Selects k tape (f ++ (g ++ (i ++ j)))
in_pairs f g i j p = said p (append_assoc f g (i ++ j))

either : {k : Over} {xs ys : List Op} {f : List Selection} (b : Bool) → (b ≡ true → Selects k xs f)
    → (b ≡ false → Selects k ys f) →
    Selects k (if b then xs else ys) f
either true p q = p refl
either false p q = q refl

-- what is plain has none

module _ (k : Over) where
  abbrev u : Spelling
  u = k.spelling

  abbrev s : Names
  s = k.names

  -- qualifiers and what the types of declarators are made of

  quals_none : (qs : List Qual) → Selects k (quals_tape qs) []
  quals_none [] = nothing
  quals_none (q ∷ qs) = before (ops.Spec (specs.Word (qual_token q))) (λ st. refl) (quals_none qs)

  pointer_words_none : (words : List PointerWord) → Selects k (pointer_words_tape words) []
  pointer_words_none [] = nothing
  pointer_words_none (pointer_words.Qual q ∷ words) =
      before (ops.Spec (specs.Word (qual_token q))) (λ st. refl) (pointer_words_none words)
  pointer_words_none (pointer_words.Attr attr ∷ words) = pointer_words_none words

  array_words_none : (words : List ArrayWord) → Selects k (array_words_tape words) []
  array_words_none [] = nothing
  array_words_none (array_words.Static token ∷ words) = array_words_none words
  array_words_none (array_words.Qual q ∷ words) =
      before (ops.Spec (specs.Word (qual_token q))) (λ st. refl) (array_words_none words)

  dots_none : (dots : Option Dots) → Selects k (dots_tape dots) []
  dots_none None = nothing
  dots_none (Some dots) = quals_none dots.quals

  mutual
    pieces_none : (d : Declr) → Selects k (pieces d) []
    pieces_none (pointer star words d) =
        join (after (ops.Declr declrs.Pointer) (pointer_words_none words) (λ st. refl)) (pieces_none d)
    pieces_none (declr_name token name) = nothing
    pieces_none (declr_paren opening attrs d closing) = pieces_none d
    pieces_none (array d opening words size closing) =
        join (after (ops.Declr declrs.Array) (array_words_none words) (λ st. refl)) (pieces_none d)
    pieces_none (params d opening ps dots closing) =
        join (after (ops.Declr (declrs.Function (has_ellipsis ps dots))) (dots_none dots) (λ st. refl)) (pieces_none d)
    pieces_none (abs_pointer star words d) =
        join (after (ops.Declr declrs.Pointer) (pointer_words_none words) (λ st. refl)) (some_pieces_none d)
    pieces_none (abs_paren opening attrs d closing) = pieces_none d
    pieces_none (abs_array d opening words size closing) =
        join (after (ops.Declr declrs.Array) (array_words_none words) (λ st. refl)) (some_pieces_none d)
    pieces_none (abs_params d opening ps dots closing) =
        join (after (ops.Declr (declrs.Function (has_ellipsis ps dots))) (dots_none dots) (λ st. refl))
        (some_pieces_none d)
    pieces_none (identifiers d opening names closing) =
        before (ops.Declr (declrs.Function false)) (λ st. refl) (pieces_none d)
    pieces_none (base_name token) = nothing

    some_pieces_none : (d : SomeDeclr) → Selects k (some_pieces d) []
    some_pieces_none no_declr = nothing
    some_pieces_none (some_declr d) = pieces_none d

  tag_none : (alone : Bool) (kind : TagKind) (tag : Option Identifier) → Selects k (tag_tape alone kind tag) []
  tag_none alone kind None = nothing
  tag_none true kind (Some tag) = one (ops.Spec (specs.TagAlone kind tag.token tag.name)) (λ st. refl)
  tag_none false kind (Some tag) = one (ops.Spec (specs.TagUse kind tag.token tag.name)) (λ st. refl)

  body_selects : (kind : TagKind) (keyword : ℕ) (tag : Option Identifier) {tape : List Op} {f : List Selection}
      → Selects k tape f →
      Selects k (body_tape kind keyword tag ++ tape ++ ops.Spec specs.BodyEnd ∷ []) f
  body_selects kind keyword None p =
      after (ops.Spec specs.BodyEnd) (before (ops.Spec (specs.Untagged kind keyword)) (λ st. refl) p) (λ st. refl)
  body_selects kind keyword (Some tag) p =
      after (ops.Spec specs.BodyEnd)
      (before (ops.Spec (specs.TagBody kind tag.token tag.name)) (λ st. refl) p) (λ st. refl)

  unnamed_word_none : (word : SpecWord) → Selects k (unnamed_word_tape word) []
  unnamed_word_none (struct_type word attrs None body) = one (ops.Spec (specs.UnnamedMember word.token)) (λ st. refl)
  unnamed_word_none (struct_type word attrs (Some tag) body) = nothing
  unnamed_word_none word = nothing

  unnamed_none : (ws : SpecWords) → Selects k (unnamed_tape ws) []
  unnamed_none no_words = nothing
  unnamed_none (more_words word ws) = join (unnamed_word_none word) (unnamed_none ws)

  arguments_none : (es : Exprs) → Selects k (arguments es) []
  arguments_none no_exprs = nothing
  arguments_none (more_exprs e es) =
      before (ops.Expr (exprs.Arg (count es) (first_token e) (last_token e))) (λ st. refl) (arguments_none es)

  desigs_none : (ds : Desigs) → Selects k (desigs_tape ds) []
  desigs_none no_desigs = nothing
  desigs_none (more_desigs (member_desig token name) ds) =
      before (ops.Init (inits.Member name.token name.name)) (λ st. refl) (desigs_none ds)
  desigs_none (more_desigs (index_desig opening e closing) ds) =
      before (ops.Init (inits.Index opening)) (λ st. refl) (desigs_none ds)
  desigs_none (more_desigs (range_desig opening e dots e2 closing) ds) =
      before (ops.Init (inits.Index opening)) (λ st. refl) (desigs_none ds)
  desigs_none (more_desigs (old_desig name colon) ds) =
      before (ops.Init (inits.Member name.token name.name)) (λ st. refl) (desigs_none ds)

  mutual
    rule_none : (i : Init) → Selects k (rule i) []
    rule_none (init_value e) = one (ops.Init (inits.Leaf (first_token e) (last_token e))) (λ st. refl)
    rule_none (init_braced list) = rule_list_none list

    rule_list_none : (list : InitList) → Selects k (rule_of_list list) []
    rule_list_none (init_list opening items last closing) =
        after (ops.Init inits.ListEnd)
        (before (ops.Init inits.ListBegin) (λ st. refl) (rule_items_none items)) (λ st. refl)

    rule_items_none : (items : InitItems) → Selects k (rule_of_items items) []
    rule_items_none no_init_items = nothing
    rule_items_none (more_init_items ds equal i items) =
        join (join (desigs_none ds) (rule_none i)) (rule_items_none items)

  identifiers_none : (names : List Identifier) → Selects k (identifiers_tape names) []
  identifiers_none [] = nothing
  identifiers_none (name ∷ names) =
      before (ops.Declr (declrs.Identifier name.token name.name)) (λ st. refl) (identifiers_none names)

  -- a list that says that there are no parameters

  bare_word : (word : SpecWord) → is_bare_word word ≡ true → word_selections u s word ≡ []
  bare_word (struct_type word attrs tag body) e = absurd cc
  bare_word (enum_type it) e = absurd cc
  bare_word (typeof_value keyword opening it closing) e = absurd cc
  bare_word (typeof_type word opening ws d closing) e = absurd cc
  bare_word word e = refl

  bare_words : (ws : SpecWords) → tape_tests.is_bare ws ≡ true → words_selections u s ws ≡ []
  bare_words no_words e = refl
  bare_words (more_words word ws) e =
      ap (λ (all : List Selection). all ++ words_selections u s ws)
      (bare_word word (and_first (is_bare_word word) (tape_tests.is_bare ws) e))
      ∙ bare_words ws (and_second (is_bare_word word) (tape_tests.is_bare ws) e)

  none_said : (ps : Params) → says_none ps ≡ true → params_selections u s ps ≡ []
  none_said no_params e = refl
  none_said (more_params ws no_declr attrs no_params) e = ap (λ (all : List Selection). all ++ []) (bare_words ws e)
  none_said (more_params ws no_declr attrs (more_params ws2 d attrs2 ps)) e = absurd cc
  none_said (more_params ws (some_declr d) attrs ps) e = absurd cc

  listed : (ps : Params) (none : Bool) → says_none ps ≡ none → Selects k (params_tape ps) (params_selections u s ps) →
      Selects k (if none then [] else params_tape ps) (params_selections u s ps)
  listed ps true e p = said nothing (sym (none_said ps e))
  listed ps false e p = p

  params_with_select : (own : Bool) (ps : Params) → Selects k (params_tape ps) (params_selections u s ps) →
      Selects k (params_with own (says_none ps) (params_tape ps)) (params_selections u s ps)
  params_with_select own ps p =
      after (ops.Declr declrs.ParamsEnd)
      (before (ops.Declr (declrs.ParamsBegin own)) (λ st. refl) (listed ps (says_none ps) refl p)) (λ st. refl)

  -- parts

  scoped : {tape : List Op} {f : List Selection} → Selects k tape f → Selects k (in_scope tape) f
  scoped p = after (ops.Stmt stmts.Leave) (before (ops.Stmt stmts.Enter) (λ st. refl) p) (λ st. refl)

  quiet_selects : {tape : List Op} {f : List Selection} → Selects k tape f → Selects k (quietly tape) f
  quiet_selects p = after (ops.Stmt stmts.Loud) (before (ops.Stmt stmts.Quiet) (λ st. refl) p) (λ st. refl)

  type_name_selects : {words d : List Op} {f g : List Selection} (first : ℕ) → Selects k words f → Selects k d g →
      Selects k (type_name_with words d first) (f ++ g)
  type_name_selects first p q =
      after (ops.Declr (declrs.TypeName first)) (join (after (ops.Spec specs.SpecsEnd) p (λ st. refl)) q) (λ st. refl)

  abbrev middle_selections : Operator → List Selection
  middle_selections comma = []
  middle_selections (assign p) = []
  middle_selections (cond middle colon) = some_expr_selections u s middle
  middle_selections (binary p) = []

  operation_selects : (e : Expr) (op : Operator) (token : ℕ) (e2 : Expr) (called aims : Bool) →
      Selects k (tape_in false false e) (expr_selections u s e) → Selects k (middle_tape op) (middle_selections op) →
      Selects k (tape_in false false e2) (expr_selections u s e2) →
      Selects k (tape_in called aims (operation e op token e2)) (expr_selections u s (operation e op token e2))
  operation_selects e comma token e2 called aims p m q =
      after (ops.Expr (exprs.Comma token)) (join (silent p m) q) (λ st. refl)
  operation_selects e (assign sign) token e2 called aims p m q =
      after (ops.Expr (exprs.Assign sign token (first_token e) (last_token e2))) (join (silent p m) q) (λ st. refl)
  operation_selects e (cond no_expr colon) token e2 called aims p m q =
      after (ops.Expr (exprs.Cond false token (first_token e) (last_token e2))) (join (silent p m) q) (λ st. refl)
  operation_selects e (cond (some_expr m) colon) token e2 called aims p v q =
      after (ops.Expr (exprs.Cond true token (first_token e) (last_token e2)))
      (in_three (expr_selections u s e) (expr_selections u s m) (expr_selections u s e2)
      (join (join p v) q)) (λ st. refl)
  operation_selects e (binary sign) token e2 called aims p m q =
      after (ops.Expr (exprs.Binary sign token (first_token e) (last_token e2))) (join (silent p m) q) (λ st. refl)

  prefix_selects : (token : ℕ) (p : Punct) (e : Expr) (aims : Bool) {addressed taken : List Op} {f : List Selection} →
      Selects k addressed f → Selects k taken f → Selects k (prefix_tape token p e aims addressed taken) f
  prefix_selects token signs.Ampersand e aims p q =
      after (ops.Expr (exprs.Prefix signs.Ampersand token (last_token e) (comes_by_pointer false e))) p (λ st. refl)
  prefix_selects token sign e aims p q = after (ops.Expr (exprs.Prefix sign token (last_token e) aims)) q (λ st. refl)

  -- the flags of a selection at its end
  flags_left : (keyword : ℕ) (e : Expr) (xs : Assocs) (st : State) →
      op_selections u (behind k st (selection_tape k e xs)) (ops.Form (forms.Generic keyword (assoc_count xs))) ≡
      selection_of u keyword (value (shape_of u s e)) (associations_of u s xs)
  flags_left keyword e xs st =
      ap (λ (it : State). op_selections u it (ops.Form (forms.Generic keyword (assoc_count xs))))
      (selection_left k e xs st)
      ∙ (ap (λ (operands : List Operand). selection_of u keyword (value (shape_of_operand (first_operand operands)))
      (associations (assoc_count xs) (with_assocs k xs (with_expr k e st))))
      (under_assocs k xs (operand_of k e ∷ st.operands))
      ∙ ap (selection_of u keyword (value (shape_of u s e))) (assocs_kept k xs (with_expr k e st)))

  mutual
    expr_select : (e : Expr) → (called aims : Bool) → Selects k (tape_in called aims e) (expr_selections u s e)
    expr_select (operation e op token e2) called aims =
        operation_selects e op token e2 called aims (expr_select e false false) (middle_select op)
        (expr_select e2 false false)
    expr_select (cast opening ws d closing e) called aims =
        after (ops.Form (forms.Cast opening (last_token e)))
        (in_three (words_selections u s ws) (some_declr_selections u s d) (expr_selections u s e)
        (join (type_name_selects (first_word ws) (words_select ws false) (some_declr_select d))
        (expr_select e false false))) (λ st. refl)
    expr_select (prefix token p e) called aims =
        prefix_selects token p e aims (expr_select e false true) (expr_select e false false)
    expr_select (sizeof_value word e) called aims =
        after (ops.Form (forms.Sizeof word.token))
        (before (ops.Stmt stmts.Quiet) (λ st. refl) (expr_select e false false)) (λ st. refl)
    expr_select (sizeof_type word opening ws d closing) called aims =
        after (ops.Form (forms.Sizeof word.token)) (before (ops.Stmt stmts.Quiet) (λ st. refl)
        (type_name_selects (first_word ws) (words_select ws false) (some_declr_select d))) (λ st. refl)
    expr_select (extension keyword e) called aims =
        after (ops.Expr (exprs.Ext keyword)) (expr_select e false aims) (λ st. refl)
    expr_select (index e opening e2 closing) called aims =
        after (ops.Expr (exprs.Index opening (first_token e) closing aims))
        (join (expr_select e false false) (expr_select e2 false false)) (λ st. refl)
    expr_select (call e opening es closing) called aims =
        after (ops.Expr (exprs.Call opening (count es)))
        (silent (join (expr_select e true false) (exprs_select es)) (arguments_none es)) (λ st. refl)
    expr_select (dot e token name) called aims =
        after (ops.Expr (exprs.Dot token name.token name.name)) (expr_select e false aims) (λ st. refl)
    expr_select (arrow e token name) called aims =
        after (ops.Expr (exprs.Dot token name.token name.name))
        (after (ops.Expr (exprs.Arrow token (first_token e) name.token aims)) (expr_select e false false)
        (λ st. refl)) (λ st. refl)
    expr_select (post e token p) called aims =
        after (ops.Expr (exprs.Post p token (first_token e))) (expr_select e false false) (λ st. refl)
    expr_select (compound opening ws d closing list) called aims =
        after (ops.Init inits.LiteralEnd) (silent (after (ops.Init (inits.Literal opening))
        (in_three (words_selections u s ws) (some_declr_selections u s d) (init_list_selections u s list)
        (join (after (ops.Init inits.Begin)
        (type_name_selects (first_word ws) (words_select ws false) (some_declr_select d)) (λ st. refl))
        (list_select list))) (λ st. refl)) (rule_list_none list)) (λ st. refl)
    expr_select (name_use token name) called aims = one (ops.Expr (exprs.Name called token name)) (λ st. refl)
    expr_select (number_use token) called aims = one (ops.Expr (exprs.Number token)) (λ st. refl)
    expr_select (char_use token) called aims = one (ops.Expr (exprs.Char token)) (λ st. refl)
    expr_select (text_use texts) called aims = one (ops.Expr (exprs.Text (first_text texts))) (λ st. refl)
    expr_select (paren opening e closing) called aims =
        after (ops.Expr (exprs.Paren opening)) (expr_select e false aims) (λ st. refl)
    expr_select (statement_expr opening opening2 items closing closing2) called aims =
        after (ops.Form (forms.StmtExpr (tape_tests.ends_in_value items) opening))
        (scoped (block_items_select items true)) (λ st. refl)
    expr_select (va_arg keyword opening e separator ws d closing) called aims =
        after (ops.Form (forms.VaArg keyword closing))
        (join (expr_select e false false)
        (type_name_selects (first_word ws) (words_select ws false) (some_declr_select d))) (λ st. refl)
    expr_select (va_start keyword opening e separator e2 closing) called aims =
        after (ops.Form (forms.VaStart keyword closing))
        (join (expr_select e false false) (expr_select e2 false false)) (λ st. refl)
    expr_select (va_copy keyword opening e separator e2 closing) called aims =
        after (ops.Form (forms.VaCopy keyword closing))
        (join (expr_select e false false) (expr_select e2 false false)) (λ st. refl)
    expr_select (offset keyword opening ws d separator name steps closing) called aims =
        after (ops.Form (forms.Offset keyword))
        (in_three (words_selections u s ws) (some_declr_selections u s d) (desigs_selections u s steps)
        (join (after (ops.Form (forms.OffsetMember name.token name.name)) (before (ops.Stmt stmts.Quiet) (λ st. refl)
        (type_name_selects (first_word ws) (words_select ws false) (some_declr_select d))) (λ st. refl))
        (steps_select steps))) (λ st. refl)
    expr_select (complex_part keyword e) called aims =
        after (ops.Expr (exprs.Ext keyword)) (expr_select e false aims) (λ st. refl)
    expr_select (label_use token name) called aims = one (ops.Expr (exprs.Label token)) (λ st. refl)
    expr_select (compat keyword opening ws d separator ws2 d2 closing) called aims =
        after (ops.Form (forms.Compat keyword))
        (in_pairs (words_selections u s ws) (some_declr_selections u s d) (words_selections u s ws2)
        (some_declr_selections u s d2)
        (join (before (ops.Stmt stmts.Quiet) (λ st. refl)
        (type_name_selects (first_word ws) (words_select ws false) (some_declr_select d)))
        (type_name_selects (first_word ws2) (words_select ws2 false) (some_declr_select d2)))) (λ st. refl)
    expr_select (choose keyword opening e separator e2 separator2 e3 closing) called aims =
        after (ops.Form (forms.Choose keyword))
        (in_three (expr_selections u s e) (expr_selections u s e2) (expr_selections u s e3)
        (join (join (quiet_selects (expr_select e false false)) (expr_select e2 false false))
        (expr_select e3 false false))) (λ st. refl)
    expr_select (generic keyword opening e xs closing) called aims =
        in_three (expr_selections u s e) (assocs_selections u s xs)
        (selection_of u keyword (value (shape_of u s e)) (associations_of u s xs))
        (ending (ops.Form (forms.Generic keyword (assoc_count xs)))
        (selection_of u keyword (value (shape_of u s e)) (associations_of u s xs))
        (join (after (ops.Form forms.Control)
        (before (ops.Stmt stmts.Quiet) (λ st. refl) (expr_select e false false)) (λ st. refl))
        (assocs_select xs)) (flags_left keyword e xs))

    assocs_select : (xs : Assocs) → Selects k (assocs_tape xs) (assocs_selections u s xs)
    assocs_select no_assocs = nothing
    assocs_select (more_assocs x xs) = join (assoc_select x) (assocs_select xs)

    assoc_select : (x : Assoc) → Selects k (assoc_tape x) (assoc_selections u s x)
    assoc_select (typed_assoc ws d colon e) =
        in_three (words_selections u s ws) (some_declr_selections u s d) (expr_selections u s e)
        (join (type_name_selects (first_word ws) (words_select ws false) (some_declr_select d))
        (expr_select e false false))
    assoc_select (default_assoc keyword colon e) =
        before (ops.Form forms.NoType) (λ st. refl) (expr_select e false false)

    middle_select : (op : Operator) → Selects k (middle_tape op) (middle_selections op)
    middle_select comma = nothing
    middle_select (assign p) = nothing
    middle_select (cond middle colon) = some_expr_select middle
    middle_select (binary p) = nothing

    some_expr_select : (e : SomeExpr) → Selects k (some_expr_tape e) (some_expr_selections u s e)
    some_expr_select no_expr = nothing
    some_expr_select (some_expr e) = expr_select e false false

    exprs_select : (es : Exprs) → Selects k (exprs_tape es) (exprs_selections u s es)
    exprs_select no_exprs = nothing
    exprs_select (more_exprs e es) = join (expr_select e false false) (exprs_select es)

    dropped_select : (e : SomeExpr) → Selects k (dropped_tape e) (some_expr_selections u s e)
    dropped_select no_expr = nothing
    dropped_select (some_expr e) = after (ops.Stmt stmts.Pop) (expr_select e false false) (λ st. refl)

    steps_select : (ds : Desigs) → Selects k (steps_tape ds) (desigs_selections u s ds)
    steps_select no_desigs = nothing
    steps_select (more_desigs d ds) = join (step_select d) (steps_select ds)

    step_select : (d : Desig) → Selects k (step_tape d) (desig_selections u s d)
    step_select (member_desig token name) = one (ops.Form (forms.OffsetMember name.token name.name)) (λ st. refl)
    step_select (index_desig opening e closing) =
        after (ops.Form (forms.OffsetIndex opening)) (expr_select e false false) (λ st. refl)
    step_select (range_desig opening e dots e2 closing) =
        after (ops.Form (forms.OffsetIndex opening))
        (join (expr_select e false false) (quiet_selects (expr_select e2 false false))) (λ st. refl)
    step_select (old_desig name colon) = one (ops.Form (forms.OffsetMember name.token name.name)) (λ st. refl)

    -- specifiers

    words_select : (ws : SpecWords) → (alone : Bool) → Selects k (words_tape alone ws) (words_selections u s ws)
    words_select no_words alone = nothing
    words_select (more_words word ws) alone = join (word_select word alone) (words_select ws alone)

    word_select : (word : SpecWord) → (alone : Bool) → Selects k (word_tape alone word) (word_selections u s word)
    word_select (storage word) alone = one (ops.Spec (specs.Storage word.keyword)) (λ st. refl)
    word_select (thread token) alone = nothing
    word_select (inline_word token) alone = one (ops.Spec (specs.Storage keywords.Inline)) (λ st. refl)
    word_select (noreturn token) alone = nothing
    word_select (qualifier q) alone = one (ops.Spec (specs.Word (qual_token q))) (λ st. refl)
    word_select (basic word) alone =
        either (is_void word.keyword) (λ e. one (ops.Spec specs.Void) (λ st. refl)) (λ e. nothing)
    word_select (struct_type word attrs tag body) alone =
        struct_select body alone (tag_kind word.keyword) word.token tag
    word_select (enum_type e) alone = enum_select e
    word_select (typedef_name name) alone = one (ops.Spec (specs.Typedef name.token name.name)) (λ st. refl)
    word_select (attribute attr) alone = nothing
    word_select (typeof_value keyword opening e closing) alone =
        quiet_selects (after (ops.Spec (specs.TypeofEnd closing))
        (before (ops.Spec specs.PartBegin) (λ st. refl) (expr_select e false false)) (λ st. refl))
    word_select (typeof_type word opening ws d closing) alone =
        after (ops.Spec specs.TypeEnd) (before (ops.Spec specs.PartBegin) (λ st. refl)
        (type_name_selects (first_word ws) (words_select ws false) (some_declr_select d))) (λ st. refl)
    word_select (align attr) alone = nothing
    word_select (auto_word token) alone = nothing

    struct_select : (body : SomeBody) → (alone : Bool) (kind : TagKind) (keyword : ℕ) (tag : Option Identifier) →
        Selects k (struct_tape alone kind keyword tag body) (some_body_selections u s body)
    struct_select no_body alone kind keyword tag = tag_none alone kind tag
    struct_select (some_body opening items closing) alone kind keyword tag =
        body_selects kind keyword tag (struct_items_select items)

    struct_items_select : (items : StructItems)
        → Selects k (struct_items_tape items) (struct_items_selections u s items)
    struct_items_select no_struct_items = nothing
    struct_items_select (more_struct_items item items) = join (struct_item_select item) (struct_items_select items)

    struct_item_select : (item : StructItem) → Selects k (struct_item_tape item) (struct_item_selections u s item)
    struct_item_select (member exts ws ds semi) =
        after (ops.Declr declrs.DeclarationEnd)
        (join (after (ops.Spec specs.SpecsEnd) (words_select ws false) (λ st. refl))
        (members_select ds ws)) (λ st. refl)
    struct_item_select (member_semi semi) = nothing
    struct_item_select (member_assert it) = nothing

    members_select : (ds : MemDeclrs) → (ws : SpecWords) → Selects k (members_tape ws ds) (members_selections u s ws ds)
    members_select no_mem_declrs ws = unnamed_none ws
    members_select (more_mem_declrs attrs d ds) ws = join (mem_declr_select d) (mem_declrs_select ds)

    mem_declrs_select : (ds : MemDeclrs) → Selects k (mem_declrs_tape ds) (mem_declrs_selections u s ds)
    mem_declrs_select no_mem_declrs = nothing
    mem_declrs_select (more_mem_declrs attrs d ds) = join (mem_declr_select d) (mem_declrs_select ds)

    mem_declr_select : (d : MemDeclr) → Selects k (mem_declr_tape d) (mem_declr_selections u s d)
    mem_declr_select (named d width attrs) =
        join (after (ops.Declr declrs.Member) (silent (contents_select d false) (pieces_none d)) (λ st. refl))
        (some_value_select width)
    mem_declr_select (unnamed colon e attrs) = quiet_selects (expr_select e false false)

    some_value_select : (it : SomeValue) → Selects k (some_value_tape it) (some_value_selections u s it)
    some_value_select no_value = nothing
    some_value_select (some_value token e) = quiet_selects (expr_select e false false)

    enum_select : (e : EnumType) → Selects k (enum_tape e) (enum_selections u s e)
    enum_select (enum_of keyword attrs tag no_enum_body) = tag_none false tags.Enum tag
    enum_select (enum_of keyword attrs tag (some_enum_body opening es last closing)) =
        body_selects tags.Enum keyword tag (enumerators_select es)

    enumerators_select : (es : Enumerators) → Selects k (enumerators_tape es) (enumerators_selections u s es)
    enumerators_select no_enumerators = nothing
    enumerators_select (more_enumerators name attrs number es) =
        join (after (ops.Spec (specs.Enumerator name.token name.name)) (some_value_select number) (λ st. refl))
        (enumerators_select es)

    -- declarators

    contents_select : (d : Declr) → (own : Bool) → Selects k (contents own d) (declr_selections u s d)
    contents_select (pointer star words d) own = contents_select d own
    contents_select (declr_name token name) own = one (ops.Declr (declrs.DeclName token name)) (λ st. refl)
    contents_select (declr_paren opening attrs d closing) own = contents_select d own
    contents_select (array d opening words size closing) own = join (contents_select d own) (some_size_select size)
    contents_select (params d opening ps dots closing) own =
        join (contents_select d own) (params_with_select (own && is_name d) ps (params_select ps))
    contents_select (abs_pointer star words d) own = some_contents_select d
    contents_select (abs_paren opening attrs d closing) own = contents_select d own
    contents_select (abs_array d opening words size closing) own = join (some_contents_select d) (some_size_select size)
    contents_select (abs_params d opening ps dots closing) own =
        join (some_contents_select d) (params_with_select false ps (params_select ps))
    contents_select (identifiers d opening names closing) own =
        after (ops.Declr declrs.ParamsEnd)
        (after (ops.Declr (declrs.ParamsBegin false)) (contents_select d own) (λ st. refl)) (λ st. refl)
    contents_select (base_name token) own = nothing

    some_contents_select : (d : SomeDeclr) → Selects k (some_contents d) (some_declr_selections u s d)
    some_contents_select no_declr = nothing
    some_contents_select (some_declr d) = contents_select d false

    some_declr_select : (d : SomeDeclr) → Selects k (some_declr_tape d) (some_declr_selections u s d)
    some_declr_select no_declr = nothing
    some_declr_select (some_declr d) = silent (contents_select d false) (pieces_none d)

    some_size_select : (size : SomeSize) → Selects k (some_size_tape size) (some_size_selections u s size)
    some_size_select no_size = nothing
    some_size_select (some_size size) = size_select size

    size_select : (size : ArraySize) → Selects k (size_tape size) (array_size_selections u s size)
    size_select (size_value e) = quiet_selects (expr_select e false false)
    size_select (size_star star) = nothing

    params_select : (ps : Params) → Selects k (params_tape ps) (params_selections u s ps)
    params_select no_params = nothing
    params_select (more_params ws d attrs ps) =
        in_three (words_selections u s ws) (some_declr_selections u s d) (params_selections u s ps)
        (join (after (ops.Declr declrs.Param)
        (join (after (ops.Spec specs.SpecsEnd) (words_select ws false) (λ st. refl))
        (some_declr_select d)) (λ st. refl)) (params_select ps))

    -- initialisers

    init_select : (i : Init) → Selects k (init_tape i) (init_selections u s i)
    init_select (init_value e) = expr_select e false false
    init_select (init_braced list) = list_select list

    list_select : (list : InitList) → Selects k (list_tape list) (init_list_selections u s list)
    list_select (init_list opening items last closing) = init_items_select items

    init_items_select : (items : InitItems) → Selects k (init_items_tape items) (init_items_selections u s items)
    init_items_select no_init_items = nothing
    init_items_select (more_init_items ds equal i items) =
        in_three (desigs_selections u s ds) (init_selections u s i) (init_items_selections u s items)
        (join (join (indices_select ds) (init_select i)) (init_items_select items))

    indices_select : (ds : Desigs) → Selects k (indices_tape ds) (desigs_selections u s ds)
    indices_select no_desigs = nothing
    indices_select (more_desigs d ds) = join (index_select d) (indices_select ds)

    index_select : (d : Desig) → Selects k (index_tape d) (desig_selections u s d)
    index_select (member_desig token name) = nothing
    index_select (index_desig opening e closing) = quiet_selects (expr_select e false false)
    index_select (range_desig opening e dots e2 closing) =
        join (quiet_selects (expr_select e false false)) (quiet_selects (expr_select e2 false false))
    index_select (old_desig name colon) = nothing

    some_init_select : (i : SomeInit) → Selects k (some_init_tape i) (some_init_selections u s i)
    some_init_select no_init = nothing
    some_init_select (some_init equal (init_value e)) =
        after (ops.Init (inits.Value (first_token e) (last_token e))) (expr_select e false false) (λ st. refl)
    some_init_select (some_init equal (init_braced list)) =
        after (ops.Init inits.End) (silent (after (ops.Init inits.Rule)
        (before (ops.Init inits.Begin) (λ st. refl) (list_select list)) (λ st. refl))
        (rule_list_none list)) (λ st. refl)

    -- declarations

    init_declrs_select : (ds : InitDeclrs) → Selects k (init_declrs_tape ds) (init_declrs_selections u s ds)
    init_declrs_select no_init_declrs = nothing
    init_declrs_select (more_init_declrs attrs d asm_label attrs2 i ds) =
        in_three (declr_selections u s d) (some_init_selections u s i) (init_declrs_selections u s ds)
        (join (join (after (ops.Declr declrs.Declare) (silent (contents_select d false) (pieces_none d)) (λ st. refl))
        (some_init_select i))
        (init_declrs_select ds))

    auto_declrs_select : (ds : InitDeclrs) → (semi : ℕ) → have_values ds ≡ true →
        Selects k (auto_declrs_tape semi ds) (init_declrs_selections u s ds)
    auto_declrs_select no_init_declrs semi have = nothing
    auto_declrs_select (more_init_declrs attrs d asm_label attrs2 i ds) semi have =
        in_three (declr_selections u s d) (some_init_selections u s i) (init_declrs_selections u s ds)
        (join (join (contents_select d false) (auto_init_select i semi (and_first (has_value i) (have_values ds) have)))
        (auto_declrs_select ds semi (and_second (has_value i) (have_values ds) have)))

    auto_init_select : (i : SomeInit) → (semi : ℕ) → has_value i ≡ true
        → Selects k (auto_init_tape semi i) (some_init_selections u s i)
    auto_init_select no_init semi has = absurd cc
    auto_init_select (some_init equal (init_value e)) semi has =
        after (ops.Init (inits.Value (first_token e) (last_token e)))
        (after (ops.Declr (declrs.AutoEnd semi))
        (before (ops.Declr declrs.AutoBegin) (λ st. refl) (expr_select e false false)) (λ st. refl)) (λ st. refl)
    auto_init_select (some_init equal (init_braced list)) semi has = absurd cc

    declaration_select : (d : Declaration) → Selects k (declaration_tape d) (declaration_selections u s d)
    declaration_select (declaration exts ws ds semi) =
        after (ops.Declr declrs.DeclarationEnd)
        (join (after (ops.Spec specs.SpecsEnd) (words_select ws (declares_tag ws ds)) (λ st. refl))
        (either (are_auto ws ds) (λ is. auto_declrs_select ds semi (and_second (has_auto ws) (have_values ds) is))
        (λ is. init_declrs_select ds))) (λ st. refl)

    decl_select : (d : Decl) → Selects k (decl_tape d) (decl_selections u s d)
    decl_select (decl_declaration d) = declaration_select d
    decl_select (decl_assert it) = nothing

    -- statements

    block_items_select : (items : BlockItems) → (kept : Bool)
        → Selects k (block_items_tape kept items) (block_items_selections u s items)
    block_items_select no_block_items kept = nothing
    block_items_select (more_block_items item items) kept =
        join (block_item_select item (kept && is_end items)) (block_items_select items kept)

    block_item_select : (item : BlockItem) → (kept : Bool)
        → Selects k (block_item_tape kept item) (block_item_selections u s item)
    block_item_select (block_decl d) kept = decl_select d
    block_item_select (block_stmt t) kept = stmt_select t kept
    block_item_select (block_labels keyword names semi) kept = nothing

    stmt_select : (t : Stmt) → (kept : Bool) → Selects k (stmt_tape kept t) (stmt_selections u s t)
    stmt_select (block opening items closing) kept = scoped (block_items_select items false)
    stmt_select (expr_stmt e semi) true = some_expr_select e
    stmt_select (expr_stmt e semi) false = dropped_select e
    stmt_select (attr_stmt attrs semi) kept = nothing
    stmt_select (label name colon attrs t) kept = stmt_select t false
    stmt_select (case_stmt keyword e colon t) kept =
        join (quiet_selects (expr_select e false false)) (stmt_select t false)
    stmt_select (default_stmt keyword colon t) kept = stmt_select t false
    stmt_select (if_stmt keyword opening e closing t other) kept =
        scoped (in_three (expr_selections u s e) (stmt_selections u s t) (some_else_selections u s other)
        (join
        (join (after (ops.Stmt stmts.Pop) (expr_select e false false) (λ st. refl)) (scoped (stmt_select t false)))
        (some_else_select other)))
    stmt_select (switch_stmt keyword opening e closing t) kept =
        scoped
        (join (after (ops.Stmt stmts.Pop) (expr_select e false false) (λ st. refl)) (scoped (stmt_select t false)))
    stmt_select (while_stmt keyword opening e closing t) kept =
        scoped
        (join (after (ops.Stmt stmts.Pop) (expr_select e false false) (λ st. refl)) (scoped (stmt_select t false)))
    stmt_select (do_stmt keyword t keyword2 opening e closing semi) kept =
        scoped
        (after (ops.Stmt stmts.Pop) (join (scoped (stmt_select t false)) (expr_select e false false)) (λ st. refl))
    stmt_select (for_stmt keyword opening start e semi e2 closing t) kept =
        scoped (in_four (for_start_selections u s start) (some_expr_selections u s e) (some_expr_selections u s e2)
        (stmt_selections u s t)
        (join (join (join (for_start_select start) (dropped_select e)) (dropped_select e2))
        (scoped (stmt_select t false))))
    stmt_select (goto_stmt keyword name semi) kept = nothing
    stmt_select (continue_stmt keyword semi) kept = nothing
    stmt_select (break_stmt keyword semi) kept = nothing
    stmt_select (return_stmt keyword no_expr semi) kept = nothing
    stmt_select (return_stmt keyword (some_expr e) semi) kept =
        after (ops.Stmt (stmts.Return keyword semi)) (expr_select e false false) (λ st. refl)
    stmt_select (asm_stmt keyword words group semi) kept = nothing
    stmt_select (case_range keyword e dots e2 colon t) kept =
        in_three (expr_selections u s e) (expr_selections u s e2) (stmt_selections u s t)
        (join (join (quiet_selects (expr_select e false false)) (quiet_selects (expr_select e2 false false)))
        (stmt_select t false))
    stmt_select (goto_value keyword star e semi) kept =
        after (ops.Stmt stmts.Pop) (expr_select e false false) (λ st. refl)

    some_else_select : (other : SomeElse) → Selects k (some_else_tape other) (some_else_selections u s other)
    some_else_select no_else = nothing
    some_else_select (some_else keyword t) = scoped (stmt_select t false)

    for_start_select : (start : ForStart) → Selects k (for_start_tape start) (for_start_selections u s start)
    for_start_select (start_declaration d) = declaration_select d
    for_start_select (start_value e semi) = dropped_select e

  -- functions with lists of identifiers

  old_declrs_select : (ds : InitDeclrs) → Selects k (old_declrs_tape ds) (old_declrs_selections u s ds)
  old_declrs_select no_init_declrs = nothing
  old_declrs_select (more_init_declrs attrs d asm_label attrs2 i ds) =
      in_three (declr_selections u s d) (some_init_selections u s i) (old_declrs_selections u s ds)
      (join (join (after (ops.Declr declrs.OldParam) (silent (contents_select d false) (pieces_none d)) (λ st. refl))
      (some_init_select i))
      (old_declrs_select ds))

  plain_selections : (ds : InitDeclrs) → init_declrs_selections u s ds ≡ old_declrs_selections u s ds
  plain_selections no_init_declrs = refl
  plain_selections (more_init_declrs attrs d asm_label attrs2 i ds) =
      ap (λ (all : List Selection). declr_selections u s d ++ (some_init_selections u s i ++ all)) (plain_selections ds)

  old_declaration_select : (d : Declaration) → Selects k (old_declaration_tape d) (old_declaration_selections u s d)
  old_declaration_select (declaration exts ws ds semi) =
      after (ops.Declr declrs.DeclarationEnd)
      (join (after (ops.Spec specs.SpecsEnd) (words_select ws (declares_tag ws ds)) (λ st. refl))
      (either (are_auto ws ds)
      (λ is. said (auto_declrs_select ds semi (and_second (has_auto ws) (have_values ds) is)) (plain_selections ds))
      (λ is. old_declrs_select ds))) (λ st. refl)

  old_declarations_select : (ds : List Declaration)
      → Selects k (old_declarations_tape ds) (old_declarations_selections u s ds)
  old_declarations_select [] = nothing
  old_declarations_select (d ∷ ds) = join (old_declaration_select d) (old_declarations_select ds)

  old_contents_select : (ds : List Declaration) (d : Declr)
      → Selects k (old_contents ds d) (old_declr_selections u s ds d)
  old_contents_select ds (identifiers d opening names closing) =
      after (ops.Declr declrs.ParamsEnd)
      (join (silent (after (ops.Declr (declrs.ParamsBegin true)) (contents_select d false) (λ st. refl))
      (identifiers_none names)) (old_declarations_select ds)) (λ st. refl)
  old_contents_select ds (pointer star words d) = old_contents_select ds d
  old_contents_select ds (declr_paren opening attrs d closing) = old_contents_select ds d
  old_contents_select ds (array d opening words size closing) = join (old_contents_select ds d) (some_size_select size)
  old_contents_select ds (params d opening ps dots closing) =
      join (old_contents_select ds d) (params_with_select false ps (params_select ps))
  old_contents_select ds (declr_name token name) = contents_select (declr_name token name) false
  old_contents_select ds (base_name token) = nothing
  old_contents_select ds (abs_pointer star words d) = contents_select (abs_pointer star words d) false
  old_contents_select ds (abs_paren opening attrs d closing) = contents_select (abs_paren opening attrs d closing) false
  old_contents_select ds (abs_array d opening words size closing) =
      contents_select (abs_array d opening words size closing) false
  old_contents_select ds (abs_params d opening ps dots closing) =
      contents_select (abs_params d opening ps dots closing) false

  -- a function, by the contents of its declarator
  function_select : (ws : SpecWords) (d : Declr) (items : BlockItems) {ops_of : List Op} (f : List Selection)
      → Selects k ops_of f →
      Selects k (specs_with (words_tape false ws) ++ ops_of ++ pieces d ++ ops.Declr declrs.Declare ∷ []
      ++ ops.Stmt stmts.FunctionBody ∷ []
      ++ block_items_tape false items ++ ops.Stmt stmts.FunctionEnd ∷ [] ++ ops.Declr declrs.DeclarationEnd ∷ [])
      (words_selections u s ws ++ (f ++ block_items_selections u s items))
  function_select ws d items f p =
      after (ops.Declr declrs.DeclarationEnd) (after (ops.Stmt stmts.FunctionEnd)
      (in_three (words_selections u s ws) f (block_items_selections u s items)
      (join (after (ops.Stmt stmts.FunctionBody) (after (ops.Declr declrs.Declare)
      (silent (join (after (ops.Spec specs.SpecsEnd) (words_select ws false) (λ st. refl)) p) (pieces_none d))
      (λ st. refl)) (λ st. refl))
      (block_items_select items false))) (λ st. refl)) (λ st. refl)

  item_select : (item : Item) → Selects k (item_tape item) (item_selections u s item)
  item_select (function_item exts ws d attrs opening items closing) =
      function_select ws d items (declr_selections u s d) (contents_select d true)
  item_select (old_function_item exts ws d attrs ds opening items closing) =
      function_select ws d items (old_declr_selections u s ds d) (old_contents_select ds d)
  item_select (decl_item d) = decl_select d
  item_select (asm_item keyword group semi) = nothing
  item_select (semi_item semi) = nothing

  items_select : (items : List Item) → Selects k (tape_of items) (items_selections u s items)
  items_select [] = nothing
  items_select (item ∷ items) = join (item_select item) (items_select items)

-- the law: the selections of a unit are those that are found on its tape
pub selections_are_found : ShapesAreLeft → AddressedAreLeft → OldNamesAreLeft → SelectionsAreFound
selections_are_found shaped addressed olds u s items =
    (items_select
    (record { spelling = u; names = s; shaped = shaped; addressed = addressed; named = olds }) items).are no_operands

-- programs

-- the selections on the tapes of sources are those that the rules find on their trees
sources_select : SelectionsAreFound → (s : Names) (sources : List Source)
    → selections_on s sources ≡ selections_among s sources
sources_select law s [] = refl
sources_select law s (it ∷ sources) =
    ap (λ (all : List Selection). all ++ selections_on s sources) (law it.spelling s it.items)
    ∙ ap (λ (all : List Selection). items_selections it.spelling s it.items ++ all) (sources_select law s sources)

pub selections_of_program_are_found : SelectionsAreFound → SelectionsOfProgramAreFound
selections_of_program_are_found law sources = sources_select law (names_of sources) sources
