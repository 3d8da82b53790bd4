-- What is on the stacks of shapes behind parts of a tape, by the law that the tape of an expression leaves its shape.
use Rattle.std.proofs.Common.{◌≡◌, ℕ, zero, suc, arith, Bool, true, false, List, [], ◌∷◌, ◌++◌, drop, Option, None, refl, sym, ◌∙◌, ap}
use Rattle.std.specs.Prelude.{◌&&◌, if◌then◌else◌}
use Rattle.c_words.specs.declared.kinds.Keyword.TheVariants as keywords
use Rattle.c_syntax.specs.declared.parts.Word.{Word}
use Rattle.tape_ops.specs.declared.op.Op.{Op}
use Rattle.tape_ops.specs.declared.form.FormOp.TheVariants as forms
use Rattle.tape_ops.specs.declared.initialiser.InitOp.TheVariants as inits
use Rattle.tape_ops.specs.declared.declarator.DeclrOp.TheVariants as declrs
use Rattle.tape_ops.specs.declared.specifier.SpecOp.TheVariants as specs
use Rattle.tape_ops.specs.declared.statement.StmtOp.TheVariants as stmts
use Rattle.c_tree.specs.Tree.{Expr, cast, sizeof_type, compound, va_arg, Operator, comma, assign, cond, binary, SomeExpr, no_expr, some_expr, SpecWords, Declr, pointer, declr_name, declr_paren, array, params, abs_pointer, abs_paren, abs_array, abs_params, SomeDeclr, no_declr, some_declr, SomeSize, no_size, some_size, size_value, size_star, Params, no_params, more_params, Init, init_value, init_braced, InitList, init_list, InitItems, no_init_items, more_init_items, Desigs, no_desigs, more_desigs, member_desig, index_desig, identifiers, base_name, range_desig, old_desig, Assocs, no_assocs, more_assocs, Assoc, typed_assoc, default_assoc}
use Rattle.c_tree.specs.Ends.{last_token}
use Rattle.c_tree.specs.Firsts.{first_word}
use Rattle.c_tape.specs.Tests.{is_name, says_none}
use Rattle.c_tape.specs.Tape.{tape_in, assocs_tape, assoc_tape, assoc_count, quietly, expr_tape, middle_tape, some_expr_tape, words_tape, specs_with, some_declr_tape, contents, some_contents, some_size_tape, params_tape, params_with, type_name_with, list_tape, rule, rule_of_list, rule_of_items, desigs_tape, desig_tape, form, init, spec, declr, stmt}
use Rattle.type_table.specs.Types.{CType}
use Rattle.name_rules.specs.Spellings.{place, Named}
use Rattle.name_rules.specs.Uses.{type_named_at}
use Rattle.type_rules.specs.Tokens.{declared_name, some_declared_name}
use Rattle.type_rules.specs.Tokens as rule_tokens
use Rattle.type_rules.specs.Shapes.{shape_of, is_zero, associations_of}
use Rattle.name_rules.specs.ShapeSteps.Steps.{twice, associations}
use Rattle.name_rules.specs.ShapeSteps.State.{Operand, named_type, expression, State, operand_put, opened, closed, shape_at, type_at, type_of_operand, first_operand, operands_below}
use Rattle.resolve_laws.specs.ShapeLaws.Laws as laws
use Rattle.resolve_laws.proofs.ShapeLaws.Associations as selected
use Rattle.row_laws.proofs.StartLaws.Found.{Over, behind, run_append}

-- tokens said in two ways

-- open declarations

abbrev pub declaring : Option ℕ → Option ℕ → State → State
declaring name declared st = record st { declarations = record { name = name; declared = declared } ∷ st.declarations }

abbrev pub token_of : Option Named → Option ℕ
token_of it = laws.token_of it

module _ (k : Over) where
  -- expressions

  abbrev pub operand_of : Expr → Operand
  operand_of e = selected.operand_of k.spelling k.names e

  abbrev pub with_expr : Expr → State → State
  with_expr e st = operand_put 0 (operand_of e) st

  abbrev pub with_some_expr : SomeExpr → State → State
  with_some_expr no_expr st = st
  with_some_expr (some_expr e) st = with_expr e st

  abbrev pub with_middle : Operator → State → State
  with_middle comma st = st
  with_middle (assign p) st = st
  with_middle (cond middle colon) st = with_some_expr middle st
  with_middle (binary p) st = st

  pub expr_left : (e : Expr) (called : Bool) (st : State) → behind k st (expr_tape called e) ≡ with_expr e st
  expr_left e called st = k.shaped k.spelling k.names e called st

  pub addressed_left : (e : Expr) (st : State) → behind k st (tape_in false true e) ≡ with_expr e st
  addressed_left e st = k.addressed k.spelling k.names e st

  some_expr_left : (e : SomeExpr) (st : State) → behind k st (some_expr_tape e) ≡ with_some_expr e st
  some_expr_left no_expr st = refl
  some_expr_left (some_expr e) st = expr_left e false st

  middle_left : (op : Operator) (st : State) → behind k st (middle_tape op) ≡ with_middle op st
  middle_left comma st = refl
  middle_left (assign p) st = refl
  middle_left (cond middle colon) st = some_expr_left middle st
  middle_left (binary p) st = refl

  pub operands_left : (e : Expr) (op : Operator) (e2 : Expr) (st : State) →
      behind k st (expr_tape false e ++ middle_tape op ++ expr_tape false e2) ≡
      with_expr e2 (with_middle op (with_expr e st))
  operands_left e op e2 st =
      run_append k (expr_tape false e ++ middle_tape op) (expr_tape false e2) st
      ∙ (expr_left e2 false (behind k st (expr_tape false e ++ middle_tape op))
      ∙ ap (with_expr e2)
      (run_append k (expr_tape false e) (middle_tape op) st
      ∙ (middle_left op (behind k st (expr_tape false e)) ∙ ap (with_middle op) (expr_left e false st))))

  abbrev pub type_at_words : SpecWords → Option CType
  type_at_words ws = selected.type_at_words k.spelling k.names ws

  -- associations: of each its type, and above that its expression

  abbrev pub assoc_on : Assoc → List Operand → List Operand
  assoc_on x operands = selected.assoc_on k.spelling k.names x operands

  abbrev pub assocs_on : Assocs → List Operand → List Operand
  assocs_on xs operands = selected.assocs_on k.spelling k.names xs operands

  abbrev pub with_assocs : Assocs → State → State
  with_assocs xs st = record st { operands = assocs_on xs st.operands }

  -- the control lies under the associations
  pub under_assocs : (xs : Assocs) (operands : List Operand)
      → drop (twice (assoc_count xs)) (assocs_on xs operands) ≡ operands
  under_assocs xs operands = selected.under_assocs k.spelling k.names xs operands

  -- what a selection is made from
  pub assocs_kept : (xs : Assocs) (st : State) →
      associations (assoc_count xs) (with_assocs xs st) ≡ associations_of k.spelling k.names xs
  assocs_kept xs st = selected.assocs_kept k.spelling k.names xs st

  -- types that are named: an expression of the type has it

  abbrev pub type_name_tape : SpecWords → SomeDeclr → List Op
  type_name_tape ws d = type_name_with (words_tape false ws) (some_declr_tape d) (first_word ws)

  abbrev top_type : State → Option CType
  top_type st = (shape_at 0 st).type

  pub cast_type : (ws : SpecWords) (d : SomeDeclr) (e : Expr) (st : State) →
      type_at 1 (behind k st (type_name_tape ws d ++ expr_tape false e)) ≡ type_at_words ws
  cast_type ws d e st = ap top_type
      (sym (run_append k (type_name_tape ws d ++ expr_tape false e) (form (forms.Cast 0 (last_token e))) st)
      ∙ expr_left (cast 0 ws d 0 e) false st)

  pub va_arg_type : (e : Expr) (ws : SpecWords) (d : SomeDeclr) (st : State) →
      type_at 0 (behind k st (expr_tape false e ++ type_name_tape ws d)) ≡ type_at_words ws
  va_arg_type e ws d st = ap top_type
      (sym (run_append k (expr_tape false e ++ type_name_tape ws d) (form (forms.VaArg 0 0)) st)
      ∙ expr_left (va_arg 0 0 e 0 ws d 0) false st)

  -- the list of an initialiser, gone through once more, leaves the operands

  abbrev below : State → Option CType
  below st = type_of_operand (first_operand (operands_below st))

  desigs_keep : (ds : Desigs) (st : State) → below (behind k st (desigs_tape ds)) ≡ below st
  desigs_keep no_desigs st = refl
  desigs_keep (more_desigs (member_desig before name) ds) st =
      desigs_keep ds (behind k st (desig_tape (member_desig before name)))
  desigs_keep (more_desigs (index_desig opening e closing) ds) st =
      desigs_keep ds (behind k st (desig_tape (index_desig opening e closing)))
  desigs_keep (more_desigs (range_desig opening e dots e2 closing) ds) st =
      desigs_keep ds (behind k st (desig_tape (range_desig opening e dots e2 closing)))
  desigs_keep (more_desigs (old_desig name colon) ds) st =
      desigs_keep ds (behind k st (desig_tape (old_desig name colon)))

  mutual
    rule_keeps : (i : Init) (st : State) → below (behind k st (rule i)) ≡ below st
    rule_keeps (init_value e) st = refl
    rule_keeps (init_braced list) st = list_keeps list st

    list_keeps : (list : InitList) (st : State) → below (behind k st (rule_of_list list)) ≡ below st
    list_keeps (init_list opening items last closing) st =
        ap below (run_append k (init inits.ListBegin ++ rule_of_items items) (init inits.ListEnd) st)
        ∙ items_keep items (behind k st (init inits.ListBegin))

    items_keep : (items : InitItems) (st : State) → below (behind k st (rule_of_items items)) ≡ below st
    items_keep no_init_items st = refl
    items_keep (more_init_items ds equal i items) st =
        ap below (run_append k (desigs_tape ds ++ rule i) (rule_of_items items) st)
        ∙ (items_keep items (behind k st (desigs_tape ds ++ rule i))
        ∙ (ap below (run_append k (desigs_tape ds) (rule i) st)
        ∙ (rule_keeps i (behind k st (desigs_tape ds)) ∙ desigs_keep ds st)))

  pub literal_type : (ws : SpecWords) (d : SomeDeclr) (list : InitList) (st : State) →
      below (behind k st (type_name_tape ws d ++ init inits.Begin ++ list_tape list)) ≡ type_at_words ws
  literal_type ws d list st =
      sym (list_keeps list (behind k st (before ++ init (inits.Literal 0)))
      ∙ ap below (run_append k before (init (inits.Literal 0)) st))
      ∙ (sym (ap below (run_append k (before ++ init (inits.Literal 0)) (rule_of_list list) st))
      ∙ ap top_type
      (sym (run_append k (before ++ init (inits.Literal 0) ++ rule_of_list list) (init inits.LiteralEnd) st)
      ∙ expr_left (compound 0 ws d 0 list) false st))
    where
      before : List Op
      before = type_name_tape ws d ++ init inits.Begin ++ list_tape list

  -- what a declaration leaves, before it is closed: the size of its type is an expression

  abbrev without_top : State → State
  without_top st = record st { operands = drop 1 st.operands }

  abbrev sized : State → State
  sized st = behind k st (form (forms.Sizeof 0))

  pub declared_left : (ws : SpecWords) (d : SomeDeclr) (st : State) →
      closed (behind k (opened (behind k st (words_tape false ws))) (some_declr_tape d)) ≡ st
  declared_left ws d st =
      ap without_top
      (sym (run_append k (stmt stmts.Quiet ++ type_name_tape ws d) (form (forms.Sizeof 0)) st
      ∙ (ap sized (run_append k (specs_with (words_tape false ws) ++ some_declr_tape d) name st)
      ∙ ap (λ (it : State). sized (behind k it name))
      (run_append k (specs_with (words_tape false ws)) (some_declr_tape d) st
      ∙ ap (λ (it : State). behind k it (some_declr_tape d))
      (run_append k (words_tape false ws) (spec specs.SpecsEnd) st))))
      ∙ expr_left (sizeof_type word 0 ws d 0) false st)
    where
      word : Word
      word = record { keyword = keywords.Sizeof; token = 0 }

      name : List Op
      name = declr (declrs.TypeName (first_word ws))

  pub words_left : (ws : SpecWords) (st : State) → behind k st (words_tape false ws) ≡ st
  words_left ws st = declared_left ws no_declr st

  -- the name of a type leaves the type
  type_name_left : (ws : SpecWords) (d : SomeDeclr) (st : State) →
      behind k st (type_name_tape ws d) ≡ operand_put 0 (named_type (type_at_words ws)) st
  type_name_left ws d st =
      run_append k (specs_with (words_tape false ws) ++ some_declr_tape d) (declr (declrs.TypeName (first_word ws))) st
      ∙ (ap (λ (it : State).
      operand_put 0 (named_type (type_named_at k.names.type_names (place k.spelling (first_word ws)))) (closed it))
      (run_append k (specs_with (words_tape false ws)) (some_declr_tape d) st
      ∙ ap (λ (it : State). behind k it (some_declr_tape d))
      (run_append k (words_tape false ws) (spec specs.SpecsEnd) st))
      ∙ ap (operand_put 0 (named_type (type_named_at k.names.type_names (place k.spelling (first_word ws)))))
      (declared_left ws d st))

  assoc_left : (x : Assoc) (st : State) → behind k st (assoc_tape x) ≡ record st { operands = assoc_on x st.operands }
  assoc_left (typed_assoc ws d colon e) st =
      run_append k (type_name_tape ws d) (expr_tape false e) st
      ∙ (expr_left e false (behind k st (type_name_tape ws d)) ∙ ap (with_expr e) (type_name_left ws d st))
  assoc_left (default_assoc keyword colon e) st = expr_left e false (operand_put 0 (named_type None) st)

  assocs_left : (xs : Assocs) (st : State) → behind k st (assocs_tape xs) ≡ with_assocs xs st
  assocs_left no_assocs st = refl
  assocs_left (more_assocs x xs) st =
      run_append k (assoc_tape x) (assocs_tape xs) st
      ∙ (assocs_left xs (behind k st (assoc_tape x)) ∙ ap (with_assocs xs) (assoc_left x st))

  -- a selection before its end
  abbrev pub selection_tape : Expr → Assocs → List Op
  selection_tape e xs = stmt stmts.Quiet ++ expr_tape false e ++ form forms.Control ++ assocs_tape xs

  pub selection_left : (e : Expr) (xs : Assocs) (st : State)
      → behind k st (selection_tape e xs) ≡ with_assocs xs (with_expr e st)
  selection_left e xs st =
      run_append k (stmt stmts.Quiet ++ expr_tape false e ++ form forms.Control) (assocs_tape xs) st
      ∙ (assocs_left xs (behind k st (stmt stmts.Quiet ++ expr_tape false e ++ form forms.Control))
      ∙ ap (with_assocs xs)
      (run_append k (stmt stmts.Quiet ++ expr_tape false e) (form forms.Control) st ∙ expr_left e false st))

  -- the operands of a choice
  pub choice_left : (e a b : Expr) (st : State) →
      behind k st (quietly (expr_tape false e) ++ expr_tape false a ++ expr_tape false b) ≡ with_expr b (with_expr a st)
  choice_left e a b st =
      run_append k (quietly (expr_tape false e) ++ expr_tape false a) (expr_tape false b) st
      ∙ (expr_left b false (behind k st (quietly (expr_tape false e) ++ expr_tape false a))
      ∙ ap (with_expr b) (run_append k (quietly (expr_tape false e)) (expr_tape false a) st
      ∙ (expr_left a false (behind k st (quietly (expr_tape false e)))
      ∙ ap (with_expr a) (run_append k (stmt stmts.Quiet ++ expr_tape false e) (stmt stmts.Loud) st
      ∙ ap without_top (expr_left e false st)))))

  -- declarators

  params_left : (ps : Params) (st : State) → behind k st (params_tape ps) ≡ st
  params_left no_params st = refl
  params_left (more_params ws d attrs ps) st =
      run_append k (specs_with (words_tape false ws) ++ some_declr_tape d ++ declr declrs.Param) (params_tape ps) st
      ∙ (params_left ps (behind k st (specs_with (words_tape false ws) ++ some_declr_tape d ++ declr declrs.Param))
      ∙ (run_append k (specs_with (words_tape false ws) ++ some_declr_tape d) (declr declrs.Param) st
      ∙ (ap closed (run_append k (specs_with (words_tape false ws)) (some_declr_tape d) st
      ∙ ap (λ (it : State). behind k it (some_declr_tape d))
      (run_append k (words_tape false ws) (spec specs.SpecsEnd) st))
      ∙ declared_left ws d st)))

  list_left : (none : Bool) (ps : Params) (st : State) →
      behind k st (if none then [] else params_tape ps) ≡ st
  list_left true ps st = refl
  list_left false ps st = params_left ps st

  params_with_left : (own : Bool) (ps : Params) (st : State) →
      behind k st (params_with own (says_none ps) (params_tape ps)) ≡ st
  params_with_left own ps st =
      run_append k (declr (declrs.ParamsBegin own) ++ (if says_none ps then [] else params_tape ps))
      (declr declrs.ParamsEnd) st ∙ list_left (says_none ps) ps st

  size_left : (size : SomeSize) (st : State) → behind k st (some_size_tape size) ≡ st
  size_left no_size st = refl
  size_left (some_size (size_value e)) st =
      run_append k (stmt stmts.Quiet ++ expr_tape false e) (stmt stmts.Loud) st
      ∙ ap without_top (expr_left e false st)
  size_left (some_size (size_star star)) st = refl

  mutual
    pub contents_left : (d : Declr) (own : Bool) (declared : Option ℕ) (st : State) →
        behind k (declaring None declared st) (contents own d) ≡ declaring (token_of (declared_name d)) declared st
    contents_left (pointer star words d) own declared st = contents_left d own declared st
    contents_left (declr_name token name) own declared st = refl
    contents_left (declr_paren opening attrs d closing) own declared st = contents_left d own declared st
    contents_left (array d opening words size closing) own declared st =
        run_append k (contents own d) (some_size_tape size) (declaring None declared st)
        ∙ (size_left size (behind k (declaring None declared st) (contents own d))
        ∙ contents_left d own declared st)
    contents_left (params d opening ps dots closing) own declared st =
        run_append k (contents own d) (params_with (own && is_name d) (says_none ps) (params_tape ps))
        (declaring None declared st)
        ∙ (params_with_left (own && is_name d) ps (behind k (declaring None declared st) (contents own d))
        ∙ contents_left d own declared st)
    contents_left (abs_pointer star words d) own declared st = some_contents_left d declared st
    contents_left (abs_paren opening attrs d closing) own declared st = contents_left d own declared st
    contents_left (abs_array d opening words size closing) own declared st =
        run_append k (some_contents d) (some_size_tape size) (declaring None declared st)
        ∙ (size_left size (behind k (declaring None declared st) (some_contents d))
        ∙ some_contents_left d declared st)
    contents_left (abs_params d opening ps dots closing) own declared st =
        run_append k (some_contents d) (params_with false (says_none ps) (params_tape ps))
        (declaring None declared st)
        ∙ (params_with_left false ps (behind k (declaring None declared st) (some_contents d))
        ∙ some_contents_left d declared st)
    contents_left (identifiers d opening names closing) own declared st =
        run_append k (contents own d ++ declr (declrs.ParamsBegin false)) (declr declrs.ParamsEnd)
        (declaring None declared st)
        ∙ (run_append k (contents own d) (declr (declrs.ParamsBegin false)) (declaring None declared st)
        ∙ contents_left d own declared st)
    contents_left (base_name token) own declared st = refl

    some_contents_left : (d : SomeDeclr) (declared : Option ℕ) (st : State) →
        behind k (declaring None declared st) (some_contents d) ≡
        declaring (token_of (some_declared_name d)) declared st
    some_contents_left no_declr declared st = refl
    some_contents_left (some_declr d) declared st = contents_left d false declared st
