-- The stacks behind parts of a tree.
use Rattle.std.proofs.Common.{◌≡◌, ℕ, Bool, true, false, List, [], ◌∷◌, ◌++◌, drop, Option, None, Some, refl, ◌∙◌, ap}
use Rattle.std.specs.Prelude.{if◌then◌else◌}
use Rattle.c_tree.specs.Tree.{Expr, Operator, comma, assign, cond, binary, SomeExpr, no_expr, some_expr, Exprs, no_exprs, more_exprs, SpecWords, Declr, SomeDeclr, Init, init_value, init_braced, InitList, init_list, InitItems, no_init_items, more_init_items, InitDeclrs, no_init_declrs, more_init_declrs, BlockItems, no_block_items, more_block_items, BlockItem, block_decl, block_stmt, Stmt, block, expr_stmt, attr_stmt, label, case_stmt, default_stmt, if_stmt, switch_stmt, while_stmt, do_stmt, for_stmt, goto_stmt, continue_stmt, break_stmt, return_stmt, asm_stmt, Assocs, Assoc, block_labels, case_range, goto_value}
use Rattle.c_tape.specs.Tests.{ends_in_value}
use Rattle.c_tape.specs.Tape.{count, assoc_count}
use Rattle.type_table.specs.Types.{CType, void}
use Rattle.name_rules.specs.Spellings.{Named}
use Rattle.name_rules.specs.Values.{a_value}
use Rattle.type_rules.specs.Tokens.{declared_name, some_declared_name}
use Rattle.type_rules.specs.Shapes.{associations_of, items_value}
use Rattle.type_rules.specs.Judging.{declared_type}
use Rattle.name_rules.specs.ShapeSteps.State.{Operand, named_type, State, operand_put, put, value_at}
use Rattle.name_rules.specs.ShapeSteps.Steps.{type_of_name, twice, associations}
use Rattle.resolve_laws.proofs.ShapeLaws.Associations as selected
use Rattle.resolve_laws.proofs.ShapeLaws.Lists.{drop_one_more}
use Rattle.resolve_laws.proofs.ShapeLaws.Blocks as blocks
use Rattle.resolve_laws.proofs.ShapeLaws.Goes.{Over}

-- a type that was named
abbrev pub with_value : Option CType → State → State
with_value t st = operand_put 0 (named_type t) st

abbrev pub with_leaves : List Operand → State → State
with_leaves operands st = record st { operands = operands ++ st.operands }

-- the end of a block, by whether it keeps a value
abbrev pub block_put : Bool → State → State
block_put kept st = if kept then put 1 (a_value (value_at 0 st)) st else put 0 (a_value (Some (void []))) st

-- expressions

module _ (k : Over) where
  abbrev pub operand_of : Expr → Operand
  operand_of e = selected.operand_of k.spelling k.names e

  abbrev pub with_expr : Expr → State → State
  with_expr e st = operand_put 0 (operand_of e) st

  abbrev pub with_some_expr : SomeExpr → State → State
  with_some_expr no_expr st = st
  with_some_expr (some_expr e) st = with_expr e st

  abbrev pub with_middle : Operator → State → State
  with_middle comma st = st
  with_middle (assign p) st = st
  with_middle (cond middle colon) st = with_some_expr middle st
  with_middle (binary p) st = st

  abbrev pub arguments_on : Exprs → List Operand → List Operand
  arguments_on no_exprs operands = operands
  arguments_on (more_exprs e es) operands = arguments_on es (operand_of e ∷ operands)

  abbrev pub with_arguments : Exprs → State → State
  with_arguments es st = record st { operands = arguments_on es st.operands }

  -- what is called lies under its arguments
  pub under_arguments : (es : Exprs) (operands : List Operand) → drop (count es) (arguments_on es operands) ≡ operands
  under_arguments no_exprs operands = refl
  under_arguments (more_exprs e es) operands =
      drop_one_more (count es) (arguments_on es (operand_of e ∷ operands)) (operand_of e) operands
      (under_arguments es (operand_of e ∷ operands))

  abbrev pub type_at_words : SpecWords → Option CType
  type_at_words ws = selected.type_at_words k.spelling k.names ws

  -- associations: of each its type, and above that its expression

  abbrev pub assoc_on : Assoc → List Operand → List Operand
  assoc_on x operands = selected.assoc_on k.spelling k.names x operands

  abbrev pub assocs_on : Assocs → List Operand → List Operand
  assocs_on xs operands = selected.assocs_on k.spelling k.names xs operands

  abbrev pub with_assoc : Assoc → State → State
  with_assoc x st = record st { operands = assoc_on x st.operands }

  abbrev pub with_assocs : Assocs → State → State
  with_assocs xs st = record st { operands = assocs_on xs st.operands }

  -- the control lies under the associations
  pub under_assocs : (xs : Assocs) (operands : List Operand)
      → drop (twice (assoc_count xs)) (assocs_on xs operands) ≡ operands
  under_assocs xs operands = selected.under_assocs k.spelling k.names xs operands

  -- what a selection is made from
  pub assocs_kept : (xs : Assocs) (st : State) →
      associations (assoc_count xs) (with_assocs xs st) ≡ associations_of k.spelling k.names xs
  assocs_kept xs st = selected.assocs_kept k.spelling k.names xs st

  -- initialisers

  abbrev mutual
    pub leaves : Init → List Operand
    leaves (init_value e) = operand_of e ∷ []
    leaves (init_braced list) = leaves_in list

    pub leaves_in : InitList → List Operand
    leaves_in (init_list opening items last closing) = leaves_of items

    pub leaves_of : InitItems → List Operand
    leaves_of no_init_items = []
    leaves_of (more_init_items ds equal init items) = leaves_of items ++ leaves init

  -- blocks that keep the value of their last expression

  abbrev pub with_stmt : Bool → Stmt → State → State
  with_stmt kept s st = blocks.with_stmt with_some_expr kept s st

  abbrev pub with_block_item : Bool → BlockItem → State → State
  with_block_item kept item st = blocks.with_block_item with_some_expr kept item st

  abbrev pub with_items : Bool → BlockItems → State → State
  with_items kept items st = blocks.with_items with_some_expr kept items st

  pub no_stmt_kept : (s : Stmt) (st : State) → with_stmt false s st ≡ st
  no_stmt_kept s st = blocks.no_stmt_kept with_some_expr s st

  pub no_item_kept : (item : BlockItem) (st : State) → with_block_item false item st ≡ st
  no_item_kept item st = blocks.no_item_kept with_some_expr item st

  pub none_kept : (items : BlockItems) (st : State) → with_items false items st ≡ st
  none_kept items st = blocks.none_kept with_some_expr items st

  -- the value of a block
  pub value_kept : (items : BlockItems) (st : State) → block_put (ends_in_value items) (with_items true items st) ≡
      put 0 (a_value (items_value k.spelling k.names items)) st
  value_kept no_block_items st = refl
  value_kept (more_block_items (block_decl d) no_block_items) st = refl
  value_kept (more_block_items (block_stmt (block opening items closing)) no_block_items) st = refl
  value_kept (more_block_items (block_stmt (expr_stmt no_expr semi)) no_block_items) st = refl
  value_kept (more_block_items (block_stmt (expr_stmt (some_expr e) semi)) no_block_items) st = refl
  value_kept (more_block_items (block_stmt (attr_stmt attrs semi)) no_block_items) st = refl
  value_kept (more_block_items (block_stmt (label name colon attrs s)) no_block_items) st = refl
  value_kept (more_block_items (block_stmt (case_stmt keyword e colon s)) no_block_items) st = refl
  value_kept (more_block_items (block_stmt (default_stmt keyword colon s)) no_block_items) st = refl
  value_kept (more_block_items (block_stmt (if_stmt keyword opening e closing s other)) no_block_items) st = refl
  value_kept (more_block_items (block_stmt (switch_stmt keyword opening e closing s)) no_block_items) st = refl
  value_kept (more_block_items (block_stmt (while_stmt keyword opening e closing s)) no_block_items) st = refl
  value_kept (more_block_items (block_stmt (do_stmt keyword s keyword2 opening e closing semi)) no_block_items) st =
      refl
  value_kept (more_block_items (block_stmt (for_stmt keyword opening start e semi e2 closing s)) no_block_items) st =
      refl
  value_kept (more_block_items (block_stmt (goto_stmt keyword name semi)) no_block_items) st = refl
  value_kept (more_block_items (block_stmt (continue_stmt keyword semi)) no_block_items) st = refl
  value_kept (more_block_items (block_stmt (break_stmt keyword semi)) no_block_items) st = refl
  value_kept (more_block_items (block_stmt (return_stmt keyword e semi)) no_block_items) st = refl
  value_kept (more_block_items (block_stmt (asm_stmt keyword words group semi)) no_block_items) st = refl
  value_kept (more_block_items (block_stmt (case_range keyword e dots e2 colon s)) no_block_items) st = refl
  value_kept (more_block_items (block_stmt (goto_value keyword star e semi)) no_block_items) st = refl
  value_kept (more_block_items (block_labels keyword names semi) no_block_items) st = refl
  value_kept (more_block_items item (more_block_items item2 items)) st =
      ap (λ (it : State). block_put (ends_in_value (more_block_items item2 items))
      (with_items true (more_block_items item2 items) it)) (no_item_kept item st) ∙
      value_kept (more_block_items item2 items) st

-- open declarations

abbrev pub declaring : Option ℕ → Option ℕ → State → State
declaring name declared st = record st { declarations = record { name = name; declared = declared } ∷ st.declarations }

abbrev pub token_of : Option Named → Option ℕ
token_of None = None
token_of (Some it) = Some it.token

abbrev pub token_in : Declr → Option ℕ
token_in d = token_of (declared_name d)

abbrev pub token_in_some : SomeDeclr → Option ℕ
token_in_some d = token_of (some_declared_name d)

-- the name declared last, behind these declarators
abbrev pub declared_in : InitDeclrs → Option ℕ → Option ℕ
declared_in no_init_declrs declared = declared
declared_in (more_init_declrs attrs d asm_label attrs2 init ds) declared = declared_in ds (token_in d)

-- an initialiser's target has the type of the name before it
pub target_named : (k : Over) (name : Option Named) → type_of_name k.spelling k.names (token_of name) ≡
    declared_type k.spelling k.names name
target_named k None = refl
target_named k (Some it) = refl
