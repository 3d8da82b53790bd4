-- The stacks behind parts of a tree.
use Rattle.std.proofs.Common.{◌≡◌, ℕ, zero, suc, ◌-◌, ◌+◌, Bool, true, false, List, [], ◌∷◌, ◌++◌, length, drop, Option, None, Some, refl, sym, ◌∙◌, ap, append_assoc, arith, length-append}
use Rattle.std.specs.Prelude.{◌&&◌, if◌then◌else◌, take, reverse}
use Rattle.std.proofs.lemmas.List.{reverse-append, append-nil}
use Rattle.c_tree.specs.Tree.{Expr, Operator, comma, assign, cond, binary, SomeExpr, no_expr, some_expr, Exprs, no_exprs, more_exprs, SpecWords, Declr, SomeDeclr, Init, init_value, init_braced, InitList, init_list, InitItems, no_init_items, more_init_items, InitDeclrs, no_init_declrs, more_init_declrs, BlockItems, no_block_items, more_block_items, BlockItem, block_decl, block_stmt, Stmt, block, expr_stmt, attr_stmt, label, case_stmt, default_stmt, if_stmt, switch_stmt, while_stmt, do_stmt, for_stmt, goto_stmt, continue_stmt, break_stmt, return_stmt, asm_stmt, case_range, goto_value, block_labels, Assocs, no_assocs, more_assocs, Assoc, typed_assoc, default_assoc}
use Rattle.c_tape.specs.Tests.{is_end, ends_in_value}
use Rattle.c_tape.specs.Tape.{count, assoc_count}
use Rattle.type_table.specs.Types.{CType}
use Rattle.name_rules.specs.Spellings.{Named}
use Rattle.name_rules.specs.Uses.{type_named_at}
use Rattle.c_tree.specs.Firsts.{first_word}
use Rattle.type_rules.specs.Tokens.{declared_name, some_declared_name}
use Rattle.type_rules.specs.Shapes.{is_zero}
use Rattle.qual_types.specs.Skel.{Skel}
use Rattle.row_rules.specs.Worlds.{World, at}
use Rattle.row_rules.specs.Vals.{Val, Candidate, a_value, value, own}
use Rattle.row_rules.specs.Rows.{initialised}
use Rattle.constraint_rules.specs.Values.{val, candidate_in, candidates_of, items_value}
use Rattle.row_rules.specs.RowSteps.State.{State, Operand, expression, named_type, first_operand, val_of_operand}
use Rattle.name_rules.specs.ShapeSteps.Steps.{twice}
use Rattle.row_rules.specs.RowSteps.Steps.{initialised_by, selected, candidate_at}
use Rattle.row_laws.proofs.Goes.{Over, Stacks}
use Rattle.resolve_laws.proofs.ShapeLaws.Blocks as blocks
use Rattle.resolve_laws.proofs.ShapeLaws.Lists.{drop_one_more, take_above}

-- an operand more
abbrev pub with_operand : Operand → Stacks → Stacks
with_operand it c = record c { operands = it ∷ c.operands }

-- a value more, in the place of so many operands
abbrev pub with_val : ℕ → Val → Stacks → Stacks
with_val n v c = record c { operands = expression v false ∷ drop n c.operands }

-- a type that was named
abbrev pub with_value : Option CType → Stacks → Stacks
with_value t c = with_operand (named_type t) c

abbrev pub with_leaves : List Operand → Stacks → Stacks
with_leaves operands c = record c { operands = operands ++ c.operands }

-- the value of the operand on top
abbrev pub top_value : List Operand → Skel
top_value operands = value (val_of_operand (first_operand operands))

-- the end of a block that begins at a token, by whether it keeps a value
abbrev pub block_put : World → ℕ → Bool → Stacks → Stacks
block_put w token kept c =
    if kept then with_val 1 (a_value (top_value c.operands)) c else with_val 0 (a_value (own w token)) c

-- expressions

module _ (k : Over) where
  abbrev pub operand_of : Expr → Operand
  operand_of e = expression (val k.world e) (is_zero k.world.spelling k.world.names e)

  abbrev pub with_expr : Expr → Stacks → Stacks
  with_expr e c = with_operand (operand_of e) c

  abbrev pub with_some_expr : SomeExpr → Stacks → Stacks
  with_some_expr no_expr c = c
  with_some_expr (some_expr e) c = with_expr e c

  abbrev pub with_middle : Operator → Stacks → Stacks
  with_middle comma c = c
  with_middle (assign p) c = c
  with_middle (cond middle colon) c = with_some_expr middle c
  with_middle (binary p) c = c

  abbrev pub arguments_on : Exprs → List Operand → List Operand
  arguments_on no_exprs operands = operands
  arguments_on (more_exprs e es) operands = arguments_on es (operand_of e ∷ operands)

  abbrev pub with_arguments : Exprs → Stacks → Stacks
  with_arguments es c = record c { operands = arguments_on es c.operands }

  -- what lies under arguments, under so many more operands
  pub under_more : (es : Exprs) (n : ℕ) (operands : List Operand) →
      drop (count es + n) (arguments_on es operands) ≡ drop n operands
  under_more no_exprs n operands =
      ap (λ (m : ℕ). drop m operands) (let same : 0 + n ≡ n = omega arith in same)
  under_more (more_exprs e es) n operands =
      ap (λ (m : ℕ). drop m (arguments_on es (operand_of e ∷ operands)))
      (let same : suc (count es) + n ≡ count es + suc n = omega arith in same)
      ∙ under_more es (suc n) (operand_of e ∷ operands)

  -- what is called lies under its arguments
  pub under_arguments : (es : Exprs) (operands : List Operand) → drop (count es) (arguments_on es operands) ≡ operands
  under_arguments no_exprs operands = refl
  under_arguments (more_exprs e es) operands =
      drop_one_more (count es) (arguments_on es (operand_of e ∷ operands)) (operand_of e) operands
      (under_arguments es (operand_of e ∷ operands))

  abbrev pub type_at_words : SpecWords → Option CType
  type_at_words ws = type_named_at k.world.names.type_names (at k.world (first_word ws))

  -- associations: of each its type, and above that its expression

  abbrev pub assoc_on : Assoc → List Operand → List Operand
  assoc_on (typed_assoc ws d colon e) operands = operand_of e ∷ named_type (type_at_words ws) ∷ operands
  assoc_on (default_assoc keyword colon e) operands = operand_of e ∷ named_type None ∷ operands

  abbrev pub assocs_on : Assocs → List Operand → List Operand
  assocs_on no_assocs operands = operands
  assocs_on (more_assocs x xs) operands = assocs_on xs (assoc_on x operands)

  abbrev pub with_assoc : Assoc → Stacks → Stacks
  with_assoc x c = record c { operands = assoc_on x c.operands }

  abbrev pub with_assocs : Assocs → Stacks → Stacks
  with_assocs xs c = record c { operands = assocs_on xs c.operands }

  under_assoc : (x : Assoc) (n : ℕ) (all operands : List Operand) → drop (twice n) all ≡ assoc_on x operands →
      drop (twice (suc n)) all ≡ operands
  under_assoc (typed_assoc ws d colon e) n all operands h =
      let two_more : twice (suc n) ≡ suc (suc (twice n)) = omega arith in
      ap (λ (m : ℕ). drop m all) two_more
      ∙ drop_one_more (suc (twice n)) all _ operands (drop_one_more (twice n) all _ _ h)
  under_assoc (default_assoc keyword colon e) n all operands h =
      let two_more : twice (suc n) ≡ suc (suc (twice n)) = omega arith in
      ap (λ (m : ℕ). drop m all) two_more
      ∙ drop_one_more (suc (twice n)) all _ operands (drop_one_more (twice n) all _ _ h)

  -- the control lies under the associations
  pub under_assocs : (xs : Assocs) (operands : List Operand)
      → drop (twice (assoc_count xs)) (assocs_on xs operands) ≡ operands
  under_assocs no_assocs operands = refl
  under_assocs (more_assocs x xs) operands =
      under_assoc x (assoc_count xs) (assocs_on xs (assoc_on x operands)) operands
      (under_assocs xs (assoc_on x operands))

  assoc_kept : (x : Assoc) (n : ℕ) (operands : List Operand) (st : State)
      → drop (twice n) st.operands ≡ assoc_on x operands →
      candidate_at (twice n) st ≡ candidate_in k.world x
  assoc_kept (typed_assoc ws d colon e) n operands st h = rw h refl
  assoc_kept (default_assoc keyword colon e) n operands st h = rw h refl

  candidate_more : (is : Bool) (it : Candidate) (all : List Candidate) →
      (if is then it ∷ [] else []) ++ all ≡ (if is then it ∷ all else all)
  candidate_more true it all = refl
  candidate_more false it all = refl

  -- the candidates of a selection, as they lie on the stack
  pub assocs_kept : (xs : Assocs) (token i : ℕ) (operands : List Operand) (st : State)
      → st.operands ≡ assocs_on xs operands →
      selected k.world token i (assoc_count xs) st ≡ candidates_of k.world token i xs
  assocs_kept no_assocs token i operands st is = refl
  assocs_kept (more_assocs x xs) token i operands st is =
      ap (λ (it : Candidate). (if k.world.candidate (at k.world token) i then it ∷ [] else [])
      ++ selected k.world token (suc i) (assoc_count xs) st)
      (assoc_kept x (assoc_count xs) operands st (ap (drop (twice (assoc_count xs))) is
      ∙ under_assocs xs (assoc_on x operands)))
      ∙ (ap (λ (all : List Candidate).
      (if k.world.candidate (at k.world token) i then candidate_in k.world x ∷ [] else []) ++ all)
      (assocs_kept xs token (suc i) (assoc_on x operands) st is)
      ∙ candidate_more (k.world.candidate (at k.world token) i) (candidate_in k.world x)
      (candidates_of k.world token (suc i) xs))

  -- initialisers: the operands of one as they lie on the stack, the last one first

  abbrev mutual
    pub leaves : Init → List Operand
    leaves (init_value e) = operand_of e ∷ []
    leaves (init_braced list) = leaves_in list

    pub leaves_in : InitList → List Operand
    leaves_in (init_list opening items last closing) = leaves_of items

    pub leaves_of : InitItems → List Operand
    leaves_of no_init_items = []
    leaves_of (more_init_items ds equal init items) = leaves_of items ++ leaves init

  -- and in the order of the text, before others

  abbrev mutual
    pub taken : Init → List Operand → List Operand
    taken (init_value e) rest = operand_of e ∷ rest
    taken (init_braced list) rest = taken_in list rest

    pub taken_in : InitList → List Operand → List Operand
    taken_in (init_list opening items last closing) rest = taken_of items rest

    pub taken_of : InitItems → List Operand → List Operand
    taken_of no_init_items rest = rest
    taken_of (more_init_items ds equal init items) rest = taken init (taken_of items rest)

  mutual
    reversed : (i : Init) (rest : List Operand) → reverse (leaves i) ++ rest ≡ taken i rest
    reversed (init_value e) rest = refl
    reversed (init_braced list) rest = reversed_in list rest

    pub reversed_in : (list : InitList) (rest : List Operand) → reverse (leaves_in list) ++ rest ≡ taken_in list rest
    reversed_in (init_list opening items last closing) rest = reversed_of items rest

    reversed_of : (items : InitItems) (rest : List Operand) → reverse (leaves_of items) ++ rest ≡ taken_of items rest
    reversed_of no_init_items rest = refl
    reversed_of (more_init_items ds equal init items) rest =
        ap (λ (xs : List Operand). xs ++ rest) (reverse-append (leaves_of items) (leaves init))
        ∙ (append_assoc (reverse (leaves init)) (reverse (leaves_of items)) rest
        ∙ (ap (λ (xs : List Operand). reverse (leaves init) ++ xs) (reversed_of items rest)
        ∙ reversed init (taken_of items rest)))

  -- the operands of a list that lie above others, in the order of the text
  pub taken_above : (list : InitList) (operands : List Operand) →
      reverse (take (length (leaves_in list ++ operands) - length operands) (leaves_in list ++ operands)) ≡
      taken_in list []
  taken_above list operands =
      ap reverse (take_above (leaves_in list) operands)
      ∙ (sym (append-nil (reverse (leaves_in list))) ∙ reversed_in list [])

  -- blocks that keep the value of their last expression

  abbrev pub with_stmt : Bool → Stmt → Stacks → Stacks
  with_stmt kept s c = blocks.with_stmt with_some_expr kept s c

  abbrev pub with_block_item : Bool → BlockItem → Stacks → Stacks
  with_block_item kept item c = blocks.with_block_item with_some_expr kept item c

  abbrev pub with_items : Bool → BlockItems → Stacks → Stacks
  with_items kept items c = blocks.with_items with_some_expr kept items c

  pub no_stmt_kept : (s : Stmt) (c : Stacks) → with_stmt false s c ≡ c
  no_stmt_kept s c = blocks.no_stmt_kept with_some_expr s c

  pub no_item_kept : (item : BlockItem) (c : Stacks) → with_block_item false item c ≡ c
  no_item_kept item c = blocks.no_item_kept with_some_expr item c

  pub none_kept : (items : BlockItems) (c : Stacks) → with_items false items c ≡ c
  none_kept items c = blocks.none_kept with_some_expr items c

  -- the value of a block
  pub value_kept : (token : ℕ) (items : BlockItems) (c : Stacks) →
      block_put k.world token (ends_in_value items) (with_items true items c) ≡
      with_val 0 (a_value (items_value k.world token items)) c
  value_kept token no_block_items c = refl
  value_kept token (more_block_items (block_decl d) no_block_items) c = refl
  value_kept token (more_block_items (block_stmt (block opening items closing)) no_block_items) c = refl
  value_kept token (more_block_items (block_stmt (expr_stmt no_expr semi)) no_block_items) c = refl
  value_kept token (more_block_items (block_stmt (expr_stmt (some_expr e) semi)) no_block_items) c = refl
  value_kept token (more_block_items (block_stmt (attr_stmt attrs semi)) no_block_items) c = refl
  value_kept token (more_block_items (block_stmt (label name colon attrs s)) no_block_items) c = refl
  value_kept token (more_block_items (block_stmt (case_stmt keyword e colon s)) no_block_items) c = refl
  value_kept token (more_block_items (block_stmt (default_stmt keyword colon s)) no_block_items) c = refl
  value_kept token (more_block_items (block_stmt (if_stmt keyword opening e closing s other)) no_block_items) c = refl
  value_kept token (more_block_items (block_stmt (switch_stmt keyword opening e closing s)) no_block_items) c = refl
  value_kept token (more_block_items (block_stmt (while_stmt keyword opening e closing s)) no_block_items) c = refl
  value_kept token
      (more_block_items (block_stmt (do_stmt keyword s keyword2 opening e closing semi)) no_block_items) c =
      refl
  value_kept token
      (more_block_items (block_stmt (for_stmt keyword opening start e semi e2 closing s)) no_block_items) c =
      refl
  value_kept token (more_block_items (block_stmt (goto_stmt keyword name semi)) no_block_items) c = refl
  value_kept token (more_block_items (block_stmt (continue_stmt keyword semi)) no_block_items) c = refl
  value_kept token (more_block_items (block_stmt (break_stmt keyword semi)) no_block_items) c = refl
  value_kept token (more_block_items (block_stmt (return_stmt keyword e semi)) no_block_items) c = refl
  value_kept token (more_block_items (block_stmt (asm_stmt keyword words group semi)) no_block_items) c = refl
  value_kept token (more_block_items (block_stmt (case_range keyword e dots e2 colon s)) no_block_items) c = refl
  value_kept token (more_block_items (block_stmt (goto_value keyword star e semi)) no_block_items) c = refl
  value_kept token (more_block_items (block_labels keyword names semi) no_block_items) c = refl
  value_kept token (more_block_items item (more_block_items item2 items)) c =
      ap (λ (it : Stacks). block_put k.world token (ends_in_value (more_block_items item2 items))
      (with_items true (more_block_items item2 items) it)) (no_item_kept item c) ∙
      value_kept token (more_block_items item2 items) c

-- open declarations

abbrev pub declaring : Option ℕ → Option ℕ → Stacks → Stacks
declaring name declared c = record c { declarations = record { name = name; declared = declared } ∷ c.declarations }

abbrev pub token_of : Option Named → Option ℕ
token_of None = None
token_of (Some it) = Some it.token

abbrev pub token_in : Declr → Option ℕ
token_in d = token_of (declared_name d)

abbrev pub token_in_some : SomeDeclr → Option ℕ
token_in_some d = token_of (some_declared_name d)

-- the name declared last, behind these declarators
abbrev pub declared_in : InitDeclrs → Option ℕ → Option ℕ
declared_in no_init_declrs declared = declared
declared_in (more_init_declrs attrs d asm_label attrs2 init ds) declared = declared_in ds (token_in d)

-- what an initialiser initialises is said by the name before it
pub target_named : (w : World) (name : Option Named) → initialised_by w (token_of name) ≡ initialised w name
target_named w None = refl
target_named w (Some it) = refl
