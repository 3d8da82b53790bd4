-- What an op makes of the operands that the tapes of its parts have left, and tapes that are made of others.
use Rattle.std.proofs.Common.{◌≡◌, ℕ, suc, ◌-◌, ◌+◌, Bool, true, false, List, [], ◌∷◌, ◌++◌, length, drop, Option, None, Some, refl, sym, ◌∙◌, ap, arith}
use Rattle.std.specs.Prelude.{◌&&◌, if◌then◌else◌}
use Rattle.c_words.specs.declared.kinds.Punct.{Punct}
use Rattle.c_words.specs.declared.kinds.Punct.TheVariants as signs
use Rattle.tape_ops.specs.declared.op.Op.TheVariants as ops
use Rattle.std.proofs.lemmas.List.{append-nil}
use Rattle.flow_graph.specs.declared.constraint.Constraint.{Constraint}
use Rattle.tape_ops.specs.declared.op.Op.{Op}
use Rattle.tape_ops.specs.declared.specifier.TagKind.{TagKind}
use Rattle.tape_ops.specs.declared.expression.ExprOp.TheVariants as exprs
use Rattle.tape_ops.specs.declared.form.FormOp.TheVariants as forms
use Rattle.tape_ops.specs.declared.statement.StmtOp.TheVariants as stmts
use Rattle.tape_ops.specs.declared.specifier.SpecOp.TheVariants as specs
use Rattle.tape_ops.specs.declared.initialiser.InitOp.TheVariants as inits
use Rattle.tape_ops.specs.declared.declarator.DeclrOp.TheVariants as declrs
use Rattle.c_tree.specs.Tree.{Expr, prefix, index, arrow, generic, Assocs, operation, call, Operator, comma, assign, cond, binary, no_expr, some_expr, Exprs, no_exprs, more_exprs, SpecWords, InitList, init_braced, Params, no_params, more_params}
use Rattle.c_tree.specs.Ends.{first_token, last_token}
use Rattle.c_tree.specs.Addresses.{comes_by_pointer}
use Rattle.name_rules.specs.Checks.{is_star}
use Rattle.c_syntax.specs.declared.parts.Identifier.{Identifier}
use Rattle.c_tree.specs.Firsts.{first_word}
use Rattle.c_tape.specs.Tests.{says_none}
use Rattle.c_tape.specs.Tape.{prefix_tape, assoc_count, expr, form, init, stmt, spec, declr, count, arguments, operator_tape, body_tape, type_name_with, params_with, params_tape, rule_of_list, quietly, in_scope}
use Rattle.type_table.specs.Types.{CType}
use Rattle.name_rules.specs.Spellings.{Named}
use Rattle.qual_types.specs.Skel.{Skel, param_at}
use Rattle.name_rules.specs.ShapeSteps.State.{OpenDeclaration}
use Rattle.row_rules.specs.Worlds.{World, span}
use Rattle.row_rules.specs.Annotations.{has_access, parameters, further}
use Rattle.row_rules.specs.Rows.{carried, index_demand, dereferenced, picked, prefixed, param_kind, literal_row, own_skeleton, assigned, chosen, computed}
use Rattle.row_rules.specs.Rows as rows_of
use Rattle.row_rules.specs.Vals.{Candidate, prefix_of, is_ref, left_of, pick_of, a_value, a_place, contents, value, result, own}
use Rattle.constraint_rules.specs.Values.{val, pointer_to, candidates_of}
use Rattle.constraint_rules.specs.Demands.{demand_in, prefix_demand, zero_at, where_is, list_rule, demand, some_expr_demand}
use Rattle.constraint_rules.specs.Demands as demands
use Rattle.row_rules.specs.RowSteps.Rounds.{Naming, a_name, own_param, other_param, Rounds, is_quiet, naming, with_round, entered, silenced, next_naming, params_naming}
use Rattle.row_rules.specs.RowSteps.State.{Operand, expression, put, State, first_operand, val_of_operand, is_zero_operand, type_of_operand, whole}
use Rattle.name_rules.specs.ShapeSteps.Steps.{twice}
use Rattle.row_rules.specs.RowSteps.Steps.{run, initialised_by, selected, carrying, with_round_step}
use Rattle.row_rules.specs.RowSteps.OpRows.{op_row, naming_row, function_skeleton}
use Rattle.row_laws.proofs.Goes.{Registers, one_at, carried_on, Over, unless, unless_none, Stacks, state, Runs, stay, op_runs, chain, started_from, giving, ending, ending_at, Goes, as_is, one, join, from, next, same, reaching, without, silent_runs, group_two, group_three}
use Rattle.resolve_laws.proofs.ShapeLaws.Lists.{drop_above, drop_one_more}
use Rattle.row_laws.proofs.Stacks.{assocs_on, with_assocs, assocs_kept, under_assocs, with_operand, with_val, top_value, block_put, operand_of, with_expr, with_middle, arguments_on, with_arguments, under_more, under_arguments, with_value, type_at_words, leaves_in, taken_in, taken_above, with_leaves, declaring, token_of}
use Rattle.row_laws.proofs.Rules.{Ruled, ruling, ruled_from, left, list_runs}

-- what the tree says of the function around, is around the tape
abbrev pub IsOwn : Over → Rounds → Type 0
IsOwn k r = k.asked ≡ true → function_skeleton k.world r.body ≡ k.world.own

-- the next declarator's name is no parameter
abbrev pub IsNamed : Over → Rounds → Type 0
IsNamed k r = k.asked ≡ true → naming r ≡ a_name

-- an argument that is passed, so many behind others
abbrev passing : ℕ → State → State
passing i st = record st { passed = i }

abbrev count_on : Exprs → ℕ → ℕ
count_on no_exprs i = i
count_on (more_exprs e es) i = count_on es (suc i)

-- the names of the parameters of a list, by their numbers
abbrev pub nth_naming : Bool → Option ℕ → ℕ → Naming
nth_naming true f i = own_param f i
nth_naming false f i = other_param

first_naming : (own : Bool) (it : OpenDeclaration) (outer : List OpenDeclaration) →
    params_naming own (it ∷ outer) ≡ nth_naming own it.name 0
first_naming true it outer = refl
first_naming false it outer = refl

pub further_naming : (own : Bool) (f : Option ℕ) (i : ℕ) → next_naming (nth_naming own f i) ≡ nth_naming own f (suc i)
further_naming true f i = refl
further_naming false f i = refl

abbrev pub own_skel_of : World → Bool → Option Named → Option Skel
own_skel_of w true it = own_skeleton w it
own_skel_of w false it = None

-- a parameter of the n-th naming has the row of its number where it is own and bare, and else none
pub param_rows : (w : World) (own bare : Bool) (it : Option Named) (i : ℕ) →
    (token : ℕ)
    → naming_row w (nth_naming (own && bare) (token_of it) i) token ≡ param_kind (own_skel_of w own it) bare i
param_rows w false bare it i token = refl
param_rows w true false None i token = refl
param_rows w true false (Some it) i token = refl
param_rows w true true None i token = refl
param_rows w true true (Some it) i token = refl

-- what an operator gives behind its operands
abbrev pub operator_rows : World → Expr → Operator → ℕ → Expr → List Constraint
operator_rows w e comma token e2 = []
operator_rows w e (assign p) token e2 =
    assigned w p (zero_at w e2) (val w e).skel (value (val w e2)) (where_is w (operation e (assign p) token e2))
operator_rows w e (cond no_expr colon) token e2 =
    chosen w (zero_at w e) (zero_at w e2) (value (val w e)) (value (val w e2)) (own w token)
    (where_is w (operation e (cond no_expr colon) token e2))
operator_rows w e (cond (some_expr m) colon) token e2 =
    chosen w (zero_at w m) (zero_at w e2) (value (val w m)) (value (val w e2)) (own w token)
    (where_is w (operation e (cond (some_expr m) colon) token e2))
operator_rows w e (binary p) token e2 =
    computed w p (zero_at w e) (zero_at w e2) (value (val w e)) (value (val w e2)) (own w token)
    (where_is w (operation e (binary p) token e2))

-- the constraints of the middle of a condition, and none of other operators
abbrev pub middle_demand : World → Operator → List Constraint
middle_demand w comma = []
middle_demand w (assign p) = []
middle_demand w (cond middle colon) = some_expr_demand w middle
middle_demand w (binary p) = []

two_parts : (xs ys zs : List Constraint) → ((xs ++ []) ++ ys) ++ zs ≡ xs ++ (ys ++ zs)
two_parts xs ys zs =
    ap (λ (rows : List Constraint). (rows ++ ys) ++ zs) (append-nil xs) ∙ group_two xs ys zs

-- the rows of both operands, of the middle between them and of the operator are the constraints of the operation
pub operation_rows : (w : World) (aims : Bool) (e : Expr) (op : Operator) (token : ℕ) (e2 : Expr) →
    ((demand w e ++ middle_demand w op) ++ demand w e2) ++ operator_rows w e op token e2 ≡
    demand_in w aims (operation e op token e2)
operation_rows w aims e comma token e2 =
    append-nil ((demand w e ++ []) ++ demand w e2)
    ∙ ap (λ (rows : List Constraint). rows ++ demand w e2) (append-nil (demand w e))
operation_rows w aims e (assign p) token e2 =
    two_parts (demand w e) (demand w e2) (operator_rows w e (assign p) token e2)
operation_rows w aims e (cond no_expr colon) token e2 =
    two_parts (demand w e) (demand w e2) (operator_rows w e (cond no_expr colon) token e2)
operation_rows w aims e (cond (some_expr m) colon) token e2 =
    group_three (demand w e) (demand w m) (demand w e2) (operator_rows w e (cond (some_expr m) colon) token e2)
operation_rows w aims e (binary p) token e2 =
    two_parts (demand w e) (demand w e2) (operator_rows w e (binary p) token e2)

module _ (k : Over) (r : Rounds) where
  -- operators

  pub operator_goes : (e : Expr) (op : Operator) (token : ℕ) (e2 : Expr) →
      Goes k r (operator_tape op token (first_token e) (last_token e2))
      (λ c. with_expr k e2 (with_middle k op (with_expr k e c))) (with_expr k (operation e op token e2))
      (operator_rows k.world e op token e2)
  operator_goes e comma token e2 = one [] (λ y c s. refl) (λ c s. refl)
  operator_goes e (assign p) token e2 =
      one (operator_rows k.world e (assign p) token e2) (λ y c s. refl) (λ c s. refl)
  operator_goes e (cond no_expr colon) token e2 =
      one (operator_rows k.world e (cond no_expr colon) token e2) (λ y c s. refl) (λ c s. refl)
  operator_goes e (cond (some_expr m) colon) token e2 =
      one (operator_rows k.world e (cond (some_expr m) colon) token e2) (λ y c s. refl) (λ c s. refl)
  operator_goes e (binary p) token e2 =
      one (operator_rows k.world e (binary p) token e2) (λ y c s. refl) (λ c s. refl)

  pub stmt_expr_goes : (kept : Bool) (token : ℕ) →
      Goes k r (form (forms.StmtExpr kept token)) as_is (block_put k.world token kept) []
  stmt_expr_goes true token = one [] (λ y c s. refl) (λ c s. refl)
  stmt_expr_goes false token = one [] (λ y c s. refl) (λ c s. refl)

  -- an op that comes to a place by a pointer, which is noted where that is only addressed

  abbrev pub noting : Bool → Skel → Registers → Registers
  noting aims pointer s = if aims then record s { carried = pointer } else s

  noted : (aims : Bool) (pointer : Skel) (c : Stacks) (s : Registers) →
      carrying aims pointer (state r c s) ≡ state r c (noting aims pointer s)
  noted true pointer c s = refl
  noted false pointer c s = refl

  pub index_goes : (e : Expr) (opening : ℕ) (e2 : Expr) (closing : ℕ) (aims : Bool) →
      Goes k r (expr (exprs.Index opening (first_token e) closing aims)) (λ c. with_expr k e2 (with_expr k e c))
      (with_expr k (index e opening e2 closing))
      (index_demand k.world (value (val k.world e)) (value (val k.world e2)) aims
      (where_is k.world (index e opening e2 closing)))
  index_goes e opening e2 closing aims =
      one_at (with_expr k (index e opening e2 closing)) (λ c s. noting aims by s)
      (index_demand k.world (value (val k.world e)) (value (val k.world e2)) aims
      (where_is k.world (index e opening e2 closing)))
      (λ y c s. refl)
      (λ c s. ap (put_over (with_expr k e2 (with_expr k e c)) s) (noted aims by (with_expr k e2 (with_expr k e c)) s))
    where
      by : Skel
      by = if is_ref (value (val k.world e)) then value (val k.world e) else value (val k.world e2)

      put_over : Stacks → Registers → State → State
      put_over c s st = with_round_step (state r c s) (ops.Expr (exprs.Index opening (first_token e) closing aims))
          (put 2 (val k.world (index e opening e2 closing)) st)

  pub arrow_goes : (e : Expr) (token : ℕ) (name : Identifier) (aims : Bool) →
      Goes k r (expr (exprs.Arrow token (first_token e) name.token aims)) (with_expr k e)
      (with_val 0 (a_value (contents (value (val k.world e)))))
      (dereferenced k.world (value (val k.world e)) aims (where_is k.world (arrow e token name)))
  arrow_goes e token name aims =
      one_at (with_val 0 (a_value (contents (value (val k.world e))))) (λ c s. noting aims (value (val k.world e)) s)
      (dereferenced k.world (value (val k.world e)) aims (where_is k.world (arrow e token name)))
      (λ y c s. refl)
      (λ c s. ap (put_over (with_expr k e c) s) (noted aims (value (val k.world e)) (with_expr k e c) s))
    where
      put_over : Stacks → Registers → State → State
      put_over c s st = with_round_step (state r c s) (ops.Expr (exprs.Arrow token (first_token e) name.token aims))
          (put 1 (a_value (contents (value (val k.world e)))) st)

  -- `&`, whose operand came to its place by a pointer or did not
  address_goes : (token : ℕ) (e : Expr) {addressed : List Op} {fs : List Constraint} →
      Goes k r addressed as_is (with_expr k e) fs →
      (comes_by_pointer false e ≡ true → (c : Stacks) (s : Registers) →
      (run k.world (state r c s) addressed).carried ≡ pointer_to k.world e) →
      (comes : Bool) → comes_by_pointer false e ≡ comes →
      Goes k r (addressed ++ expr (exprs.Prefix signs.Ampersand token (last_token e) comes)) as_is
      (with_val 0 (prefix_of k.world token signs.Ampersand (val k.world e) comes))
      (fs ++ (if comes && has_access k.world.lattices
      then carried k.world (val k.world e).skel (pointer_to k.world e) (own k.world token)
      (span k.world token token) else []))
  address_goes token e p by true is =
      carried_on (ops.Expr (exprs.Prefix signs.Ampersand token (last_token e) true)) (pointer_to k.world e)
      (if has_access k.world.lattices then carried k.world (val k.world e).skel (pointer_to k.world e)
      (own k.world token) (span k.world token token) else []) p (by is)
      (λ y c s same. ap (λ (pointer : Skel). unless (is_quiet r) (if has_access k.world.lattices then carried k.world
      (val k.world e).skel pointer (own k.world token) (span k.world token token) else [])) same) (λ c s. refl)
  address_goes token e p by false is = join p (one [] (λ y c s. refl) (λ c s. refl))

  -- an operator before its operand, by what the tape of that does where it is only addressed and where it is taken
  pub prefix_goes : (token : ℕ) (p : Punct) (e : Expr) (aims : Bool) {addressed taken : List Op}
      {fs gs : List Constraint} →
      Goes k r addressed as_is (with_expr k e) fs →
      (comes_by_pointer false e ≡ true → (c : Stacks) (s : Registers) →
      (run k.world (state r c s) addressed).carried ≡ pointer_to k.world e) →
      Goes k r taken as_is (with_expr k e) gs →
      Goes k r (prefix_tape token p e aims addressed taken) as_is (with_expr k (prefix token p e))
      (prefix_demand k.world aims token p e fs gs)
  prefix_goes token signs.Ampersand e aims p by q = address_goes token e p by (comes_by_pointer false e) refl
  prefix_goes token sign e aims p by q =
      join q (one_at (with_expr k (prefix token sign e))
      (λ c s. noting (aims && is_star sign) (value (val k.world e)) s)
      (prefixed k.world sign (zero_at k.world e) (val k.world e) (own k.world token) aims
      (where_is k.world (prefix token sign e)))
      (λ y c s. refl)
      (λ c s. ap (λ (st : State).
      with_round_step (state r (with_expr k e c) s) (ops.Expr (exprs.Prefix sign token (last_token e) aims))
      (put 1 (prefix_of k.world token sign (val k.world e) aims) st))
      (noted (aims && is_star sign) (value (val k.world e)) (with_expr k e c) s)))

  -- selections

  pub generic_goes : (keyword opening : ℕ) (e : Expr) (xs : Assocs) (closing : ℕ) →
      Goes k r (form (forms.Generic keyword (assoc_count xs))) (λ c. with_assocs k xs (with_expr k e c))
      (with_expr k (generic keyword opening e xs closing))
      (picked k.world (left_of (candidates_of k.world keyword 0 xs)) (own k.world keyword)
      (span k.world keyword keyword))
  generic_goes keyword opening e xs closing =
      one_at (with_expr k (generic keyword opening e xs closing)) (λ c s. s) (picked k.world
      (left_of (candidates_of k.world keyword 0 xs)) (own k.world keyword) (span k.world keyword keyword)) found kept
    where
      found : k.asked ≡ true → (c : Stacks) (s : Registers) →
          op_row k.world (state r (with_assocs k xs (with_expr k e c)) s)
          (ops.Form (forms.Generic keyword (assoc_count xs))) ≡
          unless (is_quiet r) (picked k.world (left_of (candidates_of k.world keyword 0 xs)) (own k.world keyword)
          (span k.world keyword keyword))
      found y c s =
          ap (λ (all : List Candidate). unless (is_quiet r) (picked k.world (left_of all) (own k.world keyword)
          (span k.world keyword keyword)))
          (assocs_kept k xs keyword 0 (operand_of k e ∷ c.operands)
          (state r (with_assocs k xs (with_expr k e c)) s) refl)

      kept : (c : Stacks) (s : Registers) → state r (record c {
        operands = expression (pick_of (own k.world keyword)
            (selected k.world keyword 0 (assoc_count xs) (state r (with_assocs k xs (with_expr k e c)) s))) false
            ∷ drop (suc (twice (assoc_count xs))) (assocs_on k xs (operand_of k e ∷ c.operands));
      }) s ≡ state r (with_expr k (generic keyword opening e xs closing) c) s
      kept c s =
          ap (λ (all : List Candidate). state r (record c {
            operands = expression (pick_of (own k.world keyword) all) false
                ∷ drop (suc (twice (assoc_count xs))) (assocs_on k xs (operand_of k e ∷ c.operands));
          }) s)
          (assocs_kept k xs keyword 0 (operand_of k e ∷ c.operands)
          (state r (with_assocs k xs (with_expr k e c)) s) refl)
          ∙ ap (λ (operands : List Operand). state r (record c {
            operands = expression (pick_of (own k.world keyword) (candidates_of k.world keyword 0 xs)) false ∷ operands;
          }) s)
          (drop_one_more (twice (assoc_count xs)) (assocs_on k xs (operand_of k e ∷ c.operands))
          (operand_of k e) c.operands
          (under_assocs k xs (operand_of k e ∷ c.operands)))

  -- calls

  -- the skeleton of a function that lies under operands
  abbrev called_under : List Operand → Skel
  called_under operands = contents (top_value operands)

  abbrev argument_row : Operand → ℕ → Skel → Expr → List Constraint
  argument_row it i f e =
      rows_of.passed k.world (is_zero_operand it) (value (val_of_operand it)) (param_at (parameters f) i) (further f)
      (where_is k.world e)

  argument_found : (e : Expr) (es : Exprs) (i : ℕ) (below : List Operand) (callee : Operand) →
      first_operand (drop i below) ≡ callee →
      argument_row (first_operand (drop (count es) (arguments_on k es (operand_of k e ∷ below)))) i
      (called_under (drop (suc (count es + i)) (arguments_on k es (operand_of k e ∷ below)))) e ≡
      argument_row (operand_of k e) i (contents (value (val_of_operand callee))) e
  argument_found e es i below callee is =
      ap (λ (operands : List Operand). argument_row (first_operand operands) i
      (called_under (drop (suc (count es + i)) (arguments_on k es (operand_of k e ∷ below)))) e)
      (under_arguments k es (operand_of k e ∷ below))
      ∙ (ap (λ (operands : List Operand). argument_row (operand_of k e) i (called_under operands) e) under
      ∙ ap (λ (it : Operand). argument_row (operand_of k e) i (contents (value (val_of_operand it))) e) is)
    where
      under : drop (suc (count es + i)) (arguments_on k es (operand_of k e ∷ below)) ≡ drop i below
      under =
          ap (λ (n : ℕ). drop n (arguments_on k es (operand_of k e ∷ below)))
          (let same : suc (count es + i) ≡ count es + suc i = omega arith in same)
          ∙ under_more k es (suc i) (operand_of k e ∷ below)

  pub arguments_run : (es : Exprs) (i : ℕ) (below : Stacks → List Operand) (callee : Operand) →
      ((c : Stacks) → first_operand (drop i (below c)) ≡ callee) →
      Runs k (is_quiet r) Stacks (arguments es)
      (λ c s. passing i (state r (record c { operands = arguments_on k es (below c) }) s))
      (λ c s. passing (count_on es i) (state r (record c { operands = arguments_on k es (below c) }) s))
      (demands.arguments k.world (contents (value (val_of_operand callee))) i es)
  arguments_run no_exprs i below callee is = stay
  arguments_run (more_exprs e es) i below callee is =
      chain (op_runs (argument_row (operand_of k e) i (contents (value (val_of_operand callee))) e)
      (λ y c s. ap (unless (is_quiet r)) (argument_found e es i (below c) callee (is c))))
      (arguments_run es (suc i) (λ c. operand_of k e ∷ below c) callee is)

  -- a call, by what is called and its arguments
  pub call_goes : {tape : List Op} {rows : List Constraint} (f : Expr) (opening : ℕ) (es : Exprs) (closing : ℕ) →
      Goes k r tape as_is (λ c. with_arguments k es (with_expr k f c)) rows
      → Goes k r (tape ++ arguments es ++ expr (exprs.Call opening (count es))) as_is
      (with_expr k (call f opening es closing))
      (rows ++ demands.arguments k.world (contents (value (val k.world f))) 0 es)
  call_goes {tape} {rows} f opening es closing p =
      record {
        runs = giving (ending _ (chain (chain p.runs
            (arguments_run es 0 (λ c. operand_of k f ∷ c.operands) (operand_of k f) (λ c. refl)))
            (op_runs [] (λ y c s. refl))) result_left)
            (λ y. append-nil (rows ++ demands.arguments k.world (contents (value (val k.world f))) 0 es));
      }
    where
      below : (c : Stacks) → drop (count es) (arguments_on k es (operand_of k f ∷ c.operands)) ≡
          operand_of k f ∷ c.operands
      below c = under_arguments k es (operand_of k f ∷ c.operands)

      result_left : (c : Stacks) (s : Registers) → state r (record c {
        operands = expression (a_value (result (contents (top_value
            (drop (count es) (arguments_on k es (operand_of k f ∷ c.operands))))))) false
            ∷ drop (suc (count es)) (arguments_on k es (operand_of k f ∷ c.operands));
      }) s ≡ state r (with_expr k (call f opening es closing) c) s
      result_left c s =
          ap (λ (operands : List Operand). state r (record c {
            operands = expression (a_value (result (contents (top_value operands)))) false
                ∷ drop (suc (count es)) (arguments_on k es (operand_of k f ∷ c.operands));
          }) s) (below c)
          ∙ ap (λ (operands : List Operand). state r (record c {
            operands = expression (a_value (result (contents (value (val k.world f))))) false ∷ operands;
          }) s)
          (drop_one_more (count es) (arguments_on k es (operand_of k f ∷ c.operands)) (operand_of k f) c.operands
          (below c))

  -- names of types

  -- a type name, by what its words and its declarator do
  pub type_name_goes : {words d : List Op} {fs gs : List Constraint} (ws : SpecWords) (name : Option ℕ) →
      Goes k r words as_is as_is fs → Goes k r d (declaring None None) (declaring name None) gs
      → Goes k r (type_name_with words d (first_word ws)) as_is (with_value (type_at_words k ws))
      (fs ++ gs)
  type_name_goes ws name p q =
      reaching _ (without (join (without p (one [] (λ y c s. refl) (λ c s. refl))) q)
      (one [] (λ y c s. refl) (λ c s. refl)))
      (λ c. refl)

  -- initialisers in braces

  -- behind the expressions of one
  abbrev filled : List Operand → Stacks → Stacks
  filled operands c = record c { operands = operands ++ c.operands; bases = length c.operands ∷ c.bases }

  -- behind its list, with these registers
  abbrev gone : InitList → (Stacks → Stacks) → Stacks → Registers → Ruled
  gone list f c s = record { core = filled (leaves_in k list) (f c); rest = []; registers = s }

  -- a compound literal
  pub literal_goes : {types tape : List Op} {fs gs : List Constraint} (t : Option CType) (opening : ℕ)
      (list : InitList) → Goes k r types as_is (with_value t) fs →
      Goes k r tape as_is (with_leaves (leaves_in k list)) gs
      → Goes k r (types ++ init inits.Begin ++ tape ++ init (inits.Literal opening) ++ rule_of_list list ++ init
      inits.LiteralEnd) as_is (with_val 0 (a_place (own k.world opening)))
      (fs ++ (gs ++ (literal_row k.world opening t
      ++ list_rule k.world (contents (own k.world opening)) list)))
  literal_goes {types} {tape} {fs} {gs} t opening list p q =
      record {
        runs = giving (ending_at _ (λ c s. literal_at s) (chain (chain behind_type
            (ruled_from (taken_in k list) left (λ c s. gone list (with_value t) c (literal_at s))
            (list_runs k r list (whole (Some (contents (own k.world opening)))))))
            (op_runs [] (λ y c s. refl))) put_there)
            (λ y. append-nil (((fs ++ gs) ++ literal_row k.world opening t) ++
            list_rule k.world (contents (own k.world opening)) list)
            ∙ group_three fs gs (literal_row k.world opening t)
            (list_rule k.world (contents (own k.world opening)) list));
      }
    where
      literal_at : Registers → Registers
      literal_at s = record s { literal = own k.world opening }

      below : (c : Stacks) → drop
          (length (leaves_in k list ++ (with_value t c).operands) - length (with_value t c).operands)
          (leaves_in k list ++ (with_value t c).operands) ≡ (with_value t c).operands
      below c = drop_above (leaves_in k list) (with_value t c).operands

      behind_type : Runs k (is_quiet r) Stacks (types ++ init inits.Begin ++ tape ++ init (inits.Literal opening))
          (λ c s. state r c s)
          (λ c s. ruling r (whole (Some (contents (own k.world opening)))) (taken_in k list)
          (gone list (with_value t) c (literal_at s)) s)
          ((fs ++ gs) ++ literal_row k.world opening t)
      behind_type =
          ending _ (chain (next (without p (one [] (λ y c s. refl) (λ c s. refl))) q).runs
          (op_runs (literal_row k.world opening t)
          (λ y c s. ap (λ (operands : List Operand). unless (is_quiet r)
          (literal_row k.world opening (type_of_operand (first_operand operands)))) (below c))))
          (λ c s. ap (λ (operands : List Operand). ruling r (whole (Some (contents (own k.world opening))))
          (λ rest. operands) (gone list (with_value t) c (literal_at s)) s)
          (taken_above k list (with_value t c).operands))

      put_there : (c : Stacks) (s : Registers) → state r (record c {
        operands = expression (a_place (own k.world opening)) false ∷ drop 1 (drop
            (length (leaves_in k list ++ (with_value t c).operands) - length (with_value t c).operands)
            (leaves_in k list ++ (with_value t c).operands));
      }) (literal_at s) ≡ state r (with_val 0 (a_place (own k.world opening)) c) (literal_at s)
      put_there c s =
          ap (λ (operands : List Operand). state r (record c {
            operands = expression (a_place (own k.world opening)) false ∷ drop 1 operands;
          }) (literal_at s)) (below c)

  -- the initialiser in braces of a name
  pub braced_goes : {tape : List Op} {gs : List Constraint} (declared : Option ℕ) (list : InitList) →
      Goes k r tape as_is (with_leaves (leaves_in k list)) gs
      → Goes k r (init inits.Begin ++ tape ++ init inits.Rule ++ rule_of_list list ++ init inits.End)
      (declaring None declared) (declaring None declared)
      (gs ++ demands.rule k.world (initialised_by k.world declared) (init_braced list))
  braced_goes {tape} {gs} declared list p =
      record {
        runs = giving (ending _ (chain (chain behind_rule
            (ruled_from (taken_in k list) left (gone list (declaring None declared))
            (list_runs k r list (whole (initialised_by k.world declared))))) (op_runs [] (λ y c s. refl)))
            (λ c s. ap (λ (operands : List Operand). state r (record (declaring None declared c) {
              operands = operands;
            }) s) (drop_above (leaves_in k list) c.operands)))
            (λ y. append-nil ((gs ++ []) ++ demands.rule k.world (initialised_by k.world declared) (init_braced list))
            ∙ ap (λ (rows : List Constraint). rows
            ++ demands.rule k.world (initialised_by k.world declared) (init_braced list)) (append-nil gs));
      }
    where
      behind_rule : Runs k (is_quiet r) Stacks (init inits.Begin ++ tape ++ init inits.Rule)
          (λ c s. state r (declaring None declared c) s)
          (λ c s. ruling r (whole (initialised_by k.world declared)) (taken_in k list)
          (gone list (declaring None declared) c s) s)
          (gs ++ [])
      behind_rule =
          ending _ (chain (next {xs = init inits.Begin} (one [] (λ y c s. refl) (λ c s. refl)) p).runs
          (op_runs [] (λ y c s. refl)))
          (λ c s. ap (λ (operands : List Operand). ruling r (whole (initialised_by k.world declared))
          (λ rest. operands) (gone list (declaring None declared) c s) s)
          (taken_above k list c.operands))

  -- in rounds of their own

  pub scoped : {tape : List Op} {f g : Stacks → Stacks} {rows : List Constraint} → Goes k (entered r) tape f g rows →
      Goes k r (in_scope tape) f g rows
  scoped {tape} {f} {g} {rows} p =
      record {
        runs = giving (chain (chain (op_runs [] (λ y c s. refl)) p.runs) (op_runs [] (λ y c s. refl)))
            (λ y. append-nil rows);
      }

  pub body_goes : {tape : List Op} {rows : List Constraint} (kind : TagKind) (keyword : ℕ) (tag : Option Identifier) →
      Goes k (entered r) tape as_is as_is rows →
      Goes k r (body_tape kind keyword tag ++ tape ++ spec specs.BodyEnd) as_is as_is rows
  body_goes {tape} {rows} kind keyword None p =
      record {
        runs = giving (chain (chain (op_runs [] (λ y c s. refl)) p.runs) (op_runs [] (λ y c s. refl)))
            (λ y. append-nil rows);
      }
  body_goes {tape} {rows} kind keyword (Some tag) p =
      record {
        runs = giving (chain (chain (op_runs [] (λ y c s. refl)) p.runs) (op_runs [] (λ y c s. refl)))
            (λ y. append-nil rows);
      }

  -- what gives no constraint

  pub quietly_goes : {tape : List Op} {rows : List Constraint} (e : Expr) →
      Goes k (silenced r) tape as_is (with_expr k e) rows → Goes k r (quietly tape) as_is as_is []
  quietly_goes e p =
      record {
        runs = chain (chain (op_runs [] (λ y c s. refl)) (silent_runs p))
            (op_runs [] (λ y c s. sym (unless_none (is_quiet r))));
      }

  pub sizeof_goes : {tape : List Op} {rows : List Constraint} (it : Operand) (token : ℕ) →
      Goes k (silenced r) tape as_is (with_operand it) rows →
      Goes k r (stmt stmts.Quiet ++ tape ++ form (forms.Sizeof token)) as_is
      (with_val 0 (a_value (own k.world token))) []
  sizeof_goes it token p =
      record {
        runs = chain (chain (op_runs [] (λ y c s. refl)) (silent_runs p))
            (op_runs [] (λ y c s. sym (unless_none (is_quiet r))));
      }

  -- of two types' names
  pub compat_goes : {types others : List Op} {fs gs : List Constraint} (t t2 : Option CType) (token : ℕ) →
      Goes k (silenced r) types as_is (with_value t) fs → Goes k (silenced r) others as_is (with_value t2) gs →
      Goes k r (stmt stmts.Quiet ++ types ++ others ++ form (forms.Compat token)) as_is
      (with_val 0 (a_value (own k.world token))) []
  compat_goes t t2 token p q =
      record {
        runs = chain (chain (chain (op_runs [] (λ y c s. refl)) (silent_runs p)) (silent_runs (from (with_value t) q)))
            (op_runs [] (λ y c s. sym (unless_none (is_quiet r))));
      }

  -- the control of a selection, whose value is left
  pub control_goes : {tape : List Op} {rows : List Constraint} (e : Expr) →
      Goes k (silenced r) tape as_is (with_expr k e) rows →
      Goes k r (stmt stmts.Quiet ++ tape ++ form forms.Control) as_is (with_expr k e) []
  control_goes e p =
      record {
        runs = chain (chain (op_runs [] (λ y c s. refl)) (silent_runs p))
            (op_runs [] (λ y c s. sym (unless_none (is_quiet r))));
      }

  -- the tape of an offset, by those of its type and of its steps
  pub offset_goes : {types steps : List Op} {fs gs : List Constraint} (t : Option CType) (name : Identifier)
      (keyword : ℕ) → Goes k (silenced r) types as_is (with_value t) fs → Goes k (silenced r) steps as_is as_is gs
      → Goes k r (stmt stmts.Quiet ++ types ++ form (forms.OffsetMember name.token name.name) ++ steps ++ form
      (forms.Offset keyword)) as_is (with_val 0 (a_value (own k.world keyword))) []
  offset_goes {types} {steps} t name keyword p q =
      record {
        runs = chain (chain (chain (chain (op_runs [] (λ y c s. refl)) (silent_runs p))
            (op_runs [] (λ y c s. sym (unless_none (is_quiet r))))) (silent_runs (from (with_value t) q)))
            (op_runs [] (λ y c s. sym (unless_none (is_quiet r))));
      }

  -- parameters

  abbrev pub param_round : Bool → Option ℕ → ℕ → Rounds
  param_round b f i = with_round (nth_naming b f i) (is_quiet r) r

  abbrev pub number_behind : Params → ℕ → ℕ
  number_behind no_params i = i
  number_behind (more_params ws d attrs ps) i = number_behind ps (suc i)

  enclosed : {tape : List Op} {rows : List Constraint} (b : Bool) (name declared : Option ℕ) (i : ℕ) →
      Runs k (is_quiet r) Stacks tape (λ c s. state (param_round b name 0) c s)
      (λ c s. state (param_round b name i) c s) rows
      → Goes k r (declr (declrs.ParamsBegin b) ++ tape ++ declr declrs.ParamsEnd) (declaring name declared)
      (declaring name declared) rows
  enclosed {tape} {rows} b name declared i p =
      record {
        runs = giving (chain (chain (ending _ (op_runs [] (λ y c s. refl))
            (λ c s. ap (λ (it : Naming). state (with_round it (is_quiet r) r) (declaring name declared c) s)
            (first_naming b (record { name = name; declared = declared }) c.declarations)))
            (started_from (declaring name declared) (λ c s. s) p)) (op_runs [] (λ y c s. refl)))
            (λ y. append-nil rows);
      }

  -- a list of parameters, behind a name
  pub params_with_go : {rows : List Constraint} (b : Bool) (name declared : Option ℕ) (ps : Params) →
      Runs k (is_quiet r) Stacks (params_tape ps) (λ c s. state (param_round b name 0) c s)
      (λ c s. state (param_round b name (number_behind ps 0)) c s) rows → (says_none ps ≡ true → rows ≡ [])
      → Goes k r (params_with b (says_none ps) (params_tape ps)) (declaring name declared) (declaring name declared)
      rows
  params_with_go {rows} b name declared ps p none = by_list (says_none ps) refl
    where
      by_list : (it : Bool) → says_none ps ≡ it → Goes k r (params_with b it (params_tape ps)) (declaring name declared)
          (declaring name declared) rows
      by_list true e = same (enclosed b name declared 0 stay) (sym (none e))
      by_list false e = enclosed b name declared (number_behind ps 0) p
