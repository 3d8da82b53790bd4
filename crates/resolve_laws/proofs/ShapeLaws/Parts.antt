-- What an op makes of the operands that the tapes of its parts have left, and tapes that are made of others.
use Rattle.std.proofs.Common.{◌≡◌, ℕ, suc, ◌-◌, Bool, false, List, [], ◌∷◌, ◌++◌, length, drop, Option, None, Some, refl, ◌∙◌, ap, arith}
use Rattle.c_words.specs.declared.kinds.Punct.{Punct}
use Rattle.c_words.specs.declared.kinds.Punct.TheVariants as signs
use Rattle.tape_ops.specs.declared.op.Op.{Op}
use Rattle.tape_ops.specs.declared.expression.ExprOp.TheVariants as exprs
use Rattle.tape_ops.specs.declared.form.FormOp.TheVariants as forms
use Rattle.tape_ops.specs.declared.statement.StmtOp.TheVariants as stmts
use Rattle.tape_ops.specs.declared.initialiser.InitOp.TheVariants as inits
use Rattle.c_tree.specs.Tree.{Expr, operation, call, arrow, prefix, generic, Assocs, Operator, comma, assign, cond, binary, no_expr, some_expr, Exprs, SpecWords, InitList, Params}
use Rattle.c_syntax.specs.declared.parts.Identifier.{Identifier}
use Rattle.c_tree.specs.Firsts.{first_word}
use Rattle.c_tape.specs.Tests.{says_none}
use Rattle.c_tape.specs.Tape.{expr, form, init, stmt, prefix_tape, assoc_count, count, operator_tape, type_name_with, params_with, rule_of_list, quietly}
use Rattle.type_table.specs.Types.{CType, base, void, struct, pointer, function}
use Rattle.name_rules.specs.Spellings.{place}
use Rattle.name_rules.specs.Faults.{Fault, fault_where, not_pointer, no_member}
use Rattle.name_rules.specs.Scopes.{Aggregate}
use Rattle.name_rules.specs.Values.{Association, selected_shape, a_value, a_place, value, some_target, some_read_from, some_result_type, member_type, lacks_member, is_no_pointer}
use Rattle.name_rules.specs.Checks.{prefix_faults, call_faults, member_faults}
use Rattle.type_rules.specs.Shapes.{shape_of, associations_of}
use Rattle.type_rules.specs.Judging.{operator_faults, params_faults, untargeted_faults, list_faults}
use Rattle.type_rules.specs.Judging as rules
use Rattle.name_rules.specs.ShapeSteps.State.{Operand, expression, shape_of_operand, type_of_operand, whole, State, put, first_operand}
use Rattle.name_rules.specs.ShapeSteps.Steps.{within, type_of_name, literal_put, twice, associations}
use Rattle.resolve_laws.proofs.ShapeLaws.Goes.{Over, total_append, Goes, as_is, nowhere, one, join, from, next, same, reaching, swapped}
use Rattle.resolve_laws.proofs.ShapeLaws.Lists.{drop_above, drop_one_more}
use Rattle.resolve_laws.proofs.ShapeLaws.Stacks.{operand_of, with_expr, with_middle, arguments_on, with_arguments, under_arguments, assocs_on, with_assocs, under_assocs, assocs_kept, with_value, type_at_words, leaves_in, with_leaves, declaring}
use Rattle.resolve_laws.proofs.ShapeLaws.Idle.{either, same_count, none_said}
use Rattle.resolve_laws.proofs.ShapeLaws.Rules.{list_rule_goes, list_split}

-- what is read from a place of a struct is of the struct's type

-- reading a value changes the type of no member of it
same_member : (all : List Aggregate) (t : Option CType) (name : ℕ) → member_type all (some_read_from t) name ≡
    member_type all t name
same_member all None name = refl
same_member all (Some (base ws)) name = refl
same_member all (Some (void ws)) name = refl
same_member all (Some (struct ws n)) name = refl
same_member all (Some (pointer ws t)) name = refl
same_member all (Some (function ws ps r e)) name = refl

-- reading a value does not change whether its type lacks a member
same_lack : (all : List Aggregate) (t : Option CType) (name : ℕ) → lacks_member all (some_read_from t) name ≡
    lacks_member all t name
same_lack all None name = refl
same_lack all (Some (base ws)) name = refl
same_lack all (Some (void ws)) name = refl
same_lack all (Some (struct ws n)) name = refl
same_lack all (Some (pointer ws t)) name = refl
same_lack all (Some (function ws ps r e)) name = refl

module _ (k : Over) where
  -- operators

  pub operator_goes : (e : Expr) (op : Operator) (token : ℕ) (e2 : Expr) (first last : ℕ) →
      Goes k (operator_tape op token first last) (λ st. with_expr k e2 (with_middle k op (with_expr k e st)))
      (with_expr k (operation e op token e2))
      (operator_faults k.spelling k.names op token (shape_of k.spelling k.names e))
  operator_goes e comma token e2 first last = one [] (λ st. refl)
  operator_goes e (assign p) token e2 first last = one _ (λ st. refl)
  operator_goes e (cond no_expr colon) token e2 first last = one [] (λ st. refl)
  operator_goes e (cond (some_expr m) colon) token e2 first last = one [] (λ st. refl)
  operator_goes e (binary p) token e2 first last = one [] (λ st. refl)

  -- before an operand, by what the tape of the operand only addressed does and that of it taken
  pub prefix_goes : (token : ℕ) (p : Punct) (e : Expr) (aims : Bool) {addressed taken : List Op} {fs : List Fault} →
      Goes k addressed as_is (with_expr k e) fs → Goes k taken as_is (with_expr k e) fs →
      Goes k (prefix_tape token p e aims addressed taken) as_is (with_expr k (prefix token p e))
      (prefix_faults (place k.spelling token) p (shape_of k.spelling k.names e) ++ fs)
  prefix_goes token signs.Ampersand e aims a b =
      swapped a
      (one (prefix_faults (place k.spelling token) signs.Ampersand (shape_of k.spelling k.names e)) (λ st. refl))
  prefix_goes token p e aims a b =
      swapped b (one (prefix_faults (place k.spelling token) p (shape_of k.spelling k.names e)) (λ st. refl))

  -- selections

  pub generic_goes : (keyword opening : ℕ) (e : Expr) (xs : Assocs) (closing : ℕ) →
      Goes k (form (forms.Generic keyword (assoc_count xs))) (λ st. with_assocs k xs (with_expr k e st))
      (with_expr k (generic keyword opening e xs closing)) []
  generic_goes keyword opening e xs closing = reaching _ (one [] (λ st. refl)) left
    where
      below : (st : State) → drop (twice (assoc_count xs)) (assocs_on k xs (operand_of k e ∷ st.operands)) ≡
          operand_of k e ∷ st.operands
      below st = under_assocs k xs (operand_of k e ∷ st.operands)

      left : (st : State) → put (suc (twice (assoc_count xs)))
          (selected_shape (value (shape_of_operand
          (first_operand (drop (twice (assoc_count xs)) (assocs_on k xs (operand_of k e ∷ st.operands))))))
          (associations (assoc_count xs) (with_assocs k xs (with_expr k e st))))
          (with_assocs k xs (with_expr k e st))
          ≡ with_expr k (generic keyword opening e xs closing) st
      left st =
          ap (λ (operands : List Operand). put (suc (twice (assoc_count xs)))
          (selected_shape (value (shape_of_operand (first_operand operands)))
          (associations (assoc_count xs) (with_assocs k xs (with_expr k e st))))
          (with_assocs k xs (with_expr k e st))) (below st)
          ∙ (ap (λ (all : List Association). put (suc (twice (assoc_count xs)))
          (selected_shape (value (shape_of k.spelling k.names e)) all) (with_assocs k xs (with_expr k e st)))
          (assocs_kept k xs (with_expr k e st))
          ∙ ap (λ (operands : List Operand). record st {
            operands = expression (selected_shape (value (shape_of k.spelling k.names e))
                (associations_of k.spelling k.names xs)) false ∷ operands;
          })
          (drop_one_more (twice (assoc_count xs)) (assocs_on k xs (operand_of k e ∷ st.operands))
          (operand_of k e) st.operands
          (below st)))

  -- calls

  pub call_goes : (f : Expr) (opening : ℕ) (es : Exprs) (closing : ℕ) →
      Goes k (expr (exprs.Call opening (count es))) (λ st. with_arguments k es (with_expr k f st))
      (with_expr k (call f opening es closing))
      (call_faults (place k.spelling opening) (value (shape_of k.spelling k.names f)) (rules.count es))
  call_goes f opening es closing =
      reaching _ (one (call_faults (place k.spelling opening) (value (shape_of k.spelling k.names f)) (rules.count es))
      found) left
    where
      below : (st : State) → drop (count es) (arguments_on k es (operand_of k f ∷ st.operands)) ≡
          operand_of k f ∷ st.operands
      below st = under_arguments k es (operand_of k f ∷ st.operands)

      found : (st : State) → call_faults (place k.spelling opening)
          (value (shape_of_operand
          (first_operand (drop (count es) (arguments_on k es (operand_of k f ∷ st.operands)))))) (count es)
          ≡ call_faults (place k.spelling opening) (value (shape_of k.spelling k.names f)) (rules.count es)
      found st = ap (λ (operands : List Operand). call_faults (place k.spelling opening)
          (value (shape_of_operand (first_operand operands))) (count es)) (below st)
          ∙ ap (λ (n : ℕ). call_faults (place k.spelling opening) (value (shape_of k.spelling k.names f)) n)
          (same_count es)

      left : (st : State) → put (suc (count es))
          (a_value (some_result_type
          (value (shape_of_operand
          (first_operand (drop (count es) (arguments_on k es (operand_of k f ∷ st.operands))))))))
          (with_arguments k es (with_expr k f st))
          ≡ with_expr k (call f opening es closing) st
      left st =
          ap (λ (operands : List Operand). put (suc (count es))
          (a_value (some_result_type (value (shape_of_operand (first_operand operands)))))
          (with_arguments k es (with_expr k f st))) (below st)
          ∙ ap (λ (operands : List Operand). record st {
            operands = expression (a_value (some_result_type (value (shape_of k.spelling k.names f)))) false ∷ operands;
          })
          (drop_one_more (count es) (arguments_on k es (operand_of k f ∷ st.operands)) (operand_of k f) st.operands
          (below st))

  -- members

  pub arrow_goes : (e : Expr) (token first last : ℕ) (aims : Bool) (name : Identifier) →
      Goes k (expr (exprs.Arrow token first last aims)) (with_expr k e)
      (λ st. put 0 (a_place (some_target (value (shape_of k.spelling k.names e)))) st)
      (fault_where (is_no_pointer (value (shape_of k.spelling k.names e))) (place k.spelling token) not_pointer)
  arrow_goes e token first last aims name =
      one (fault_where (is_no_pointer (value (shape_of k.spelling k.names e))) (place k.spelling token) not_pointer)
      (λ st. refl)

  pub arrow_member_goes : (e : Expr) (token : ℕ) (name : Identifier) →
      Goes k (expr (exprs.Dot token name.token name.name))
      (λ st. put 0 (a_place (some_target (value (shape_of k.spelling k.names e)))) st)
      (with_expr k (arrow e token name))
      (member_faults k.spelling k.names (some_target (value (shape_of k.spelling k.names e))) name.token name.name)
  arrow_member_goes e token name =
      reaching (with_expr k (arrow e token name))
      (one (member_faults k.spelling k.names t name.token name.name)
      (λ st. ap (λ (b : Bool). fault_where b (place k.spelling name.token) no_member)
      (same_lack k.names.aggregates t (k.spelling.key name.name))))
      (λ st. ap (λ (t : Option CType). put 0 (a_place t) st)
      (same_member k.names.aggregates t (k.spelling.key name.name)))
    where
      t : Option CType
      t = some_target (value (shape_of k.spelling k.names e))

  offset_member_goes : (t : Option CType) (name : Identifier) →
      Goes k (form (forms.OffsetMember name.token name.name)) (with_value t)
      (with_value (member_type k.names.aggregates t (k.spelling.key name.name)))
      (member_faults k.spelling k.names t name.token name.name)
  offset_member_goes t name = one _ (λ st. refl)

  -- the tape of an offset, by those of its type and of its steps
  pub offset_goes : {types steps : List Op} {fs gs : List Fault} (t : Option CType) (name : Identifier)
      (behind : Option CType) (keyword : ℕ) → Goes k types as_is (with_value t) fs
      → Goes k steps (with_value (member_type k.names.aggregates t (k.spelling.key name.name))) (with_value behind) gs
      → Goes k (stmt stmts.Quiet ++ types ++ form (forms.OffsetMember name.token name.name) ++ steps ++ form
      (forms.Offset keyword)) as_is (λ st. put 0 (a_value (Some (base []))) st)
      (fs ++ (member_faults k.spelling k.names t name.token name.name ++ gs))
  offset_goes {types} {steps} {fs} {gs} t name behind keyword p q =
      same (join (join {xs = stmt stmts.Quiet ++ types ++ form (forms.OffsetMember name.token name.name)} first q)
      (one [] (λ st. refl))) (omega (arith, total_append k.weight))
    where
      first : Goes k (stmt stmts.Quiet ++ types ++ form (forms.OffsetMember name.token name.name)) as_is
          (with_value (member_type k.names.aggregates t (k.spelling.key name.name)))
          (fs ++ member_faults k.spelling k.names t name.token name.name)
      first = same (join (join (one [] (λ st. refl)) p) (offset_member_goes t name))
          (omega (arith, total_append k.weight))

  -- names of types

  -- a type name, by what its words and its declarator do
  pub type_name_goes : {words d : List Op} {fs gs : List Fault} (ws : SpecWords) (name : Option ℕ) →
      Goes k words as_is as_is fs → Goes k d (declaring None None) (declaring name None) gs
      → Goes k (type_name_with words d (first_word ws)) as_is (with_value (type_at_words k ws)) (fs ++ gs)
  type_name_goes ws name p q =
      reaching _ (same (join (join (join p (one [] (λ st. refl))) q) (one [] (λ st. refl)))
      (omega (arith, total_append k.weight)))
      (λ st. refl)

  -- initialisers in braces

  -- behind the expressions of one
  abbrev filled : List Operand → State → State
  filled operands st = record st { operands = operands ++ st.operands; bases = length st.operands ∷ st.bases }

  -- a compound literal
  pub literal_goes : {types tape : List Op} {fs : List Fault} (t : Option CType) (opening : ℕ) (list : InitList)
      → Goes k types as_is (with_value t) fs →
      Goes k tape as_is (with_leaves (leaves_in k list)) (untargeted_faults k.spelling k.names list)
      → Goes k (types ++ init inits.Begin ++ tape ++ init (inits.Literal opening) ++ rule_of_list list ++ init
      inits.LiteralEnd) as_is (λ st. put 0 (a_place t) st) (fs ++ list_faults k.spelling k.names t list)
  literal_goes {types} {tape} {fs} t opening list p q =
      reaching _ (same (join (join behind_type
      (from (λ st. filled (leaves_in k list) (with_value t st)) (list_rule_goes k list (whole t))))
      (one [] (λ st. refl)))
      (let e = list_split k list t in omega (arith, total_append k.weight)))
      (λ st. ap (λ (operands : List Operand). record st { operands = literal_put operands }) (below st))
    where
      below : (st : State) → drop
          (length (leaves_in k list ++ (with_value t st).operands) - length (with_value t st).operands)
          (leaves_in k list ++ (with_value t st).operands) ≡ (with_value t st).operands
      below st = drop_above (leaves_in k list) (with_value t st).operands

      behind_type : Goes k (types ++ init inits.Begin ++ tape ++ init (inits.Literal opening)) as_is
          (λ st. within (whole t) (filled (leaves_in k list) (with_value t st)))
          (fs ++ ([] ++ untargeted_faults k.spelling k.names list))
      behind_type =
          reaching _ (same (join (next (join p (one [] (λ st. refl))) q) (one [] (λ st. refl)))
          (omega (arith, total_append k.weight)))
          (λ st. ap (λ (operands : List Operand). within (whole (type_of_operand (first_operand operands)))
          (filled (leaves_in k list) (with_value t st))) (below st))

  -- the initialiser in braces of a name
  pub braced_goes : {tape : List Op} (declared : Option ℕ) (list : InitList) →
      Goes k tape as_is (with_leaves (leaves_in k list)) (untargeted_faults k.spelling k.names list)
      → Goes k (init inits.Begin ++ tape ++ init inits.Rule ++ rule_of_list list ++ init inits.End)
      (declaring None declared) (declaring None declared)
      (list_faults k.spelling k.names (type_of_name k.spelling k.names declared) list)
  braced_goes {tape} declared list p =
      reaching _ (same (join (join (join (next {xs = init inits.Begin} (one [] (λ st. refl)) p) (one [] (λ st. refl)))
      (from (λ st. filled (leaves_in k list) (declaring None declared st))
      (list_rule_goes k list (whole (type_of_name k.spelling k.names declared))))) (one [] (λ st. refl)))
      (let e = list_split k list (type_of_name k.spelling k.names declared) in omega (arith, total_append k.weight)))
      (λ st. ap (λ (operands : List Operand). record (declaring None declared st) { operands = operands })
      (drop_above (leaves_in k list) st.operands))

  -- parameters

  pub params_with_go : {tape : List Op} (own : Bool) (ps : Params) →
      Goes k tape as_is as_is (params_faults k.spelling k.names ps)
      → Goes k (params_with own (says_none ps) tape) as_is as_is (params_faults k.spelling k.names ps)
  params_with_go own ps p =
      same (join (join (one [] (λ st. refl))
      (either k (says_none ps) (λ e. same nowhere (let none = none_said k ps e in omega arith)) (λ e. p)))
      (one [] (λ st. refl)))
      (omega (arith, total_append k.weight))

  -- what says nothing
  pub quietly_goes : {tape : List Op} {fs : List Fault} (e : Expr) → Goes k tape as_is (with_expr k e) fs →
      Goes k (quietly tape) as_is as_is fs
  quietly_goes e p = same (join (join (one [] (λ st. refl)) p) (one [] (λ st. refl)))
      (omega (arith, total_append k.weight))
