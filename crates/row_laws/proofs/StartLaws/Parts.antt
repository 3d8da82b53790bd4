-- Where skeletons begin along the tapes of operators, of names of types, and of what stands round other nodes.
use Rattle.std.proofs.Common.{◌≡◌, ℕ, Bool, true, false, List, [], ◌∷◌, ◌++◌, Option, None, Some, refl, sym, ◌∙◌, ap, append_assoc}
use Rattle.std.proofs.lemmas.List.{append-nil}
use Rattle.std.specs.Prelude.{not, ◌&&◌, if◌then◌else◌}
use Rattle.c_syntax.specs.declared.parts.Identifier.{Identifier}
use Rattle.c_words.specs.declared.kinds.Punct.{Punct}
use Rattle.c_words.specs.declared.kinds.Punct.TheVariants as signs
use Rattle.c_tree.specs.Addresses.{comes_by_pointer}
use Rattle.tape_ops.specs.declared.op.Op.{Op}
use Rattle.tape_ops.specs.declared.op.Op.TheVariants as ops
use Rattle.tape_ops.specs.declared.specifier.TagKind.{TagKind}
use Rattle.tape_ops.specs.declared.specifier.SpecOp.TheVariants as specs
use Rattle.tape_ops.specs.declared.statement.StmtOp.TheVariants as stmts
use Rattle.tape_ops.specs.declared.expression.ExprOp.TheVariants as exprs
use Rattle.tape_ops.specs.declared.form.FormOp.TheVariants as forms
use Rattle.tape_ops.specs.declared.declarator.DeclrOp.TheVariants as declrs
use Rattle.tape_ops.specs.declared.initialiser.InitOp.TheVariants as inits
use Rattle.c_tree.specs.Tree.{Expr, prefix, Assocs, operation, Operator, comma, assign, cond, binary, no_expr, some_expr, SpecWords, Declr, SomeDeclr, InitList, Params}
use Rattle.c_tree.specs.Ends.{first_token, last_token}
use Rattle.c_tape.specs.Tests.{says_none}
use Rattle.c_tape.specs.Tape.{tape_in, prefix_tape, assocs_tape, assoc_count, identifiers_tape, expr_tape, middle_tape, type_name_with, body_tape, in_scope, quietly, spec, params_with, params_tape, list_tape, rule_of_list, init}
use Rattle.type_table.specs.Types.{CType, base}
use Rattle.name_rules.specs.Values.{Candidate, value}
use Rattle.type_rules.specs.Shapes.{shape_of, is_zero, candidate_of, associations_of}
use Rattle.type_rules.specs.Tokens.{declared_name}
use Rattle.name_rules.specs.ShapeSteps.Steps.{associations}
use Rattle.name_rules.specs.ShapeSteps.State.{Operand, shape_of_operand, first_operand, State, opened}
use Rattle.row_rules.specs.Starting.{Start, Around, Having, with_skeleton, of_function, without_skeleton, quiet, fresh, some_fresh, fresh_where, some_place, is_some_pointer, is_fresh_binary, prefix_starts, selected_by}
use Rattle.row_rules.specs.RowSteps.Rounds.{Naming, a_name, own_param, other_param, identified_param, identified_naming, Rounds, is_quiet, with_round, entered, silenced, left, next_naming, params_naming, round_step}
use Rattle.row_rules.specs.RowSteps.Starting.{function_at, naming_has, selected_among}
use Rattle.constraint_rules.specs.Starts.{pick_starts, assocs_starts, expr_starts, some_expr_starts, params_starts, type_at}
use Rattle.row_laws.proofs.StartLaws.Found.{Over, at, behind, starts_at, found, rounds_behind, found_append, rounds_append, has_at, Finds, join, same, followed, without, enclosed, around_tape, silent, of_three, of_four}
use Rattle.row_laws.proofs.StartLaws.States.{with_expr, operand_of, with_assocs, under_assocs, assocs_kept, addressed_left, choice_left, selection_tape, selection_left, declaring, token_of, operands_left, cast_type, va_arg_type, literal_type, type_name_tape}
use Rattle.row_laws.proofs.StartLaws.Idle.{none_said, list_none}

-- what is around a tape

pub scoped : {k : Over} {h : Having} {tape : List Op} {f : Around → List Start} → Finds k with_skeleton tape f →
    Finds k h (in_scope tape) f
scoped p = around_tape (ops.Stmt stmts.Enter) (ops.Stmt stmts.Leave) entered (λ a. a) (λ st r. refl) (λ st r. refl)
    (λ r. refl) (λ r. refl) (λ st r. refl) (λ ds r. refl) p

pub quietly_finds : {k : Over} {h : Having} {tape : List Op} {f : Around → List Start} →
    Finds k with_skeleton tape f → Finds k h (quietly tape) (λ a. f (quiet a))
quietly_finds p = around_tape (ops.Stmt stmts.Quiet) (ops.Stmt stmts.Loud) silenced quiet (λ st r. refl)
    (λ st r. refl) (λ r. refl) (λ r. refl) (λ st r. refl) (λ ds r. refl) p

-- the operand of `sizeof` or `offsetof`, whose value is fresh
pub sizeof_finds : {k : Over} {h : Having} {tape : List Op} {f : Around → List Start} (token : ℕ) →
    Finds k with_skeleton tape f →
    Finds k h (ops.Stmt stmts.Quiet ∷ (tape ++ ops.Form (forms.Sizeof token) ∷ []))
    (λ a. f (quiet a) ++ fresh a token (base []))
sizeof_finds token p =
    enclosed (ops.Stmt stmts.Quiet) (ops.Form (forms.Sizeof token)) silenced quiet (λ a. fresh a token (base []))
    (λ st r. refl) (λ st r. refl) (λ r. refl) (λ r. refl) (λ st r. refl) (λ ds r. refl) p

-- along an `offsetof` the skeletons of what is in it are found, then a fresh one of a base type
pub offset_finds : {k : Over} {h : Having} {tape : List Op} {f : Around → List Start} (token : ℕ) →
    Finds k with_skeleton tape f →
    Finds k h (ops.Stmt stmts.Quiet ∷ (tape ++ ops.Form (forms.Offset token) ∷ []))
    (λ a. f (quiet a) ++ fresh a token (base []))
offset_finds token p =
    enclosed (ops.Stmt stmts.Quiet) (ops.Form (forms.Offset token)) silenced quiet (λ a. fresh a token (base []))
    (λ st r. refl) (λ st r. refl) (λ r. refl) (λ r. refl) (λ st r. refl) (λ ds r. refl) p

-- the control of a selection, whose value is left
pub control_finds : {k : Over} {h : Having} {tape : List Op} {f : Around → List Start} → Finds k with_skeleton tape f →
    Finds k h (ops.Stmt stmts.Quiet ∷ (tape ++ ops.Form forms.Control ∷ [])) (λ a. f (quiet a))
control_finds p = around_tape (ops.Stmt stmts.Quiet) (ops.Form forms.Control) silenced quiet (λ st r. refl)
    (λ st r. refl) (λ r. refl) (λ r. refl) (λ st r. refl) (λ ds r. refl) p

-- two types' names, whose value is fresh
pub compat_finds : {k : Over} {h : Having} {tape : List Op} {f : Around → List Start} (token : ℕ) →
    Finds k with_skeleton tape f →
    Finds k h (ops.Stmt stmts.Quiet ∷ (tape ++ ops.Form (forms.Compat token) ∷ []))
    (λ a. f (quiet a) ++ fresh a token (base []))
compat_finds token p =
    enclosed (ops.Stmt stmts.Quiet) (ops.Form (forms.Compat token)) silenced quiet (λ a. fresh a token (base []))
    (λ st r. refl) (λ st r. refl) (λ r. refl) (λ r. refl) (λ st r. refl) (λ ds r. refl) p

-- along a body, be it of a tag or of none, the skeletons of its members are found
pub body_finds : {k : Over} {h : Having} {tape : List Op} {f : Around → List Start} (kind : TagKind) (keyword : ℕ)
    (tag : Option Identifier) → Finds k with_skeleton tape f →
    Finds k h (body_tape kind keyword tag ++ tape ++ spec specs.BodyEnd) f
body_finds kind keyword None p =
    around_tape (ops.Spec (specs.Untagged kind keyword)) (ops.Spec specs.BodyEnd) entered (λ a. a) (λ st r. refl)
    (λ st r. refl) (λ r. refl) (λ r. refl) (λ st r. refl) (λ ds r. refl) p
body_finds kind keyword (Some tag) p =
    around_tape (ops.Spec (specs.TagBody kind tag.token tag.name)) (ops.Spec specs.BodyEnd) entered (λ a. a)
    (λ st r. refl) (λ st r. refl) (λ r. refl) (λ r. refl) (λ st r. refl) (λ ds r. refl) p

-- names of types

-- along the name of a type the skeletons of its words are found, then those of its declarator
pub type_name_finds : {k : Over} {h : Having} {words d : List Op} {f g : Around → List Start} (first : ℕ) →
    Finds k h words f → Finds k h d g → Finds k h (type_name_with words d first) (λ a. f a ++ g a)
type_name_finds first p q =
    without (ops.Declr (declrs.TypeName first))
    (join (without (ops.Spec specs.SpecsEnd) p (λ st r. refl) (λ ds r. refl)) q) (λ st r. refl) (λ ds r. refl)

module _ (k : Over) where
  -- operators

  abbrev pub middle_starts : Around → Operator → List Start
  middle_starts a comma = []
  middle_starts a (assign p) = []
  middle_starts a (cond middle colon) = some_expr_starts a middle
  middle_starts a (binary p) = []

  abbrev cond_starts : Expr → Expr → Expr → ℕ → Around → List Start
  cond_starts whole m e2 token a =
      fresh_where (not (is_zero a.spelling a.names m) && not (is_zero a.spelling a.names e2))
      (some_fresh a token (shape_of a.spelling a.names whole).type)

  abbrev binary_starts : Punct → Expr → Expr → ℕ → Around → List Start
  binary_starts p e e2 token a =
      fresh_where
      (is_fresh_binary p (is_some_pointer (value (shape_of a.spelling a.names e)))
      (is_some_pointer (value (shape_of a.spelling a.names e2)))) (fresh a token (base []))

  pub operation_finds : {h : Having} (e : Expr) (op : Operator) (token : ℕ) (e2 : Expr) (called aims : Bool) →
      Finds k h (expr_tape false e) (λ a. expr_starts a e) →
      Finds k h (middle_tape op) (λ a. middle_starts a op) →
      Finds k h (expr_tape false e2) (λ a. expr_starts a e2) →
      Finds k h (tape_in called aims (operation e op token e2)) (λ a. expr_starts a (operation e op token e2))
  operation_finds e comma token e2 called aims p m q =
      without (ops.Expr (exprs.Comma token)) (join (silent p m) q) (λ st r. refl) (λ ds r. refl)
  operation_finds e (assign sign) token e2 called aims p m q =
      without (ops.Expr (exprs.Assign sign token (first_token e) (last_token e2))) (join (silent p m) q) (λ st r. refl)
      (λ ds r. refl)
  operation_finds e (cond no_expr colon) token e2 called aims p m q =
      of_three (λ a. expr_starts a e) (λ a. expr_starts a e2)
      (cond_starts (operation e (cond no_expr colon) token e2) e e2 token)
      (followed (ops.Expr (exprs.Cond false token (first_token e) (last_token e2)))
      (cond_starts (operation e (cond no_expr colon) token e2) e e2 token) (join (silent p m) q)
      (λ st r. ap (λ (it : State). starts_at k it r (ops.Expr (exprs.Cond false token (first_token e) (last_token e2))))
      (operands_left k e (cond no_expr colon) e2 st)) (λ ds r. refl))
  operation_finds e (cond (some_expr m) colon) token e2 called aims p q s =
      of_four (λ a. expr_starts a e) (λ a. expr_starts a m) (λ a. expr_starts a e2)
      (cond_starts (operation e (cond (some_expr m) colon) token e2) m e2 token)
      (followed (ops.Expr (exprs.Cond true token (first_token e) (last_token e2)))
      (cond_starts (operation e (cond (some_expr m) colon) token e2) m e2 token) (join (join p q) s)
      (λ st r. ap (λ (it : State). starts_at k it r (ops.Expr (exprs.Cond true token (first_token e) (last_token e2))))
      (operands_left k e (cond (some_expr m) colon) e2 st)) (λ ds r. refl))
  operation_finds e (binary sign) token e2 called aims p m q =
      of_three (λ a. expr_starts a e) (λ a. expr_starts a e2) (binary_starts sign e e2 token)
      (followed (ops.Expr (exprs.Binary sign token (first_token e) (last_token e2))) (binary_starts sign e e2 token)
      (join (silent p m) q)
      (λ st r.
      ap (λ (it : State). starts_at k it r (ops.Expr (exprs.Binary sign token (first_token e) (last_token e2))))
      (operands_left k e (binary sign) e2 st)) (λ ds r. refl))

  -- forms with a type's name

  pub cast_finds : {h : Having} (f g i : Around → List Start) (opening : ℕ) (ws : SpecWords)
      (d : SomeDeclr) (e : Expr) →
      Finds k h (type_name_tape k ws d) (λ a. f a ++ g a) →
      Finds k h (expr_tape false e) i →
      Finds k h (type_name_tape k ws d ++ expr_tape false e ++ ops.Form (forms.Cast opening (last_token e)) ∷ [])
      (λ a. f a ++ (g a ++ (i a ++ some_fresh a opening (type_at a ws))))
  cast_finds f g i opening ws d e p q =
      of_four f g i (λ a. some_fresh a opening (type_at a ws))
      (followed (ops.Form (forms.Cast opening (last_token e))) (λ a. some_fresh a opening (type_at a ws)) (join p q)
      (λ st r. ap (some_fresh (at k r) opening) (cast_type k ws d e st)) (λ ds r. refl))

  pub va_arg_finds : {h : Having} (f g i : Around → List Start) (keyword : ℕ) (e : Expr) (ws : SpecWords)
      (d : SomeDeclr)
      (closing : ℕ) → Finds k h (expr_tape false e) f →
      Finds k h (type_name_tape k ws d) (λ a. g a ++ i a) →
      Finds k h (expr_tape false e ++ type_name_tape k ws d ++ ops.Form (forms.VaArg keyword closing) ∷ [])
      (λ a. f a ++ (g a ++ (i a ++ some_fresh a keyword (type_at a ws))))
  va_arg_finds f g i keyword e ws d closing p q =
      same (followed (ops.Form (forms.VaArg keyword closing)) (λ a. some_fresh a keyword (type_at a ws)) (join p q)
      (λ st r. ap (some_fresh (at k r) keyword) (va_arg_type k e ws d st)) (λ ds r. refl))
      (λ r. append_assoc (f (at k r)) (g (at k r) ++ i (at k r)) (some_fresh (at k r) keyword (type_at (at k r) ws))
      ∙ ap (λ (starts : List Start). f (at k r) ++ starts)
      (append_assoc (g (at k r)) (i (at k r)) (some_fresh (at k r) keyword (type_at (at k r) ws))))

  pub literal_finds : {h : Having} (f g i : Around → List Start) (opening : ℕ) (ws : SpecWords) (d : SomeDeclr)
      (list : InitList) →
      Finds k h (type_name_tape k ws d) (λ a. f a ++ g a) →
      Finds k h (list_tape list) i →
      Finds k h
      (type_name_tape k ws d ++ init inits.Begin ++ list_tape list ++ init (inits.Literal opening) ++ rule_of_list list
      ++ init inits.LiteralEnd)
      (λ a. f a ++ (g a ++ (i a ++ some_fresh a opening (some_place (type_at a ws)))))
  literal_finds {h = h} f g i opening ws d list p q =
      of_four f g i (λ a. some_fresh a opening (some_place (type_at a ws)))
      (without (ops.Init inits.LiteralEnd)
      (silent (followed (ops.Init (inits.Literal opening)) (λ a. some_fresh a opening (some_place (type_at a ws)))
      (join (without (ops.Init inits.Begin) p (λ st r. refl) (λ ds r. refl)) q)
      (λ st r. ap (λ (t : Option CType). some_fresh (at k r) opening (some_place t)) (literal_type k ws d list st))
      (λ ds r. refl)) (list_none k list h)) (λ st r. refl) (λ ds r. refl))

  -- operators before an operand

  pub prefix_finds : {h : Having} (token : ℕ) (p : Punct) (e : Expr) (aims : Bool) →
      Finds k h (tape_in false true e) (λ a. expr_starts a e)
      → Finds k h (tape_in false false e) (λ a. expr_starts a e) →
      Finds k h (prefix_tape token p e aims (tape_in false true e) (tape_in false false e))
      (λ a. expr_starts a (prefix token p e))
  prefix_finds token signs.Ampersand e aims p q =
      followed (ops.Expr (exprs.Prefix signs.Ampersand token (last_token e) (comes_by_pointer false e)))
      (λ a. prefix_starts signs.Ampersand (comes_by_pointer false e && a.access) a token
      (shape_of a.spelling a.names e)) p
      (λ st r. ap (λ (it : State). starts_at k it r
      (ops.Expr (exprs.Prefix signs.Ampersand token (last_token e) (comes_by_pointer false e))))
      (addressed_left k e st)) (λ ds r. refl)
  prefix_finds token sign e aims p q =
      followed (ops.Expr (exprs.Prefix sign token (last_token e) aims))
      (λ a. prefix_starts sign (comes_by_pointer false e && a.access) a token (shape_of a.spelling a.names e)) q
      (λ st r. refl) (λ ds r. refl)

  -- picks

  pub choose_finds : {h : Having} (keyword : ℕ) (e e2 e3 : Expr)
      → Finds k h (quietly (expr_tape false e)) (λ a. expr_starts (quiet a) e) →
      Finds k h (expr_tape false e2) (λ a. expr_starts a e2) → Finds k h (expr_tape false e3) (λ a. expr_starts a e3) →
      Finds k h
      (quietly (expr_tape false e) ++ expr_tape false e2 ++ expr_tape false e3 ++ ops.Form (forms.Choose keyword) ∷ [])
      (λ a. expr_starts (quiet a) e ++ (expr_starts a e2 ++ (expr_starts a e3
      ++ pick_starts a keyword (candidate_of a.spelling a.names e2 ∷ candidate_of a.spelling a.names e3 ∷ []))))
  choose_finds keyword e e2 e3 p q s =
      of_four (λ a. expr_starts (quiet a) e) (λ a. expr_starts a e2) (λ a. expr_starts a e3)
      (λ a. pick_starts a keyword (candidate_of a.spelling a.names e2 ∷ candidate_of a.spelling a.names e3 ∷ []))
      (followed (ops.Form (forms.Choose keyword))
      (λ a. pick_starts a keyword (candidate_of a.spelling a.names e2 ∷ candidate_of a.spelling a.names e3 ∷ []))
      (join (join p q) s)
      (λ st r. ap (λ (it : State). starts_at k it r (ops.Form (forms.Choose keyword))) (choice_left k e e2 e3 st))
      (λ ds r. refl))

  selected_kept : (e : Expr) (xs : Assocs) (st : State) →
      selected_among (assoc_count xs) (with_assocs k xs (with_expr k e st))
      ≡ selected_by (value (shape_of k.spelling k.names e)) (associations_of k.spelling k.names xs)
  selected_kept e xs st =
      ap (λ (operands : List Operand). selected_by (value (shape_of_operand (first_operand operands)))
      (associations (assoc_count xs) (with_assocs k xs (with_expr k e st))))
      (under_assocs k xs (operand_of k e ∷ st.operands))
      ∙ ap (selected_by (value (shape_of k.spelling k.names e))) (assocs_kept k xs (with_expr k e st))

  pub generic_finds : {h : Having} (keyword : ℕ) (e : Expr) (xs : Assocs) →
      Finds k h (ops.Stmt stmts.Quiet ∷ (expr_tape false e ++ ops.Form forms.Control ∷ []))
      (λ a. expr_starts (quiet a) e) →
      Finds k h (assocs_tape xs) (λ a. assocs_starts a xs) →
      Finds k h (selection_tape k e xs ++ ops.Form (forms.Generic keyword (assoc_count xs)) ∷ [])
      (λ a. expr_starts (quiet a) e ++ (assocs_starts a xs
      ++ pick_starts a keyword
      (selected_by (value (shape_of a.spelling a.names e)) (associations_of a.spelling a.names xs))))
  generic_finds keyword e xs p q =
      of_three (λ a. expr_starts (quiet a) e) (λ a. assocs_starts a xs)
      (λ a. pick_starts a keyword
      (selected_by (value (shape_of a.spelling a.names e)) (associations_of a.spelling a.names xs)))
      (followed (ops.Form (forms.Generic keyword (assoc_count xs)))
      (λ a. pick_starts a keyword
      (selected_by (value (shape_of a.spelling a.names e)) (associations_of a.spelling a.names xs)))
      (join p q)
      (λ st r. ap (λ (it : State). starts_at k it r (ops.Form (forms.Generic keyword (assoc_count xs))))
      (selection_left k e xs st)
      ∙ ap (λ (all : List Candidate). pick_starts (at k r) keyword all) (selected_kept e xs st)) (λ ds r. refl))

-- parameters

-- along the tape of parameters, of which each has a number
pub record FindsParams (k : Over) (h : Having) (tape : List Op) (f : Around → List Start) : Type 0 where
  pub finds : (st : State) (r : Rounds) (n : Naming) (q : Bool) → naming_has k.spelling k.names n ≡ h →
      found k st (with_round n q r) tape ≡ f (at k (with_round n q r))
  pub ends : (st : State) (r : Rounds) (n : Naming) (q : Bool) →
      left (rounds_behind k st (with_round n q r) tape) ≡ r

pub no_param : {k : Over} {h : Having} → FindsParams k h [] (λ a. [])
no_param = record { finds = λ st r n q e. refl; ends = λ st r n q. refl }

-- the next parameter of a list has the skeleton that the one before it has
next_has : (k : Over) (n : Naming) →
    naming_has k.spelling k.names (next_naming n) ≡ naming_has k.spelling k.names n
next_has k a_name = refl
next_has k (own_param f n) = refl
next_has k other_param = refl
next_has k (identified_param f) = refl

-- an identifier of a list has the skeleton that its naming has
identified_has : (k : Over) (n : Naming) →
    naming_has k.spelling k.names (identified_naming n) ≡ naming_has k.spelling k.names n
identified_has k a_name = refl
identified_has k (own_param f n) = refl
identified_has k other_param = refl
identified_has k (identified_param f) = refl

-- identifiers before other ops of a list
pub identifiers_find : {k : Over} {h : Having} {tape : List Op} {f : Around → List Start} (names : List Identifier) →
    FindsParams k h tape f → FindsParams k h (identifiers_tape names ++ tape) f
identifiers_find [] p = p
identifiers_find {k} {h} {tape} {f} (name ∷ names) p =
    let others : FindsParams k h (identifiers_tape names ++ tape) f = identifiers_find names p in
    record {
      finds = λ st r n q e. others.finds st r (identified_naming n) q (identified_has k n ∙ e);
      ends = λ st r n q. others.ends st r (identified_naming n) q;
    }

-- what is found in each round, is found in a list
pub in_list : {k : Over} {h : Having} {tape : List Op} {f : Around → List Start} → Finds k h tape f
    → FindsParams k h tape f
in_list p = record {
  finds = λ st r n q e. p.finds st (with_round n q r) e;
  ends = λ st r n q. ap left (p.stays st (with_round n q r));
}

-- along a list of parameters the skeletons of the first are found, then those of the others
pub one_param : {k : Over} {h : Having} {xs ys : List Op} {f g : Around → List Start} → Finds k h xs f →
    FindsParams k h ys g → FindsParams k h (xs ++ ops.Declr declrs.Param ∷ [] ++ ys) (λ a. f a ++ g a)
one_param {k} {h} {xs} {ys} {f} {g} p q = record {
  finds = λ st r n b e.
      found_append k (xs ++ ops.Declr declrs.Param ∷ []) ys st (with_round n b r)
      ∙ (ap (λ (it : Rounds). found k st (with_round n b r) (xs ++ ops.Declr declrs.Param ∷ [])
      ++ found k (behind k st (xs ++ ops.Declr declrs.Param ∷ [])) it ys) (numbered st r n b)
      ∙ (ap (λ (starts : List Start). starts
      ++ found k (behind k st (xs ++ ops.Declr declrs.Param ∷ [])) (with_round (next_naming n) b r) ys)
      (before st r n b e)
      ∙ ap (λ (starts : List Start). f (at k (with_round n b r)) ++ starts)
      (q.finds (behind k st (xs ++ ops.Declr declrs.Param ∷ [])) r (next_naming n) b (next_has k n ∙ e))));
  ends = λ st r n b.
      ap left (rounds_append k (xs ++ ops.Declr declrs.Param ∷ []) ys st (with_round n b r)
      ∙ ap (λ (it : Rounds). rounds_behind k (behind k st (xs ++ ops.Declr declrs.Param ∷ [])) it ys)
      (numbered st r n b))
      ∙ q.ends (behind k st (xs ++ ops.Declr declrs.Param ∷ [])) r (next_naming n) b;
} where
  numbered : (st : State) (r : Rounds) (n : Naming) (b : Bool) →
      rounds_behind k st (with_round n b r) (xs ++ ops.Declr declrs.Param ∷ []) ≡ with_round (next_naming n) b r
  numbered st r n b = rounds_append k xs (ops.Declr declrs.Param ∷ []) st (with_round n b r)
      ∙ ap (λ (it : Rounds). round_step (behind k st xs).declarations it (ops.Declr declrs.Param))
      (p.stays st (with_round n b r))

  before : (st : State) (r : Rounds) (n : Naming) (b : Bool) → naming_has k.spelling k.names n ≡ h →
      found k st (with_round n b r) (xs ++ ops.Declr declrs.Param ∷ []) ≡ f (at k (with_round n b r))
  before st r n b e = found_append k xs (ops.Declr declrs.Param ∷ []) st (with_round n b r)
      ∙ (append-nil (found k st (with_round n b r) xs) ∙ p.finds st (with_round n b r) e)

-- three groups of skeletons that are found along parameters are found there in the other grouping
pub params_grouped : {k : Over} {h : Having} {tape : List Op} (f g i : Around → List Start) →
    FindsParams k h tape (λ a. (f a ++ g a) ++ i a) → FindsParams k h tape (λ a. f a ++ (g a ++ i a))
params_grouped {k} f g i p = record {
  finds = λ st r n q e. p.finds st r n q e
      ∙ append_assoc (f (at k (with_round n q r))) (g (at k (with_round n q r))) (i (at k (with_round n q r)));
  ends = p.ends;
}

-- a list that says that there are none has none
pub listed : {k : Over} {h : Having} {f : Around → List Start} (none : Bool) (tape : List Op) →
    (none ≡ true → (a : Around) → f a ≡ []) → FindsParams k h tape f →
    FindsParams k h (if none then [] else tape) f
listed {k} true tape empty p = record {
  finds = λ st r n q e. sym (empty refl (at k (with_round n q r)));
  ends = λ st r n q. refl;
}
listed false tape empty p = p

-- a list, from a state in whose declaration its names have that
pub list_found : {k : Over} {h : Having} {list : List Op} {f : Around → List Start} (own : Bool) →
    FindsParams k h list f → (st : State) (r : Rounds) →
    naming_has k.spelling k.names (params_naming own st.declarations) ≡ h →
    found k st r (ops.Declr (declrs.ParamsBegin own) ∷ (list ++ ops.Declr declrs.ParamsEnd ∷ [])) ≡ f (at k r)
list_found {k} {list = list} own p st r e =
    found_append k list (ops.Declr declrs.ParamsEnd ∷ []) st
    (with_round (params_naming own st.declarations) (is_quiet r) r)
    ∙ (append-nil (found k st (with_round (params_naming own st.declarations) (is_quiet r) r) list)
    ∙ p.finds st r (params_naming own st.declarations) (is_quiet r) e)

-- a list of parameters leaves the rounds as they were before it
pub list_stays : {k : Over} {h : Having} {list : List Op} {f : Around → List Start} (own : Bool) →
    FindsParams k h list f → (st : State) (r : Rounds) →
    rounds_behind k st r (ops.Declr (declrs.ParamsBegin own) ∷ (list ++ ops.Declr declrs.ParamsEnd ∷ [])) ≡ r
list_stays {k} {list = list} own p st r =
    rounds_append k list (ops.Declr declrs.ParamsEnd ∷ []) st
    (with_round (params_naming own st.declarations) (is_quiet r) r)
    ∙ p.ends st r (params_naming own st.declarations) (is_quiet r)

-- from a state in whose declaration these parameters have that
pub params_found : {k : Over} {h : Having} (own : Bool) (ps : Params) →
    FindsParams k h (params_tape ps) (λ a. params_starts a h ps) → (st : State) (r : Rounds) →
    naming_has k.spelling k.names (params_naming own st.declarations) ≡ h →
    found k st r (params_with own (says_none ps) (params_tape ps)) ≡ params_starts (at k r) h ps
params_found {k} {h} own ps p st r e =
    list_found own (listed (says_none ps) (params_tape ps) (λ none a. none_said a h ps none) p) st r e

pub params_stay : {k : Over} {h : Having} (own : Bool) (ps : Params) →
    FindsParams k h (params_tape ps) (λ a. params_starts a h ps) → (st : State) (r : Rounds) →
    rounds_behind k st r (params_with own (says_none ps) (params_tape ps)) ≡ r
params_stay {k} {h} own ps p st r =
    list_stays own (listed (says_none ps) (params_tape ps) (λ none a. none_said a h ps none) p) st r

-- parameters that are no function's own
pub params_with_find : {k : Over} {h : Having} (ps : Params) →
    FindsParams k without_skeleton (params_tape ps) (λ a. params_starts a without_skeleton ps) →
    Finds k h (params_with false (says_none ps) (params_tape ps)) (λ a. params_starts a without_skeleton ps)
params_with_find ps p =
    record { finds = λ st r e. params_found false ps p st r refl; stays = λ st r. params_stay false ps p st r }

-- A function's declarator, from a declaration of which no declarator was read: its own parameters belong to the
-- function.
abbrev pub own_of : Over → Declr → Having
own_of k d = of_function (function_at k.spelling k.names (token_of (declared_name d)))

pub record OwnFinds (k : Over) (h : Having) (tape : List Op) (f : Around → List Start) : Type 0 where
  pub finds : (declared : Option ℕ) (st : State) (r : Rounds) → has_at k r ≡ h →
      found k (declaring None declared st) r tape ≡ f (at k r)
  pub stays : (declared : Option ℕ) (st : State) (r : Rounds) → rounds_behind k (declaring None declared st) r tape ≡ r

-- what is found from each state
pub own_plain : {k : Over} {h : Having} {tape : List Op} {f : Around → List Start} → Finds k h tape f
    → OwnFinds k h tape f
own_plain p =
    record { finds = λ n st r e. p.finds (declaring None n st) r e; stays = λ n st r. p.stays (declaring None n st) r }

-- skeletons of a function's declarator, then those of a tape behind it, are found along both together
pub own_joined : {k : Over} {h : Having} {xs ys : List Op} {f g : Around → List Start} → OwnFinds k h xs f
    → Finds k h ys g →
    OwnFinds k h (xs ++ ys) (λ a. f a ++ g a)
own_joined {k} {xs = xs} {ys = ys} {f = f} p q = record {
  finds = λ n st r e. found_append k xs ys (declaring None n st) r
      ∙ (ap (λ (b : Rounds). found k (declaring None n st) r xs ++ found k (behind k (declaring None n st) xs) b ys)
      (p.stays n st r)
      ∙ (ap (λ (starts : List Start). starts ++ found k (behind k (declaring None n st) xs) r ys) (p.finds n st r e)
      ∙ ap (λ (starts : List Start). f (at k r) ++ starts) (q.finds (behind k (declaring None n st) xs) r e)));
  stays = λ n st r. rounds_append k xs ys (declaring None n st) r
      ∙ (ap (λ (b : Rounds). rounds_behind k (behind k (declaring None n st) xs) b ys) (p.stays n st r)
      ∙ q.stays (behind k (declaring None n st) xs) r);
}

-- a list behind a tape that leaves the name of its declarator, whose parameters have that
pub own_listed : {k : Over} {h within : Having} {xs list : List Op} {f g : Around → List Start} (own : Bool)
    (name : Option ℕ) →
    OwnFinds k h xs f
    → ((declared : Option ℕ) (st : State) → behind k (declaring None declared st) xs ≡ declaring name declared st) →
    ((declared : Option ℕ) (st : State)
    → naming_has k.spelling k.names (params_naming own (declaring name declared st).declarations) ≡ within) →
    FindsParams k within list g →
    OwnFinds k h (xs ++ (ops.Declr (declrs.ParamsBegin own) ∷ (list ++ ops.Declr declrs.ParamsEnd ∷ [])))
    (λ a. f a ++ g a)
own_listed {k} {xs = xs} {list = list} {f = f} own name p left has q = record {
  finds = λ n st r e. found_append k xs tail (declaring None n st) r
      ∙ (ap (λ (b : Rounds). found k (declaring None n st) r xs ++ found k (behind k (declaring None n st) xs) b tail)
      (p.stays n st r)
      ∙ (ap (λ (starts : List Start). starts ++ found k (behind k (declaring None n st) xs) r tail) (p.finds n st r e)
      ∙ ap (λ (starts : List Start). f (at k r) ++ starts)
      (ap (λ (b : State). found k b r tail) (left n st) ∙ list_found own q (declaring name n st) r (has n st))));
  stays = λ n st r. rounds_append k xs tail (declaring None n st) r
      ∙ (ap (λ (b : Rounds). rounds_behind k (behind k (declaring None n st) xs) b tail) (p.stays n st r)
      ∙ list_stays own q (behind k (declaring None n st) xs) r);
} where
  tail : List Op
  tail = ops.Declr (declrs.ParamsBegin own) ∷ (list ++ ops.Declr declrs.ParamsEnd ∷ [])

-- behind the specifiers
pub own_behind : {k : Over} {h : Having} {xs tape : List Op} {f g : Around → List Start} →
    Finds k h xs f → ((st : State) → behind k st xs ≡ opened st) → OwnFinds k h tape g →
    Finds k h (xs ++ tape) (λ a. f a ++ g a)
own_behind {k} {xs = xs} {tape = tape} {f = f} p left q = record {
  finds = λ st r e. found_append k xs tape st r
      ∙ (ap (λ (b : Rounds). found k st r xs ++ found k (behind k st xs) b tape) (p.stays st r)
      ∙ (ap (λ (starts : List Start). starts ++ found k (behind k st xs) r tape) (p.finds st r e)
      ∙ ap (λ (starts : List Start). f (at k r) ++ starts)
      (ap (λ (it : State). found k it r tape) (left st) ∙ q.finds None st r e)));
  stays = λ st r. rounds_append k xs tape st r
      ∙ (ap (λ (b : Rounds). rounds_behind k (behind k st xs) b tape) (p.stays st r)
      ∙ (ap (λ (it : State). rounds_behind k it r tape) (left st) ∙ q.stays None st r));
}
