-- Skeletons begin along tapes at the places of their ops, one an op at most.
use Rattle.std.proofs.Common.{◌≡◌, ℕ, Bool, true, false, All, List, [], ◌∷◌, ◌++◌, Option, None, Some, refl, sym, ap, subst}
use Rattle.std.specs.Prelude.{not, ◌&&◌, if◌then◌else◌}
use Rattle.c_words.specs.declared.kinds.Punct.{Punct}
use Rattle.c_words.specs.declared.kinds.Punct.TheVariants as signs
use Rattle.tape_ops.specs.declared.op.Op.{Op}
use Rattle.tape_ops.specs.declared.op.Op.TheVariants as ops
use Rattle.tape_ops.specs.declared.expression.ExprOp.{ExprOp}
use Rattle.tape_ops.specs.declared.expression.ExprOp.TheVariants as exprs
use Rattle.tape_ops.specs.declared.form.FormOp.{FormOp}
use Rattle.tape_ops.specs.declared.form.FormOp.TheVariants as forms
use Rattle.tape_ops.specs.declared.initialiser.InitOp.{InitOp}
use Rattle.tape_ops.specs.declared.initialiser.InitOp.TheVariants as inits
use Rattle.tape_ops.specs.declared.specifier.SpecOp.{SpecOp}
use Rattle.tape_ops.specs.declared.specifier.SpecOp.TheVariants as specs
use Rattle.tape_ops.specs.declared.declarator.DeclrOp.{DeclrOp}
use Rattle.tape_ops.specs.declared.declarator.DeclrOp.TheVariants as declrs
use Rattle.type_table.specs.Types.{CType, base, void, pointer}
use Rattle.c_tape.specs.Tape.{tape_of}
use Rattle.name_rules.specs.Spellings.{Spelling, Place, place}
use Rattle.name_rules.specs.Scopes.{Role, typedef_role, object_role, function_role, parameter_role, field_role, enumerator_role, Declared, declared_at, Use, means, called, missing, Names}
use Rattle.name_rules.specs.Linking.{link_of}
use Rattle.name_rules.specs.Uses.{use_at, text_type}
use Rattle.name_rules.specs.Values.{undeclared_function, Shape, address, pick_shape, is_fresh_pick}
use Rattle.type_rules.specs.Program.{Source, names_of}
use Rattle.name_rules.specs.ShapeSteps.State.{State, nothing, value_at, is_zero_at, type_at, shape_at, type_of_operand, first_operand, operands_below}
use Rattle.name_rules.specs.ShapeSteps.Steps.{chosen, step, expr_step}
use Rattle.row_rules.specs.Starting.{Start, Around, fresh, some_fresh, declared_start, some_declared_start, instance, use_by_role, some_use_start, use_start, some_place, is_some_pointer, is_fresh_binary, is_fresh_prefix, prefix_starts, fresh_where, Having, with_skeleton, of_function, without_skeleton, had_name}
use Rattle.row_rules.specs.Sites.{AreDifferent}
use Rattle.row_rules.specs.RowSteps.Rounds.{Rounds, file, naming, left, round_step}
use Rattle.row_rules.specs.RowSteps.Starting.{around, naming_has, selected_among, expr_op_starts, form_op_starts, init_op_starts, spec_op_starts, declr_op_starts, op_starts, starts_found, unit_starts}
use Rattle.constraint_rules.specs.Systems.{starts_of}
use Rattle.row_laws.specs.StartLaws.Laws.{IsSound, StartsOfProgramAreFound, found_on}
use Rattle.row_laws.specs.KeyLaws.Keys.{expr_key, spec_key, declr_key, op_key, key_place, key_places}
use Rattle.expr_types.specs.Keys.{form_key, init_key}
use Rattle.row_laws.specs.KeyLaws.Differing.{keys_among}
use Rattle.owned_laws.proofs.ScopeLaws.Places.{declared_place}
use Rattle.missing_laws.specs.Programs.{start_places}
use Rattle.whole_laws.proofs.Parts.{IsPart, none, part_differs, no_part, joined_part, same_part}

starts_joined : (xs ys : List Start) → start_places (xs ++ ys) ≡ start_places xs ++ start_places ys
starts_joined [] ys = refl
starts_joined (x ∷ xs) ys = ap (λ (ps : List Place). x.at ∷ ps) (starts_joined xs ys)

-- of fresh values

module _ (a : Around) (token : ℕ) where
  -- one at most, at the token
  abbrev AtToken : List Start → Type 0
  AtToken xs = IsPart (start_places xs) (place a.spelling token ∷ [])

  nothing_at : AtToken []
  nothing_at = no_part (place a.spelling token ∷ [])

  fresh_at : (t : CType) → AtToken (fresh a token t)
  fresh_at t = by a.is_quiet
    where
      by : (b : Bool) → AtToken (if b then [] else
          record { at = place a.spelling token; type = t; owner = a.enclosing; calls = None } ∷ [])
      by true = nothing_at
      by false = same_part (place a.spelling token)

  some_fresh_at : (t : Option CType) → AtToken (some_fresh a token t)
  some_fresh_at None = nothing_at
  some_fresh_at (Some t) = fresh_at t

  where_at : (b : Bool) (xs : List Start) → AtToken xs → AtToken (fresh_where b xs)
  where_at true xs h = h
  where_at false xs h = nothing_at

  prefix_at : (sign : Punct) (carries : Bool) (e : Shape) → AtToken (prefix_starts sign carries a token e)
  prefix_at signs.Ampersand carries e = where_at carries _ (some_fresh_at (address e))
  prefix_at sign carries e = where_at (is_fresh_prefix sign) _ (fresh_at (base []))

  instance_at : (p : Place) (t : CType) → AtToken (instance a token p t)
  instance_at p t = by a.is_quiet
    where
      by : (b : Bool) → AtToken (if b then [] else
          record {
            at = place a.spelling token;
            type = pointer [] t;
            owner = a.enclosing;
            calls = Some (link_of a.names p);
          } ∷ [])
      by true = nothing_at
      by false = same_part (place a.spelling token)

  role_at : (d : Declared) (role : Role) → AtToken (use_by_role a token d role)
  role_at d typedef_role = nothing_at
  role_at d object_role = nothing_at
  role_at d function_role = instance_at d.at d.type
  role_at d (parameter_role i) = nothing_at
  role_at d (field_role n i) = nothing_at
  role_at d enumerator_role = fresh_at (base [])

  some_use_at : (d : Option Declared) → AtToken (some_use_start a token d)
  some_use_at None = nothing_at
  some_use_at (Some d) = role_at d d.role

  used_at : (it : Use) → AtToken (use_start a token it)
  used_at (means p) = some_use_at (declared_at a.names.declared p)
  used_at called = fresh_at (pointer [] undeclared_function)
  used_at missing = nothing_at

  -- of names that are declared

  named_at : (d : Declared) → d.at ≡ place a.spelling token → IsPart (d.at ∷ []) (place a.spelling token ∷ [])
  named_at d e =
      subst (λ (p : Place). IsPart (p ∷ []) (place a.spelling token ∷ [])) (sym e) (same_part (place a.spelling token))

  declared_part : (f : Option Place) (d : Declared) → d.at ≡ place a.spelling token → (role : Role) →
      AtToken (declared_start a.names f d role)
  declared_part f d e typedef_role = nothing_at
  declared_part f d e enumerator_role = nothing_at
  declared_part f d e object_role = named_at d e
  declared_part f d e function_role = named_at d e
  declared_part f d e (parameter_role i) = named_at d e
  declared_part f d e (field_role n i) = named_at d e

  some_declared_part : (f : Option Place) (d : Option Declared) →
      declared_at a.names.declared (place a.spelling token) ≡ d → AtToken (some_declared_start a.names f d)
  some_declared_part f None e = nothing_at
  some_declared_part f (Some d) e =
      declared_part f d (declared_place a.names.declared (place a.spelling token) d e) d.role

  name_part : (f : Option Place) →
      AtToken (some_declared_start a.names f (declared_at a.names.declared (place a.spelling token)))
  name_part f = some_declared_part f (declared_at a.names.declared (place a.spelling token)) refl

  had_part : (h : Having) → AtToken (had_name h a token)
  had_part with_skeleton = name_part a.enclosing
  had_part (of_function f) = name_part f
  had_part without_skeleton = nothing_at

-- by each op

module _ (u : Spelling) (s : Names) (st : State) (r : Rounds) where
  abbrev here : Around
  here = around u s r

  abbrev Part : List Start → Option ℕ → Type 0
  Part xs key = IsPart (start_places xs) (key_place u key)

  expr_part : (op : ExprOp) → Part (expr_op_starts u s st r op) (expr_key op)
  expr_part (exprs.Name is_called token name) = used_at here token (use_at s.uses (place u token))
  expr_part (exprs.Number token) = fresh_at here token (base [])
  expr_part (exprs.Char token) = fresh_at here token (base [])
  expr_part (exprs.Text token) = fresh_at here token (pointer [] text_type)
  expr_part (exprs.Cond has_middle token first last) =
      where_at here token (not (is_zero_at 1 st) && not (is_zero_at 0 st)) _
      (some_fresh_at here token (shape_at 0 (expr_step u s st (exprs.Cond has_middle token first last))).type)
  expr_part (exprs.Binary sign token first last) =
      where_at here token (is_fresh_binary sign (is_some_pointer (value_at 1 st)) (is_some_pointer (value_at 0 st))) _
      (fresh_at here token (base []))
  expr_part (exprs.Prefix sign token last aims) = prefix_at here token sign (aims && r.access) (shape_at 0 st)
  expr_part (exprs.Label token) = fresh_at here token (pointer [] (void []))
  expr_part op = none

  form_part : (op : FormOp) → Part (form_op_starts u s st r op) (form_key op)
  form_part (forms.Cast token last) = some_fresh_at here token (type_at 1 st)
  form_part (forms.Sizeof token) = fresh_at (around u s (left r)) token (base [])
  form_part (forms.StmtExpr has_value token) = where_at here token (not has_value) _ (fresh_at here token (void []))
  form_part (forms.VaArg token last) = some_fresh_at here token (type_at 0 st)
  form_part (forms.VaStart token last) = fresh_at here token (void [])
  form_part (forms.VaCopy token last) = fresh_at here token (void [])
  form_part (forms.OffsetMember token name) = none
  form_part (forms.OffsetIndex token) = none
  form_part (forms.Offset token) = fresh_at (around u s (left r)) token (base [])
  form_part (forms.Compat token) = fresh_at (around u s (left r)) token (base [])
  form_part forms.Control = none
  form_part forms.NoType = none
  form_part (forms.Choose token) =
      where_at here token (is_fresh_pick (chosen st)) _ (some_fresh_at here token (pick_shape (chosen st)).type)
  form_part (forms.Generic token count) =
      let its = selected_among count st in
      where_at here token (is_fresh_pick its) _ (some_fresh_at here token (pick_shape its).type)

  init_part : (op : InitOp) → Part (init_op_starts u s st r op) (init_key op)
  init_part (inits.Literal token) =
      some_fresh_at here token (some_place (type_of_operand (first_operand (operands_below st))))
  init_part op = none

  spec_part : (op : SpecOp) → Part (spec_op_starts u s r op) (spec_key op)
  spec_part (specs.Enumerator token name) = nothing_at here token
  spec_part (specs.UnnamedMember token) = name_part here token here.enclosing
  spec_part op = none

  declr_part : (op : DeclrOp) → Part (declr_op_starts u s r op) (declr_key op)
  declr_part (declrs.DeclName token name) = had_part here token (naming_has u s (naming r))
  declr_part op = none

  op_part : (op : Op) → Part (op_starts u s st r op) (op_key op)
  op_part (ops.Expr op) = expr_part op
  op_part (ops.Form op) = form_part op
  op_part (ops.Init op) = init_part op
  op_part (ops.Spec op) = spec_part op
  op_part (ops.Declr op) = declr_part op
  op_part (ops.Stmt op) = none

-- along tapes

-- the skeletons along a tape begin at places of its ops, in their order
tape_part : (u : Spelling) (s : Names) (tape : List Op) (st : State) (r : Rounds) →
    IsPart (start_places (starts_found u s st r tape)) (key_places u tape)
tape_part u s [] st r = none
tape_part u s (op ∷ tape) st r =
    let next = step u s st op in
    let around_next = round_step st.declarations r op in
    subst (λ (ps : List Place). IsPart ps (key_place u (op_key op) ++ key_places u tape))
    (sym (starts_joined (op_starts u s st r op) (starts_found u s next around_next tape)))
    (joined_part (op_part u s st r op) (tape_part u s tape next around_next))

-- the skeletons of the sources begin at places of their ops, in their order
sources_part : (access : Bool) (s : Names) (sources : List Source) →
    IsPart (start_places (found_on access s sources)) (keys_among sources)
sources_part access s [] = none
sources_part access s (it ∷ sources) =
    subst (λ (ps : List Place). IsPart ps (key_places it.spelling (tape_of it.items) ++ keys_among sources))
    (sym (starts_joined (unit_starts access it.spelling s (tape_of it.items)) (found_on access s sources)))
    (joined_part (tape_part it.spelling s (tape_of it.items) nothing (file access)) (sources_part access s sources))

-- the skeletons of a program begin at different places, where its ops are
pub starts_differ : StartsOfProgramAreFound → (sources : List Source) → All IsSound sources →
    AreDifferent (keys_among sources) → (access : Bool) → AreDifferent (start_places (starts_of access sources))
starts_differ found sources sound differ access =
    subst (λ (starts : List Start). AreDifferent (start_places starts)) (found access sources sound)
    (part_differs (sources_part access (names_of sources) sources) differ)
