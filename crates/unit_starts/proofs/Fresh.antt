-- What is fresh at a condition, at an operator before its operand, and at a pick.
use Rattle.std.proofs.Common.{◌≡◌, ℕ, Bool, not, sym, ◌&&◌, List, [], ◌∷◌, Option, None, Some, refl, ◌∙◌, ap, if◌then◌else◌}
use Rattle.c_words.specs.declared.kinds.Punct.{Punct}
use Rattle.c_words.specs.declared.kinds.Punct.TheVariants as signs
use Rattle.tape_ops.specs.declared.expression.ExprOp.TheVariants as exprs
use Rattle.tape_ops.specs.declared.form.FormOp.TheVariants as forms
use Rattle.type_table.specs.Types.{CType, base}
use Rattle.name_rules.specs.Spellings.{Place, Spelling, place}
use Rattle.name_rules.specs.Scopes.{Names}
use Rattle.name_rules.specs.Values.{cond_type, Shape, Candidate, address, is_fresh_pick, pick_shape}
use Rattle.name_rules.specs.ShapeSteps.State.{State, shape_at, value_at, is_zero_at}
use Rattle.name_rules.specs.ShapeSteps.Steps.{chosen}
use Rattle.row_rules.specs.Starting.{Start, some_fresh, fresh_where, is_fresh_prefix, prefix_starts}
use Rattle.row_rules.specs.RowSteps.Rounds.{Rounds, is_quiet}
use Rattle.row_rules.specs.RowSteps.Starting.{function_at, around, expr_op_starts, form_op_starts, selected_among}
use Rattle.unit_starts.specs.declared.start.Around.{Around}
use Rattle.unit_starts.specs.Views.{some_fresh_at, prefix_at, pick_at}

module _ (u : Spelling) (s : Names) (r : Rounds) (it : Around)
    (enclosing : it.enclosing ≡ function_at u s r.body) (quiet : it.is_quiet ≡ is_quiet r) where
  fresh_there : (token : ℕ) (t : Option CType) → some_fresh_at it (place u token) t ≡ some_fresh (around u s r) token t
  fresh_there token None = refl
  fresh_there token (Some t) =
      ap (λ (q : Bool).
      let starts : List Start = if q then []
      else record { at = place u token; type = t; owner = it.enclosing; calls = None } ∷ [] in starts) quiet
      ∙ ap (λ (e : Option Place).
      let starts : List Start = if is_quiet r then []
      else record { at = place u token; type = t; owner = e; calls = None } ∷ [] in starts) enclosing

  pub fresh_condition : (st : State) (has_middle : Bool) (token first last : ℕ) (at : Place) → at ≡ place u token
      → fresh_where (not (is_zero_at 1 st) && not (is_zero_at 0 st))
      (some_fresh_at it at (cond_type (is_zero_at 1 st) (is_zero_at 0 st) (value_at 1 st) (value_at 0 st)))
      ≡ expr_op_starts u s st r (exprs.Cond has_middle token first last)
  fresh_condition st has_middle token first last at there =
      let fresh = not (is_zero_at 1 st) && not (is_zero_at 0 st) in
      let t = cond_type (is_zero_at 1 st) (is_zero_at 0 st) (value_at 1 st) (value_at 0 st) in
      ap (λ (p : Place). fresh_where fresh (some_fresh_at it p t)) there
      ∙ ap (fresh_where fresh) (fresh_there token t)

  prefix_there : (sign : Punct) (carries : Bool) (token : ℕ) (e : Shape)
      → prefix_at sign carries it (place u token) e ≡ prefix_starts sign carries (around u s r) token e
  prefix_there signs.Ampersand carries token e = ap (fresh_where carries) (fresh_there token (address e))
  prefix_there sign carries token e = ap (fresh_where (is_fresh_prefix sign)) (fresh_there token (Some (base [])))

  pub fresh_prefix : (st : State) (sign : Punct) (token last : ℕ) (aims b : Bool) (at : Place) → at ≡ place u token
      → b ≡ (aims && it.access) → it.access ≡ r.access
      → prefix_at sign b it at (shape_at 0 st) ≡ expr_op_starts u s st r (exprs.Prefix sign token last aims)
  fresh_prefix st sign token last aims b at there carries access =
      ap (λ (p : Place). prefix_at sign b it p (shape_at 0 st)) there
      ∙ ap (λ (b : Bool). prefix_at sign b it (place u token) (shape_at 0 st))
      (carries ∙ ap (λ (b : Bool). aims && b) access)
      ∙ prefix_there sign (aims && r.access) token (shape_at 0 st)

  pick_there : (all : List Candidate) (token : ℕ) (at : Place) → at ≡ place u token
      → pick_at all it at ≡ fresh_where (is_fresh_pick all) (some_fresh (around u s r) token (pick_shape all).type)
  pick_there all token at there =
      ap (pick_at all it) there ∙ ap (fresh_where (is_fresh_pick all)) (fresh_there token (pick_shape all).type)

  pub fresh_choice : (st : State) (token : ℕ) (at : Place) → at ≡ place u token
      → pick_at (chosen st) it at ≡ form_op_starts u s st r (forms.Choose token)
  fresh_choice st token at there = pick_there (chosen st) token at there

  pub fresh_selection : (st : State) (token count : ℕ) (at : Place) → at ≡ place u token
      → pick_at (selected_among count st) it at ≡ form_op_starts u s st r (forms.Generic token count)
  fresh_selection st token count at there = pick_there (selected_among count st) token at there
