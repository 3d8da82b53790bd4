-- What stands along the parts of a tape, and what the rule of a literal's list leaves as it was.
use Rattle.std.proofs.Common.{◌≡◌, List, [], ◌∷◌, ◌++◌, refl, sym, ◌∙◌, ap, append_assoc}
use Rattle.tape_ops.specs.declared.op.Op.{Op}
use Rattle.c_tree.specs.Tree.{Init, init_value, init_braced, InitList, init_list, InitItems, no_init_items, more_init_items, Desigs, no_desigs, more_desigs, Desig, member_desig, index_desig, range_desig, old_desig}
use Rattle.c_tape.specs.Tape.{rule, rule_of_list, rule_of_items, desig_tape, desigs_tape}
use Rattle.name_rules.specs.Spellings.{Spelling}
use Rattle.name_rules.specs.Scopes.{Names}
use Rattle.name_rules.specs.ShapeSteps.State.{State}
use Rattle.name_rules.specs.ShapeSteps.Steps.{step, run}
use Rattle.expr_types.specs.Keys.{op_key}
use Rattle.expr_types.specs.Along.{Keyed, literal_on, op_shape, keyed, shapes_along}

module _ (u : Spelling) (s : Names) where
  pub run_append : (xs ys : List Op) (st : State) → run u s st (xs ++ ys) ≡ run u s (run u s st xs) ys
  run_append [] ys st = refl
  run_append (op ∷ xs) ys st = run_append xs ys (step u s st op)

  pub shapes_append : (xs ys : List Op) (st : State)
      → shapes_along u s st (xs ++ ys) ≡ shapes_along u s st xs ++ shapes_along u s (run u s st xs) ys
  shapes_append [] ys st = refl
  shapes_append (op ∷ xs) ys st =
      let here = keyed u (op_key op) (op_shape st (step u s st op) op) in
      ap (λ (it : List Keyed). here ++ it) (shapes_append xs ys (step u s st op))
      ∙ sym (append_assoc here (shapes_along u s (step u s st op) xs)
      (shapes_along u s (run u s (step u s st op) xs) ys))

  -- a tape that leaves the literal on the stack as it was
  pub record Keeps (tape : List Op) : Type 0 where
    pub keeps : (st : State) → literal_on (run u s st tape) ≡ literal_on st

  none : Keeps []
  none = record { keeps = λ st. refl }

  one : (op : Op) → ((st : State) → literal_on (step u s st op) ≡ literal_on st) → Keeps (op ∷ [])
  one op h = record { keeps = h }

  both : (xs ys : List Op) → Keeps xs → Keeps ys → Keeps (xs ++ ys)
  both xs ys p q = record {
    keeps = λ st. ap literal_on (run_append xs ys st) ∙ q.keeps (run u s st xs) ∙ p.keeps st;
  }

  desig_keeps : (d : Desig) → Keeps (desig_tape d)
  desig_keeps (member_desig before name) = one _ (λ st. refl)
  desig_keeps (index_desig opening e closing) = one _ (λ st. refl)
  desig_keeps (range_desig opening e dots e2 closing) = one _ (λ st. refl)
  desig_keeps (old_desig name colon) = one _ (λ st. refl)

  desigs_keep : (ds : Desigs) → Keeps (desigs_tape ds)
  desigs_keep no_desigs = none
  desigs_keep (more_desigs d ds) = both _ _ (desig_keeps d) (desigs_keep ds)

  mutual
    rule_keeps : (i : Init) → Keeps (rule i)
    rule_keeps (init_value e) = one _ (λ st. refl)
    rule_keeps (init_braced list) = list_keeps list

    pub list_keeps : (list : InitList) → Keeps (rule_of_list list)
    list_keeps (init_list opening items last closing) =
        both _ _ (both _ _ (one _ (λ st. refl)) (items_keep items)) (one _ (λ st. refl))

    items_keep : (items : InitItems) → Keeps (rule_of_items items)
    items_keep no_init_items = none
    items_keep (more_init_items ds equal i items) =
        both _ _ (both _ _ (desigs_keep ds) (rule_keeps i)) (items_keep items)
