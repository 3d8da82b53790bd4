-- The associations of a `_Generic` on the stack of operands: of each its type, and above that its expression.
use Rattle.std.proofs.Common.{◌≡◌, ℕ, suc, List, ◌∷◌, drop, Option, None, refl, ◌∙◌, ap, arith}
use Rattle.c_tree.specs.Tree.{Expr, SpecWords, Assocs, no_assocs, more_assocs, Assoc, typed_assoc, default_assoc}
use Rattle.c_tape.specs.Tape.{assoc_count}
use Rattle.type_table.specs.Types.{CType}
use Rattle.name_rules.specs.Spellings.{Spelling, place}
use Rattle.name_rules.specs.Scopes.{Names}
use Rattle.name_rules.specs.Uses.{type_named_at}
use Rattle.c_tree.specs.Firsts.{first_word}
use Rattle.type_rules.specs.Shapes.{shape_of, is_zero, associations_of}
use Rattle.name_rules.specs.ShapeSteps.State.{Operand, expression, named_type, State}
use Rattle.name_rules.specs.ShapeSteps.Steps.{twice, associations}
use Rattle.resolve_laws.proofs.ShapeLaws.Lists.{drop_one_more}

module _ (u : Spelling) (s : Names) where
  -- an expression as an operand
  abbrev pub operand_of : Expr → Operand
  operand_of e = expression (shape_of u s e) (is_zero u s e)

  -- the type that is named at the words of a type's name
  abbrev pub type_at_words : SpecWords → Option CType
  type_at_words ws = type_named_at s.type_names (place u (first_word ws))

  -- the operands behind an association
  abbrev pub assoc_on : Assoc → List Operand → List Operand
  assoc_on (typed_assoc ws d colon e) operands = operand_of e ∷ named_type (type_at_words ws) ∷ operands
  assoc_on (default_assoc keyword colon e) operands = operand_of e ∷ named_type None ∷ operands

  -- the operands behind associations
  abbrev pub assocs_on : Assocs → List Operand → List Operand
  assocs_on no_assocs operands = operands
  assocs_on (more_assocs x xs) operands = assocs_on xs (assoc_on x operands)

  -- the state behind an association
  abbrev pub with_assoc : Assoc → State → State
  with_assoc x st = record st { operands = assoc_on x st.operands }

  -- the state behind associations
  abbrev pub with_assocs : Assocs → State → State
  with_assocs xs st = record st { operands = assocs_on xs st.operands }

  -- what lies under an association
  under_assoc : (x : Assoc) (n : ℕ) (all operands : List Operand) → drop (twice n) all ≡ assoc_on x operands →
      drop (twice (suc n)) all ≡ operands
  under_assoc (typed_assoc ws d colon e) n all operands h =
      let two_more : twice (suc n) ≡ suc (suc (twice n)) = omega arith in
      ap (λ (m : ℕ). drop m all) two_more
      ∙ drop_one_more (suc (twice n)) all _ operands (drop_one_more (twice n) all _ _ h)
  under_assoc (default_assoc keyword colon e) n all operands h =
      let two_more : twice (suc n) ≡ suc (suc (twice n)) = omega arith in
      ap (λ (m : ℕ). drop m all) two_more
      ∙ drop_one_more (suc (twice n)) all _ operands (drop_one_more (twice n) all _ _ h)

  -- the control lies under the associations
  pub under_assocs : (xs : Assocs) (operands : List Operand)
      → drop (twice (assoc_count xs)) (assocs_on xs operands) ≡ operands
  under_assocs no_assocs operands = refl
  under_assocs (more_assocs x xs) operands =
      under_assoc x (assoc_count xs) (assocs_on xs (assoc_on x operands)) operands
      (under_assocs xs (assoc_on x operands))

  -- an association more is what one more pair of operands says
  assoc_kept : (x : Assoc) (xs : Assocs) (n : ℕ) (operands : List Operand) (st : State) →
      drop (twice n) st.operands ≡ assoc_on x operands → associations n st ≡ associations_of u s xs →
      associations (suc n) st ≡ associations_of u s (more_assocs x xs)
  assoc_kept (typed_assoc ws d colon e) xs n operands st h others =
      let type : drop (suc (twice n)) st.operands ≡ named_type (type_at_words ws) ∷ operands =
      drop_one_more (twice n) st.operands _ _ h in
      rw (h, type, others) refl
  assoc_kept (default_assoc keyword colon e) xs n operands st h others =
      let type : drop (suc (twice n)) st.operands ≡ named_type None ∷ operands =
      drop_one_more (twice n) st.operands _ _ h in
      rw (h, type, others) refl

  -- what a selection is made from
  pub assocs_kept : (xs : Assocs) (st : State) →
      associations (assoc_count xs) (with_assocs xs st) ≡ associations_of u s xs
  assocs_kept no_assocs st = refl
  assocs_kept (more_assocs x xs) st =
      assoc_kept x xs (assoc_count xs) st.operands (with_assocs (more_assocs x xs) st)
      (under_assocs xs (assoc_on x st.operands))
      (assocs_kept xs (with_assoc x st))
