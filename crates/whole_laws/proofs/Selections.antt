-- Selections by a type stand along tapes at the places of their ops.
use Rattle.std.proofs.Common.{◌≡◌, List, [], ◌∷◌, ◌++◌, refl, sym, ap, subst}
use Rattle.tape_ops.specs.declared.op.Op.{Op}
use Rattle.tape_ops.specs.declared.op.Op.TheVariants as ops
use Rattle.tape_ops.specs.declared.form.FormOp.{FormOp}
use Rattle.tape_ops.specs.declared.form.FormOp.TheVariants as forms
use Rattle.c_tape.specs.Tape.{tape_of}
use Rattle.name_rules.specs.Spellings.{Spelling, Place, place}
use Rattle.name_rules.specs.Scopes.{Names}
use Rattle.type_rules.specs.Program.{Source, names_of}
use Rattle.name_rules.specs.ShapeSteps.State.{State, nothing}
use Rattle.name_rules.specs.ShapeSteps.Steps.{step}
use Rattle.row_rules.specs.Starting.{Selection}
use Rattle.row_rules.specs.Sites.{AreDifferent}
use Rattle.row_rules.specs.RowSteps.Starting.{form_op_selections, op_selections, selections_found}
use Rattle.constraint_rules.specs.Systems.{selections_among}
use Rattle.row_laws.specs.StartLaws.Laws.{SelectionsOfProgramAreFound, selections_on}
use Rattle.row_laws.specs.KeyLaws.Keys.{op_key, key_place, key_places}
use Rattle.expr_types.specs.Keys.{form_key}
use Rattle.row_laws.specs.KeyLaws.Differing.{keys_among}
use Rattle.missing_laws.specs.Programs.{selection_places}
use Rattle.whole_laws.proofs.Parts.{IsPart, none, part_differs, no_part, joined_part, same_part}

selections_joined : (xs ys : List Selection) → selection_places (xs ++ ys) ≡ selection_places xs ++ selection_places ys
selections_joined [] ys = refl
selections_joined (x ∷ xs) ys = ap (λ (ps : List Place). x.at ∷ ps) (selections_joined xs ys)

module _ (u : Spelling) (st : State) where
  form_part : (op : FormOp) → IsPart (selection_places (form_op_selections u st op)) (key_place u (form_key op))
  form_part (forms.Cast token last) = no_part (place u token ∷ [])
  form_part (forms.Sizeof token) = no_part (place u token ∷ [])
  form_part (forms.StmtExpr has_value token) = no_part (place u token ∷ [])
  form_part (forms.VaArg token last) = no_part (place u token ∷ [])
  form_part (forms.VaStart token last) = no_part (place u token ∷ [])
  form_part (forms.VaCopy token last) = no_part (place u token ∷ [])
  form_part (forms.OffsetMember token name) = none
  form_part (forms.OffsetIndex token) = none
  form_part (forms.Offset token) = no_part (place u token ∷ [])
  form_part (forms.Compat token) = no_part (place u token ∷ [])
  form_part forms.Control = none
  form_part forms.NoType = none
  form_part (forms.Choose token) = no_part (place u token ∷ [])
  form_part (forms.Generic token count) = same_part (place u token)

  op_part : (op : Op) → IsPart (selection_places (op_selections u st op)) (key_place u (op_key op))
  op_part (ops.Expr op) = no_part (key_place u (op_key (ops.Expr op)))
  op_part (ops.Form op) = form_part op
  op_part (ops.Init op) = no_part (key_place u (op_key (ops.Init op)))
  op_part (ops.Spec op) = no_part (key_place u (op_key (ops.Spec op)))
  op_part (ops.Declr op) = no_part (key_place u (op_key (ops.Declr op)))
  op_part (ops.Stmt op) = none

-- the selections along a tape are at places of its ops, in their order
tape_part : (u : Spelling) (s : Names) (tape : List Op) (st : State) →
    IsPart (selection_places (selections_found u s st tape)) (key_places u tape)
tape_part u s [] st = none
tape_part u s (op ∷ tape) st =
    subst (λ (ps : List Place). IsPart ps (key_place u (op_key op) ++ key_places u tape))
    (sym (selections_joined (op_selections u st op) (selections_found u s (step u s st op) tape)))
    (joined_part (op_part u st op) (tape_part u s tape (step u s st op)))

-- the selections of the sources are at places of their ops, in their order
sources_part : (s : Names) (sources : List Source)
    → IsPart (selection_places (selections_on s sources)) (keys_among sources)
sources_part s [] = none
sources_part s (it ∷ sources) =
    subst (λ (ps : List Place). IsPart ps (key_places it.spelling (tape_of it.items) ++ keys_among sources))
    (sym (selections_joined (selections_found it.spelling s nothing (tape_of it.items)) (selections_on s sources)))
    (joined_part (tape_part it.spelling s (tape_of it.items) nothing) (sources_part s sources))

-- the selections of a program are at different places, where its ops are
pub selections_differ : SelectionsOfProgramAreFound → (sources : List Source) → AreDifferent (keys_among sources) →
    AreDifferent (selection_places (selections_among (names_of sources) sources))
selections_differ found sources differ =
    subst (λ (its : List Selection). AreDifferent (selection_places its)) (found sources)
    (part_differs (sources_part (names_of sources) sources) differ)
