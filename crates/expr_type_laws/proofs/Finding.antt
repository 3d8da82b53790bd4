-- In a program of units, what is found at the key token of an expression is its shape.
use Rattle.std.proofs.Common.{◌≡◌, ℕ, ◌≤◌, Bool, true, false, nat_eq, All, Contains, List, [], ◌∷◌, ◌++◌, map, Option, None, Some, inl, inr, refl, sym, ◌∙◌, ap, subst, arith}
use Rattle.std.specs.Prelude.{if◌then◌else◌}
use Rattle.std.proofs.lemmas.Bool.{and_left}
use Rattle.std.proofs.lemmas.List.Elements.{All-head, All-tail}
use Rattle.qual_base.proofs.Tests.{ne_turned}
use Rattle.tape_ops.specs.declared.op.Op.{Op}
use Rattle.c_tree.specs.Ends.{key_token}
use Rattle.c_tape.specs.Tape.{tape_of}
use Rattle.name_rules.specs.Spellings.{Spelling, Place, place}
use Rattle.name_rules.specs.Scopes.{Names, is_place}
use Rattle.name_rules.specs.Values.{Shape}
use Rattle.type_rules.specs.Program.{Source}
use Rattle.type_rules.specs.Shapes.{shape_of}
use Rattle.resolve_laws.specs.NameLaws.NameLaws.{tape_of_source}
use Rattle.name_rules.specs.ShapeSteps.State.{State, nothing}
use Rattle.name_rules.specs.ShapeSteps.Steps.{step}
use Rattle.row_laws.specs.KeyLaws.Tokens.{TokensAreOnce}
use Rattle.row_laws.specs.KeyLaws.Differing.{IsRead, UnitsDiffer, has_unit}
use Rattle.expr_types.specs.Keys.{op_key}
use Rattle.expr_types.specs.Along.{Keyed, op_shape, keyed, shapes_along, shapes_among, first_at}
use Rattle.expr_type_laws.specs.Standing.{expression_at, ExpressionsStand}
use Rattle.expr_type_laws.specs.Finding.{ShapesAreFound}
use Rattle.expr_type_laws.proofs.Once.{cons_cases, none_in, counted_keys, are_tokens, found_once}

both_false : (b c : Bool) → (if b then true else c) ≡ false → (b ≡ false) × (c ≡ false)
both_false true c h = absurd cc
both_false false c h = (refl, h)

-- the first of two lists

-- what is found first at a place in a list is so with others behind it
ahead : (xs ys : List Keyed) (at : Place) (shape : Shape) → first_at xs at ≡ Some shape
    → first_at (xs ++ ys) at ≡ Some shape
ahead [] ys at shape h = absurd cc
ahead (x ∷ xs) ys at shape h = by_test (is_place x.at at) h (λ g. ahead xs ys at shape g)
  where
    by_test : (b : Bool) → (if b then Some x.shape else first_at xs at) ≡ Some shape
        → (first_at xs at ≡ Some shape → first_at (xs ++ ys) at ≡ Some shape)
        → (if b then Some x.shape else first_at (xs ++ ys) at) ≡ Some shape
    by_test true g others = g
    by_test false g others = others g

-- nothing of one unit stands in another

-- at a place of another unit a tape gives nothing: what is found is what is found behind it
elsewhere : (u : Spelling) (s : Names) (tape : List Op) (st : State) (ys : List Keyed) (at : Place)
    → nat_eq u.unit at.0 ≡ false
    → first_at (shapes_along u s st tape ++ ys) at ≡ first_at ys at
elsewhere u s [] st ys at other = refl
elsewhere u s (op ∷ tape) st ys at other =
    by_key (op_key op) (elsewhere u s tape (step u s st op) ys at other)
  where
    by_key : (key : Option ℕ)
        → first_at (shapes_along u s (step u s st op) tape ++ ys) at ≡ first_at ys at
        → first_at ((keyed u key (op_shape st (step u s st op) op) ++ shapes_along u s (step u s st op) tape) ++ ys) at
        ≡ first_at ys at
    by_key None rest = rest
    by_key (Some token) rest =
        ap (λ (b : Bool). if b then Some (op_shape st (step u s st op) op)
        else first_at (shapes_along u s (step u s st op) tape ++ ys) at)
        (and_left (nat_eq u.unit at.0) (nat_eq token at.1) other) ∙ rest

-- no source is of a unit number that none of the sources has
other_unit : (n : ℕ) (sources : List Source) (it : Source) → Contains sources it → has_unit n sources ≡ false
    → nat_eq it.spelling.unit n ≡ false
other_unit n [] it h none = absurd (none_in it h)
other_unit n (x ∷ sources) it h none =
    let parts = both_false (nat_eq x.spelling.unit n) (has_unit n sources) none in
    elim (cons_cases x sources it h) [
      | inl e ↦ subst (λ (y : Source). nat_eq y.spelling.unit n ≡ false) e parts.0
      | inr g ↦ other_unit n sources it g parts.1
    ]

-- what is found first in the list of one of the units is found first in that of all

-- what is found at a token of one source along its tape is found there among all sources of different units
among : (s : Names) (sources : List Source) → UnitsDiffer sources → (it : Source) → Contains sources it
    → (token : ℕ) (shape : Shape)
    → first_at (shapes_along it.spelling s nothing (tape_of it.items)) (place it.spelling token) ≡ Some shape
    → first_at (shapes_among s (map tape_of_source sources)) (place it.spelling token) ≡ Some shape
among s [] units it h token shape found = absurd (none_in it h)
among s (x ∷ sources) units it h token shape found = elim (cons_cases x sources it h) [
  | inl e ↦ ahead (shapes_along x.spelling s nothing (tape_of x.items)) (shapes_among s (map tape_of_source sources))
      (place it.spelling token) shape
      (subst (λ (y : Source). first_at (shapes_along y.spelling s nothing (tape_of y.items))
      (place it.spelling token) ≡ Some shape)
      (sym e) found)
  | inr g ↦ elsewhere x.spelling s (tape_of x.items) nothing (shapes_among s (map tape_of_source sources))
      (place it.spelling token)
      (ne_turned it.spelling.unit x.spelling.unit (other_unit x.spelling.unit sources it g units.0))
      ∙ among s sources units.1 it g token shape found
]

-- each of sources that are all read is read
is_read : (sources : List Source) → All IsRead sources → (it : Source) → Contains sources it → IsRead it
is_read [] reads it h = absurd (none_in it h)
is_read (x ∷ sources) reads it h = elim (cons_cases x sources it h) [
  | inl e ↦ subst IsRead e (All-head IsRead x sources reads)
  | inr g ↦ is_read sources (All-tail IsRead x sources reads) it g
]

-- at the key token of an expression the shape that is found among all units is that of the expression
pub shapes_are_found : ExpressionsStand → TokensAreOnce → ShapesAreFound
shapes_are_found stand once sources reads units s it h before called e behind is =
    let u = it.spelling in
    let tape = tape_of it.items in
    let there : Contains (shapes_along u s nothing tape) (expression_at u s e) =
    subst (λ (ops : List Op). Contains (shapes_along u s nothing ops) (expression_at u s e)) (sym is)
    (stand u s nothing before called e behind) in
    let one : counted_keys (key_token e) tape ≤ 1 =
    (let a = are_tokens (key_token e) tape in let b = once it (is_read sources reads it h) (key_token e) in
    omega (arith, a, b)) in
    among s sources units it h (key_token e) (shape_of u s e)
    (found_once u s tape nothing (key_token e) (shape_of u s e) one there)
