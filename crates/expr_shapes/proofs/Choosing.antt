-- The candidates of a selection, one association after the other.
use Rattle.std.proofs.Common.{arith, ◌≡◌, ◌∙◌, sym, ap, refl, ℕ, zero, suc, ◌-◌, ◌<◌, Bool, true, false, ◌||◌, if◌then◌else◌, List, [], ◌∷◌, ◌++◌, Option, Some, append-nil, append_assoc}
use Rattle.type_table.specs.Types.{CType}
use Rattle.name_rules.specs.Values.{Shape, a_place, value, index_type, is_vector_index, index_shape, Candidate, Association, is_candidate, is_of_type, has_of_type, candidates_of, all_candidates, or_all, selected}
use Rattle.name_rules.specs.ShapeSteps.State.{State, shape_at, is_zero_at, type_at}
use Rattle.name_rules.specs.ShapeSteps.Steps.{twice, candidate_at, associations}
use Rattle.type_table.specs.declared.row.TypeRow.{TypeRow}
use Rattle.expr_shapes.specs.declared.shape_values.shape.ExprShape.{ExprShape}
use Rattle.expr_shapes.specs.ShapeValues.Views.{shape_in}
use Rattle.expr_shapes.specs.ShapeValues.Picks.{candidate_in}
use Rattle.expr_shapes.specs.Selecting.{with_candidate, picked_on}

-- of so many associations, the first one
pub has_next : (t : Option CType) (n : ℕ) (st : State) → 0 < n →
    has_of_type t (associations n st) ≡
    (is_of_type t (type_at (suc (twice (n - 1))) st) || has_of_type t (associations (n - 1) st))
has_next t zero st lt = absurd (omega arith)
has_next t (suc n) st lt = let e : suc n - 1 ≡ n = omega arith in rw e refl

with_is : (b : Bool) (all : List Candidate) (it : Candidate) →
    with_candidate b all it ≡ all ++ (if b then it ∷ [] else [])
with_is true all it = refl
with_is false all it = sym (append-nil all)

-- without a type to go by the candidates are those before and all expressions of the associations
all_on : (t : Option CType) (front : List Candidate) (all : List Association) →
    picked_on false t front all ≡ front ++ all_candidates all
all_on t front [] = sym (append-nil front)
all_on t front (it ∷ others) =
    all_on t (front ++ it.candidate ∷ []) others ∙ append_assoc front (it.candidate ∷ []) (all_candidates others)

-- with a type to go by the candidates are those before and the expressions of the associations for it
some_on : (t : CType) (front : List Candidate) (all : List Association) →
    picked_on true (Some t) front all ≡ front ++ candidates_of t all
some_on t front [] = sym (append-nil front)
some_on t front (it ∷ others) =
    some_on t (with_candidate (is_candidate t it.type) front it.candidate) others ∙
    ap (λ (xs : List Candidate). xs ++ candidates_of t others) (with_is (is_candidate t it.type) front it.candidate) ∙
    append_assoc front (if is_candidate t it.type then it.candidate ∷ [] else []) (candidates_of t others)

-- where some association is for the type, its candidates stand, and no others
or_some : (t : CType) (all : List Association) (others : List Candidate) → has_of_type (Some t) all ≡ true →
    or_all (candidates_of t all) others ≡ candidates_of t all
or_some t [] others has = absurd cc
or_some t (it ∷ all) others has = by (is_candidate t it.type) (or_some t all others) has where
  by : (b : Bool) → (has_of_type (Some t) all ≡ true → or_all (candidates_of t all) others ≡ candidates_of t all) →
      (b || has_of_type (Some t) all) ≡ true →
      or_all ((if b then it.candidate ∷ [] else []) ++ candidates_of t all) others ≡
      (if b then it.candidate ∷ [] else []) ++ candidates_of t all
  by true h has = refl
  by false h has = h has

-- where no association is for the type, the other candidates stand for its own
or_others : (t : CType) (all : List Association) (others : List Candidate) → has_of_type (Some t) all ≡ false →
    or_all (candidates_of t all) others ≡ others
or_others t [] others has = refl
or_others t (it ∷ all) others has = by (is_candidate t it.type) (or_others t all others) has where
  by : (b : Bool) → (has_of_type (Some t) all ≡ false → or_all (candidates_of t all) others ≡ others) →
      (b || has_of_type (Some t) all) ≡ false →
      or_all ((if b then it.candidate ∷ [] else []) ++ candidates_of t all) others ≡ others
  by true h has = absurd cc
  by false h has = h has

selected_by : (h : Bool) (t : CType) (all : List Association) → h ≡ has_of_type (Some t) all →
    picked_on h (Some t) [] all ≡ selected t all
selected_by true t all is = some_on t [] all ∙ sym (or_some t all (all_candidates all) (sym is))
selected_by false t all is = all_on (Some t) [] all ∙ sym (or_others t all (all_candidates all) (sym is))

-- all of them, by whether one is of the control's type
pub selected_is : (h : Bool) (o : Option CType) (t : CType) (all : List Association) → o ≡ Some t
    → h ≡ has_of_type o all →
    picked_on h o [] all ≡ selected t all
selected_is h o t all o_is is =
    ap (λ (o : Option CType). picked_on h o [] all) o_is ∙
    selected_by h t all (is ∙ ap (λ (o : Option CType). has_of_type o all) o_is)

abbrev made : Shape → Bool → Candidate
made shape is_zero = record { shape = shape; is_zero = is_zero }

-- the candidate made of an operand's shape, and of whether it is a zero, is that of the same depth on the stack
pub candidate_same : (rows : List TypeRow) (shape : ExprShape) (is_zero : Bool) (n m : ℕ) (st : State) →
    shape_in rows shape ≡ shape_at n st → is_zero ≡ is_zero_at n st → n ≡ m
    → candidate_in rows shape is_zero ≡ candidate_at m st
candidate_same rows shape is_zero n m st shape_is zero_is at =
    ap (λ (s : Shape). made s is_zero) shape_is ∙ ap (λ (b : Bool). made (shape_at n st) b) zero_is ∙
    ap (λ (k : ℕ). candidate_at k st) at

-- an index into a number in wider C has the shape of the number
pub vector_shape : (wide same : Bool) (e e2 : Shape) → wide ≡ same → is_vector_index wide e e2 ≡ true
    → index_shape same e e2 ≡ e
vector_shape wide same e e2 is vector =
    ap (λ (w : Bool). if is_vector_index w e e2 then e else a_place (index_type (value e) (value e2))) (sym is) ∙
    ap (λ (b : Bool). if b then e else a_place (index_type (value e) (value e2))) vector
