-- What is kept of the candidates of a pick.
use Rattle.std.specs.Prelude.{◌≡◌, ℕ, ◌<◌, Bool, true, false, not, List, [], ◌∷◌, None}
use Rattle.type_table.specs.declared.row.TypeRow.{TypeRow}
use Rattle.name_rules.specs.Values.{a_value, Shape, Candidate, no_zeros, have_types, first_ranked, may_be_one}
use Rattle.expr_shapes.specs.declared.shape_values.shape.ExprShape.{ExprShape}
use Rattle.expr_shapes.specs.declared.shape_values.picks.Picked.{Picked}
use Rattle.expr_shapes.specs.declared.shape_values.picks.Count.{Count}
use Rattle.expr_shapes.specs.declared.shape_values.picks.Count.TheVariants as counts
use Rattle.expr_shapes.specs.declared.shape_values.picks.Parts.{Parts}
use Rattle.expr_shapes.specs.declared.shape_values.picks.Parts.TheVariants as parts
use Rattle.type_table.specs.Rows.{type_of}
use Rattle.expr_shapes.specs.ShapeValues.Views.{shape_in, some_value_type}

-- an expression that may be picked, with its type in place of the type's number
abbrev pub candidate_in : List TypeRow → ExprShape → Bool → Candidate
candidate_in rows shape is_zero = record { shape = shape_in rows shape; is_zero = is_zero }

-- the first candidate, a value of no known type where there is none
abbrev pub first_shape : List Candidate → Shape
first_shape [] = a_value None
first_shape (it ∷ others) = it.shape

-- whether there is no candidate, one or several
abbrev pub count_of : List Candidate → Count
count_of [] = counts.Nothing
count_of (it ∷ []) = counts.One
count_of (it ∷ other ∷ others) = counts.Several

-- the count with one candidate more
abbrev pub more_than : Count → Count
more_than counts.Nothing = counts.One
more_than counts.One = counts.Several
more_than counts.Several = counts.Several

-- the first of some candidates, and of one more
abbrev pub first_by : Count → Shape → Shape → Shape
first_by counts.Nothing first it = it
first_by counts.One first it = first
first_by counts.Several first it = first

-- the counts, the first one, whether a type is not known, and the first of the highest rank, of all and of those that
-- are no zeros
pub record IsPicked (rows : List TypeRow) (all : List Candidate) (it : Picked) : Type 0 where
  pub count : it.count ≡ count_of all
  pub others : it.others ≡ count_of (no_zeros all)
  pub first : shape_in rows it.first ≡ first_shape all
  pub unknown : it.is_unknown ≡ not (have_types all)
  pub highest : some_value_type rows it.highest ≡ first_ranked all
  pub highest_other : some_value_type rows it.highest_other ≡ first_ranked (no_zeros all)

-- what the outermost constructors of two types say of whether they may be one
abbrev pub may_be : List TypeRow → Parts → Bool
may_be rows parts.Same = true
may_be rows parts.Apart = false
may_be rows (parts.Of one other) = may_be_one (type_of rows one) (type_of rows other)

-- types inside have lower numbers
abbrev pub IsLower : ℕ → Parts → Type 0
IsLower n parts.Same = Unit {0}
IsLower n parts.Apart = Unit {0}
IsLower n (parts.Of one other) = one < n
