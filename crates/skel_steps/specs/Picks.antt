-- What is kept of the candidates of a pick.
use Rattle.std.specs.Prelude.{◌≡◌, Bool, true, false, List, [], ◌∷◌, ◌++◌}
use Rattle.qual_types.specs.declared.row.VarRow.{VarRow}
use Rattle.qual_types.specs.Skel.{Skel, no_skeleton}
use Rattle.row_rules.specs.Vals.{Val, Candidate, a_value, no_zeros, value}
use Rattle.row_world.specs.declared.operand.Operand.{Operand}
use Rattle.row_world.specs.Shown.{val_in}
use Rattle.skel_steps.specs.declared.picks.Count.{Count}
use Rattle.skel_steps.specs.declared.picks.Count.TheVariants as counts
use Rattle.skel_steps.specs.declared.picks.PickedVal.{PickedVal}

-- an expression that may be picked, with its skeleton in place of that one's number
abbrev pub candidate_in : List VarRow → Operand → Bool → Candidate
candidate_in rows it is_zero = record { val = val_in rows it; is_zero = is_zero }

-- the first candidate, a value without a skeleton where there is none
abbrev pub first_val : List Candidate → Val
first_val [] = a_value no_skeleton
first_val (it ∷ others) = it.val

-- whether there is no candidate, one or several
abbrev pub count_of : List Candidate → Count
count_of [] = counts.Nothing
count_of (it ∷ []) = counts.One
count_of (it ∷ other ∷ others) = counts.Several

-- the count with one candidate more
abbrev pub more_than : Count → Count
more_than counts.Nothing = counts.One
more_than counts.One = counts.Several
more_than counts.Several = counts.Several

-- the first of some candidates, and of one more
abbrev pub first_by : Count → Val → Val → Val
first_by counts.Nothing first it = it
first_by counts.One first it = first
first_by counts.Several first it = first

-- the counts, and the first one, of all and of those that are no zeros
pub record IsPickedVal (rows : List VarRow) (all : List Candidate) (it : PickedVal) : Type 0 where
  pub count : it.count ≡ count_of all
  pub others : it.others ≡ count_of (no_zeros all)
  pub first : val_in rows it.first ≡ first_val all
  pub first_other : val_in rows it.first_other ≡ first_val (no_zeros all)

-- whether several are left, by how many are no zeros and how many there are

-- whether there are several candidates
abbrev pub is_several : List Candidate → Bool
is_several [] = false
is_several (it ∷ []) = false
is_several (it ∷ other ∷ others) = true

-- whether a count says that there are several
abbrev pub are_several : Count → Bool
are_several counts.Nothing = false
are_several counts.One = false
are_several counts.Several = true

-- whether a pick has a fresh value, by how many candidates are no zeros and how many there are
abbrev pub fresh_by : Count → Count → Bool
fresh_by counts.Nothing count = are_several count
fresh_by counts.One count = false
fresh_by counts.Several count = true

-- the value of several candidates, and what is picked, by what is kept and by a fresh skeleton

-- the value of several candidates, by how many are no zeros, a fresh skeleton and the value of the first that is no
-- zero
abbrev pub value_by : Count → Skel → Skel → Skel
value_by counts.Nothing own first = own
value_by counts.One own first = first
value_by counts.Several own first = own

-- what is picked, by how many candidates there are and how many are no zeros, a fresh skeleton, and the first one of
-- each
abbrev pub pick_by : Count → Count → Skel → Val → Val → Val
pick_by counts.Nothing others own first first_other = a_value own
pick_by counts.One others own first first_other = first
pick_by counts.Several others own first first_other = a_value (value_by others own (value first_other))

-- the candidates so far, and behind them one more, where it is one
abbrev pub with_candidate : Bool → List Candidate → Candidate → List Candidate
with_candidate true all it = all ++ it ∷ []
with_candidate false all it = all
