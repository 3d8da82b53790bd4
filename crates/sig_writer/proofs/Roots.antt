-- The skeleton at the number of a function's root.
use Rattle.std.proofs.Common.{◌≡◌, ℕ, ◌≤◌, List, length, Option, None, Some, refl, ◌∙◌, ap, subst}
use Rattle.qual_types.specs.declared.row.VarRow.{VarRow}
use Rattle.qual_types.specs.Skel.{no_skeleton}
use Rattle.qual_types.specs.Rows.{skel_of}
use Rattle.name_rules.specs.Spellings.{Place}
use Rattle.name_tables.specs.PlaceMap.Values.{number_at}
use Rattle.unit_starts.specs.declared.unit_skeletons.skeletons.Skeletons.{Skeletons}
use Rattle.unit_starts.specs.UnitSkeletons.Found.{skel_or}
use Rattle.unit_starts.proofs.UnitSkeletons.Placing.{found_all}
use Rattle.sig_writer.specs.Nodes.{root_in, skel_by}

-- the skeleton at the root number of a place is the one that begins at this place, in a table that is not full
root_is : (it : Skeletons) (p : Place) → length it.vars ≤ 16777216 →
    skel_of it.vars (root_in it p) ≡ skel_by it (number_at it.starts p)
root_is it p few = found_all it.vars it.starts p few ∙ by_number (number_at it.starts p)
  where
    by_number : (o : Option ℕ) → skel_or it.vars o no_skeleton ≡ skel_by it o
    by_number None = refl
    by_number (Some n) = refl

-- by the rows and the number as the code has them
pub rooted : (it : Skeletons) (p : Place) (rows : List VarRow) (root : ℕ) → rows ≡ it.vars → length rows ≤ 16777216 →
    root ≡ root_in it p →
    skel_of rows root ≡ skel_by it (number_at it.starts p)
rooted it p rows root same few is =
    ap (skel_of rows) is ∙ ap (λ (all : List VarRow). skel_of all (root_in it p)) same
    ∙ root_is it p (subst (λ (all : List VarRow). length all ≤ 16777216) same few)
