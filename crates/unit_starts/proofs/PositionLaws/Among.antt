-- The position of a variable among those of all skeletons.
use Rattle.std.proofs.Common.{◌≡◌, ℕ, zero, suc, ◌+◌, List, [], ◌∷◌, ◌++◌, length, slice_get, Some, refl, sym, ◌∙◌, ap, arith, length-append, subst}
use Rattle.qual_base.proofs.Lists.{get_left}
use Rattle.type_table.specs.Types.{size}
use Rattle.qual_types.specs.declared.position.Step.{Step}
use Rattle.qual_types.specs.Positions.{PositionView}
use Rattle.qual_types.specs.Skel.{Skel, follow, numbered}
use Rattle.name_rules.specs.Spellings.{Place}
use Rattle.row_rules.specs.Starting.{Start}
use Rattle.row_rules.specs.Sites.{variables_among}
use Rattle.row_rules.specs.Worlds.{Numbered, numbered_from}
use Rattle.unit_starts.specs.PositionLaws.Positions.{paths, positions_at, positions_of, IsOneOf, PositionsStand, PositionsAreCounted}
use Rattle.unit_starts.proofs.PositionLaws.Paths.{get_right, counted, IsAt, found}

abbrev position : Place → List Step → PositionView
position at p = record { unit = at.0; token = at.1; path = p }

-- the n-th of the positions at a place has the n-th of their paths
get_position : (at : Place) (ps : List (List Step)) (n : ℕ) (p : List Step) → slice_get ps n ≡ Some p
    → slice_get (positions_at at ps) n ≡ Some (position at p)
get_position at [] n p e = absurd cc
get_position at (q ∷ ps) zero p e = let same : q ≡ p = cc in ap (λ r. Some (position at r)) same
get_position at (q ∷ ps) (suc n) p e = get_position at ps n p e

positions_length : (at : Place) (ps : List (List Step)) → length (positions_at at ps) ≡ length ps
positions_length at [] = refl
positions_length at (p ∷ ps) = ap suc (positions_length at ps)

-- there is a position for each variable of the skeletons
pub all_counted : PositionsAreCounted
all_counted [] = refl
all_counted (start ∷ starts) =
    let a : length (positions_at start.at (paths start.type) ++ positions_of starts)
    ≡ length (positions_at start.at (paths start.type)) + length (positions_of starts)
    = length-append (positions_at start.at (paths start.type)) (positions_of starts) in
    let b : length (positions_at start.at (paths start.type)) ≡ length (paths start.type) =
    positions_length start.at (paths start.type) in
    let c : length (paths start.type) ≡ size start.type = counted start.type in
    let d : length (positions_of starts) ≡ variables_among starts = all_counted starts in
    omega arith

-- of skeletons that are numbered from m on
record IsAmong (starts : List Start) (m v : ℕ) (at : PositionView) : Type 0 where
  index : ℕ
  is : v ≡ m + index
  there : slice_get (positions_of starts) index ≡ Some at

-- a path to a variable of a numbered skeleton gives the position of this variable among those of all
among : (starts : List Start) (m k : ℕ) (it : Numbered) → slice_get (numbered_from m starts) k ≡ Some it
    → (v : ℕ) (p : List Step) → IsAt (paths it.start.type) it.first v p → IsAmong starts m v (position it.start.at p)
among [] m k it e v p at = absurd cc
among (start ∷ starts) m zero it e v p at =
    let same : record { start = start; first = m } ≡ it = cc in
    let At : Numbered → Type 0 = λ one. IsAt (paths one.start.type) one.first v p
    → IsAmong (start ∷ starts) m v (position one.start.at p) in
    subst At same (λ here. record {
      index = here.offset;
      is = here.is;
      there =
          get_left (positions_at start.at (paths start.type)) (positions_of starts) here.offset (position start.at p)
          (get_position start.at (paths start.type) here.offset p here.there);
    }) at
among (start ∷ starts) m (suc k) it e v p at =
    let later : IsAmong starts (m + size start.type) v (position it.start.at p) =
    among starts (m + size start.type) k it e v p at in
    record {
      index = length (positions_at start.at (paths start.type)) + later.index;
      is = let a : v ≡ m + size start.type + later.index = later.is in
          let b : length (positions_at start.at (paths start.type)) ≡ length (paths start.type) =
          positions_length start.at (paths start.type) in
          let c : length (paths start.type) ≡ size start.type = counted start.type in
          omega arith;
      there = get_right (positions_at start.at (paths start.type)) (positions_of starts) later.index ∙ later.there;
    }

-- where a position of the table leads to a variable, it is in the list of positions under its number
pub stand : PositionsStand
stand rows starts those p v it =
    let one : IsOneOf rows (numbered_from 0 starts) it.top (p.unit, p.token) = those it.top (p.unit, p.token) it.mark in
    let Leads : Skel → Type 0 = λ s. follow p.path s ≡ Some v in
    let leads : follow p.path (numbered one.one.start.type it.top) ≡ Some v = subst Leads one.skeleton it.path in
    let From : ℕ → Type 0 = λ n. follow p.path (numbered one.one.start.type n) ≡ Some v in
    let at : IsAt (paths one.one.start.type) one.one.first v p.path =
    found one.one.start.type one.one.first p.path v (subst From (sym one.first) leads) in
    let among_all : IsAmong starts 0 v (position one.one.start.at p.path) =
    among starts 0 one.index one.one one.there v p.path at in
    let Here : ℕ → Type 0 = λ n. slice_get (positions_of starts) n ≡ Some (position one.one.start.at p.path) in
    let here : slice_get (positions_of starts) v ≡ Some (position one.one.start.at p.path) =
    let e : v ≡ 0 + among_all.index = among_all.is in
    let same : among_all.index ≡ v = omega arith in
    subst Here same among_all.there in
    here ∙ ap (λ (mark : Place). Some (position mark p.path)) one.at
