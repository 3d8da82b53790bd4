-- Variables that are listed, skeleton by skeleton.
use Rattle.std.proofs.Common.{◌≡◌, ℕ, zero, suc, ◌+◌, ◌-◌, ◌<◌, arith, Bool, true, false, List, [], ◌∷◌, ◌++◌, length, length-append, map, drop, slice_index_or, refl, sym, ◌∙◌, ap, append_assoc, append-nil, if◌then◌else◌}
use Rattle.type_table.specs.Types.{size}
use Rattle.type_table.specs.declared.row.TypeRow.{TypeRow}
use Rattle.name_rules.specs.Spellings.{Place}
use Rattle.row_rules.specs.Starting as rules
use Rattle.row_rules.specs.Sites.{variables_among}
use Rattle.qual_types.specs.declared.position.Step.{Step}
use Rattle.qual_types.specs.Positions.{PositionView}
use Rattle.unit_starts.specs.PositionLaws.Positions.{positions_at, positions_of, paths, PositionsAreCounted}
use Rattle.unit_starts.specs.declared.start.Start.{Start}
use Rattle.unit_starts.specs.Views.{start_in}
use Rattle.constraint_gen.specs.Listing.{numbers, listed_at, listed_from}

-- a number n below e, then the numbers from n + 1 up to e, are the numbers from n up to e
next_number : (n e : ℕ) → n < e → n ∷ numbers (e - (n + 1)) (n + 1) ≡ numbers (e - n) n
next_number n e lt =
    let a : n + 1 ≡ suc n = omega arith in
    let b : e - n ≡ suc (e - (n + 1)) = omega arith in
    ap (λ (k : ℕ). n ∷ numbers (e - (n + 1)) k) a ∙ sym (ap (λ (c : ℕ). numbers c n) b)

-- one number more
pub numbers_next : (xs : List ℕ) (n e : ℕ) → n < e
    → (xs ++ n ∷ []) ++ numbers (e - (n + 1)) (n + 1) ≡ xs ++ numbers (e - n) n
numbers_next xs n e lt =
    append_assoc xs (n ∷ []) (numbers (e - (n + 1)) (n + 1)) ∙ ap (λ (ys : List ℕ). xs ++ ys) (next_number n e lt)

-- and none
pub numbers_end : (xs : List ℕ) (n e : ℕ) → n ≡ e → xs ++ numbers (e - n) n ≡ xs
numbers_end xs n e is =
    let z : e - n ≡ 0 = omega arith in
    ap (λ (c : ℕ). xs ++ numbers c n) z ∙ append-nil xs

module _ (types : List TypeRow) where
  pub start_next : (xs : List Start) (i : ℕ) (x : Start) → i < length xs → x ≡ slice_index_or xs i x
      → map (start_in types) (drop i xs) ≡ start_in types x ∷ map (start_in types) (drop (i + 1) xs)
  start_next [] i x lt is = absurd (omega arith)
  start_next (y ∷ xs) zero x lt is = ap (λ (z : Start). start_in types z ∷ map (start_in types) xs) (sym is)
  start_next (y ∷ xs) (suc i) x lt is =
      let e : suc i + 1 ≡ suc (i + 1) = omega arith in rw e (start_next xs i x (omega arith) is)

  pub count_next : (xs : List Start) (i : ℕ) (x : Start) → i < length xs → x ≡ slice_index_or xs i x
      → variables_among (map (start_in types) (drop i xs))
      ≡ size (start_in types x).type + variables_among (map (start_in types) (drop (i + 1) xs))
  count_next xs i x lt is = ap variables_among (start_next xs i x lt is)

  -- one skeleton more
  pub listed_next : (is : Place → Bool) (found : List ℕ) (from next : ℕ) (xs : List Start) (i : ℕ) (x : Start)
      → i < length xs → x ≡ slice_index_or xs i x → next ≡ from + size (start_in types x).type
      → (found ++ (if is x.at then numbers (size (start_in types x).type) from else []))
      ++ listed_from is next (map (start_in types) (drop (i + 1) xs))
      ≡ found ++ listed_from is from (map (start_in types) (drop i xs))
  listed_next is found from next xs i x lt there behind =
      append_assoc found (if is x.at then numbers (size (start_in types x).type) from else [])
      (listed_from is next (map (start_in types) (drop (i + 1) xs)))
      ∙ ap (λ (k : ℕ). found ++ ((if is x.at then numbers (size (start_in types x).type) from else [])
      ++ listed_from is k (map (start_in types) (drop (i + 1) xs)))) behind
      ∙ ap (λ (ss : List rules.Start). found ++ listed_from is from ss) (sym (start_next xs i x lt there))

module _ (is : Place → Bool) where
  -- where a skeleton stands
  listed_part : (b : Bool) (at : Place) → is at ≡ b → (ps : List (List Step)) (v : ℕ) (rest : List PositionView)
      → listed_at is v (positions_at at ps ++ rest) ≡ (if b then numbers (length ps) v else [])
      ++ listed_at is (v + length ps) rest
  listed_part true at there [] v rest = let e : v + 0 ≡ v = omega arith in ap (λ (k : ℕ). listed_at is k rest) (sym e)
  listed_part false at there [] v rest = let e : v + 0 ≡ v = omega arith in ap (λ (k : ℕ). listed_at is k rest) (sym e)
  listed_part true at there (p ∷ ps) v rest =
      let e : suc v + length ps ≡ v + suc (length ps) = omega arith in
      ap (λ (b : Bool). if b then v ∷ listed_at is (suc v) (positions_at at ps ++ rest)
      else listed_at is (suc v) (positions_at at ps ++ rest)) there
      ∙ ap (λ (ns : List ℕ). v ∷ ns) (listed_part true at there ps (suc v) rest)
      ∙ ap (λ (k : ℕ). v ∷ (numbers (length ps) (suc v) ++ listed_at is k rest)) e
  listed_part false at there (p ∷ ps) v rest =
      let e : suc v + length ps ≡ v + suc (length ps) = omega arith in
      ap (λ (b : Bool). if b then v ∷ listed_at is (suc v) (positions_at at ps ++ rest)
      else listed_at is (suc v) (positions_at at ps ++ rest)) there
      ∙ listed_part false at there ps (suc v) rest
      ∙ ap (λ (k : ℕ). listed_at is k rest) e

  positions_counted : (at : Place) (ps : List (List Step)) → length (positions_at at ps) ≡ length ps
  positions_counted at [] = refl
  positions_counted at (p ∷ ps) = ap suc (positions_counted at ps)

  path_count : PositionsAreCounted → (start : rules.Start) → length (paths start.type) ≡ size start.type
  path_count law start =
      let whole : length (positions_at start.at (paths start.type) ++ []) ≡ size start.type + 0 = law (start ∷ []) in
      let sum = length-append (positions_at start.at (paths start.type)) [] in
      let part = positions_counted start.at (paths start.type) in
      omega arith

  -- by skeletons and by positions it is the same
  pub listed_is : PositionsAreCounted → (n : ℕ) (starts : List rules.Start)
      → listed_from is n starts ≡ listed_at is n (positions_of starts)
  listed_is law n [] = refl
  listed_is law n (start ∷ starts) =
      ap (λ (ns : List ℕ). (if is start.at then numbers (size start.type) n else []) ++ ns)
      (listed_is law (n + size start.type) starts)
      ∙ ap (λ (k : ℕ). (if is start.at then numbers k n else []) ++ listed_at is (n + k) (positions_of starts))
      (sym (path_count law start))
      ∙ sym (listed_part (is start.at) start.at refl (paths start.type) n (positions_of starts))
