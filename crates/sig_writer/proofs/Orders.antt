-- The variables of the skeleton of a type are numbered in pre-order.
use Rattle.std.proofs.Common.{◌≡◌, ℕ, zero, suc, ◌+◌, List, [], ◌∷◌, ◌++◌, length, Option, None, Some, refl, sym, ◌∙◌, ap, arith, Bool, true, false, subst}
use Rattle.std.specs.Prelude.{if◌then◌else◌}
use Rattle.type_table.specs.Types.{Words, CType, base, void, struct, pointer, function, CTypes, no_types, more_types, size, sizes, one_for}
use Rattle.qual_types.specs.Skel.{Skel, nodes, all_nodes, of_some, root, numbered, all_numbered, numbered_ellipsis}
use Rattle.name_rules.specs.Spellings.{Place}
use Rattle.name_rules.specs.Scopes.{is_place}
use Rattle.row_rules.specs.Worlds.{Numbered, skeleton_among}
use Rattle.name_tables.specs.PlaceMap.Values.{number_at}
use Rattle.qual_types.specs.Rows.{skel_of}
use Rattle.unit_starts.specs.declared.unit_skeletons.skeletons.Skeletons.{Skeletons}
use Rattle.unit_starts.specs.UnitSkeletons.Found.{number_or_none}
use Rattle.sig_writer.specs.Nodes.{numbers, skel_by, IsInOrder, SkeletonsAreInOrder}

-- a + b numbers from n on are a numbers from n on, then b numbers from n + a on
numbers_split : (a b n : ℕ) → numbers (a + b) n ≡ numbers a n ++ numbers b (n + a)
numbers_split zero b n = let e : 0 + b ≡ b = omega arith in let at : n + 0 ≡ n = omega arith in rw (e, at) refl
numbers_split (suc a) b n =
    let e : suc a + b ≡ suc (a + b) = omega arith in
    let at : suc n + a ≡ n + suc a = omega arith in
    ap (λ k. numbers k n) e
    ∙ ap (λ (ns : List ℕ). n ∷ ns) (numbers_split a b (suc n) ∙ ap (λ k. numbers a (suc n) ++ numbers b k) at)

numbers_length : (count n : ℕ) → length (numbers count n) ≡ count
numbers_length zero n = refl
numbers_length (suc count) n = let l = numbers_length count (suc n) in omega (arith, l)

ellipsis_nodes : (e : Option Words) (n : ℕ) → of_some (numbered_ellipsis e n) ≡ numbers (one_for e) n
ellipsis_nodes None n = refl
ellipsis_nodes (Some ws) n = refl

mutual
  type_nodes : (t : CType) (n : ℕ) → nodes (numbered t n) ≡ numbers (size t) n
  type_nodes (base ws) n = refl
  type_nodes (void ws) n = refl
  type_nodes (struct ws s) n = refl
  type_nodes (pointer ws t) n =
      let e : suc (size t) ≡ 1 + size t = omega arith in
      let at : n + 1 ≡ suc n = omega arith in
      ap (λ (ns : List ℕ). n ∷ ns) (type_nodes t (n + 1) ∙ ap (numbers (size t)) at) ∙ ap (λ k. numbers k n) e
  type_nodes (function ws ps r e) n =
      let back = n + 1 + sizes ps in
      let last = back + size r in
      let count : suc (sizes ps + (size r + one_for e)) ≡ 1 + (sizes ps + (size r + one_for e)) = omega arith in
      let at : n + 1 ≡ suc n = omega arith in
      let params = all_type_nodes ps (n + 1) in
      let result = type_nodes r back in
      let end = ellipsis_nodes e last in
      ap (λ (ns : List ℕ). n ∷ ns ++ (nodes (numbered r back) ++ of_some (numbered_ellipsis e last))) params
      ∙ ap (λ (ns : List ℕ). n ∷ numbers (sizes ps) (n + 1) ++ (ns ++ of_some (numbered_ellipsis e last))) result
      ∙ ap (λ (ns : List ℕ). n ∷ numbers (sizes ps) (n + 1) ++ (numbers (size r) back ++ ns)) end
      ∙ ap (λ (ns : List ℕ). n ∷ numbers (sizes ps) (n + 1) ++ ns) (sym (numbers_split (size r) (one_for e) back))
      ∙ ap (λ (ns : List ℕ). n ∷ ns) (sym (numbers_split (sizes ps) (size r + one_for e) (n + 1)))
      ∙ ap (λ k. n ∷ numbers (sizes ps + (size r + one_for e)) k) at
      ∙ ap (λ k. numbers k n) count

  all_type_nodes : (ts : CTypes) (n : ℕ) → all_nodes (all_numbered ts n) ≡ numbers (sizes ts) n
  all_type_nodes no_types n = refl
  all_type_nodes (more_types t ts) n =
      ap (λ (ns : List ℕ). ns ++ all_nodes (all_numbered ts (n + size t))) (type_nodes t n)
      ∙ ap (λ (ns : List ℕ). numbers (size t) n ++ ns) (all_type_nodes ts (n + size t))
      ∙ sym (numbers_split (size t) (sizes ts) n)

-- the root of the skeleton of a type that is numbered from n on is n
root_is : (t : CType) (n : ℕ) → root (numbered t n) ≡ n
root_is (base ws) n = refl
root_is (void ws) n = refl
root_is (struct ws s) n = refl
root_is (pointer ws t) n = refl
root_is (function ws ps r e) n = refl

-- the skeleton of a type that is numbered from any number on has its variables in pre-order
type_in_order : (t : CType) (n : ℕ) → IsInOrder (numbered t n)
type_in_order t n =
    let is = type_nodes t n in
    let count : size t ≡ length (nodes (numbered t n)) =
    sym (ap (λ (ns : List ℕ). length ns) is ∙ numbers_length (size t) n) in
    is ∙ ap (λ k. numbers k n) count ∙ ap (numbers (length (nodes (numbered t n)))) (sym (root_is t n))

by_choice : (b : Bool) (s other : Skel) → IsInOrder s → IsInOrder other → IsInOrder (if b then s else other)
by_choice true s other one two = one
by_choice false s other one two = two

-- the skeleton found at a place among numbered ones has its variables in pre-order
among_in_order : (all : List Numbered) (p : Place) → IsInOrder (skeleton_among all p)
among_in_order [] p = refl
among_in_order (it ∷ all) p =
    by_choice (is_place it.start.at p) (numbered it.start.type it.first) (skeleton_among all p)
    (type_in_order it.start.type it.first) (among_in_order all p)

by_number : (it : Skeletons) (o : Option ℕ) (s : Skel) → skel_of it.vars (number_or_none o) ≡ s → IsInOrder s
    → IsInOrder (skel_by it o)
by_number it None s is order = refl
by_number it (Some n) s is order = subst IsInOrder (sym is) order

pub skeletons_in_order : SkeletonsAreInOrder
skeletons_in_order it all found p =
    by_number it (number_at it.starts p) (skeleton_among all p) (found p) (among_in_order all p)
