-- Numbers one after the other, and the variables of a skeleton.
use Rattle.std.proofs.Common.{◌≡◌, ℕ, zero, suc, ◌+◌, ◌-◌, ◌<◌, ◌≤◌, List, [], ◌∷◌, ◌++◌, length, None, Some, refl, sym, ◌∙◌, ap, arith, append_assoc}
use Rattle.qual_types.specs.Skel.{Skel, flat, ref, fun, nodes, all_nodes, root}
use Rattle.sig_writer.specs.Nodes.{numbers, IsInOrder, AreNodes, last_of}

-- one more number at the end
numbers_end : (count from : ℕ) → numbers (suc count) from ≡ numbers count from ++ (from + count) ∷ []
numbers_end zero from = let at : from + 0 ≡ from = omega arith in rw at refl
numbers_end (suc count) from =
    let at : suc from + count ≡ from + suc count = omega arith in
    ap (λ (ns : List ℕ). from ∷ ns) (numbers_end count (suc from) ∙ ap (λ n. numbers count (suc from) ++ n ∷ []) at)

-- pushing n behind the numbers up to n gives the numbers up to n + 1, behind what was there
pub one_more : (from n at : ℕ) (old before after : List ℕ) → from ≤ n → before ≡ old ++ numbers (n - from) from
    → after ≡ before ++ at ∷ [] → at ≡ n
    → after ≡ old ++ numbers (n + 1 - from) from
one_more from n at old before after up is pushed at_is =
    let count : n + 1 - from ≡ suc (n - from) = omega (arith, up) in
    let last : at ≡ from + (n - from) = omega (arith, up, at_is) in
    pushed
    ∙ ap (λ (ns : List ℕ). ns ++ at ∷ []) is
    ∙ append_assoc old (numbers (n - from) from) (at ∷ [])
    ∙ ap (λ k. old ++ (numbers (n - from) from ++ k ∷ [])) last
    ∙ ap (λ (ns : List ℕ). old ++ ns) (sym (numbers_end (n - from) from))
    ∙ ap (λ k. old ++ numbers k from) (sym count)

-- the last of a list, or else this
abbrev final : ℕ → List ℕ → ℕ
final d [] = d
final d (x ∷ xs) = final x xs

final_behind : (d : ℕ) (xs ys : List ℕ) → final d (xs ++ ys) ≡ final (final d xs) ys
final_behind d [] ys = refl
final_behind d (x ∷ xs) ys = final_behind x xs ys

final_number : (count from d : ℕ) → final d (numbers (suc count) from) ≡ from + count
final_number zero from d = omega arith
final_number (suc count) from d = let l = final_number count (suc from) from in omega (arith, l)

-- the last of the nodes of a skeleton is its last variable
final_node : (d : ℕ) (s : Skel) → final d (nodes s) ≡ last_of s
final_node d (flat v k) = refl
final_node d (ref v s) = final_node v s
final_node d (fun v ps r None) =
    final_behind v (all_nodes ps) (nodes r ++ [])
    ∙ final_behind (final v (all_nodes ps)) (nodes r) []
    ∙ final_node (final v (all_nodes ps)) r
final_node d (fun v ps r (Some e)) =
    final_behind v (all_nodes ps) (nodes r ++ e ∷ [])
    ∙ final_behind (final v (all_nodes ps)) (nodes r) (e ∷ [])

-- a skeleton has at least one node
some_nodes : (s : Skel) → 0 < length (nodes s)
some_nodes (flat v k) = omega arith
some_nodes (ref v s) = omega arith
some_nodes (fun v ps r e) = omega arith

-- by so many variables, the last one's number
last_is : (s : Skel) (count : ℕ) → length (nodes s) ≡ suc count → IsInOrder s → last_of s ≡ root s + count
last_is s count is order =
    sym (final_node 0 s) ∙ ap (final 0) (order ∙ ap (λ n. numbers n (root s)) is) ∙ final_number count (root s) 0

-- in a skeleton whose variables are in pre-order the root is not above the last variable
ordered : (s : Skel) → IsInOrder s → root s ≤ last_of s
ordered s order =
    let some = some_nodes s in
    let l = last_is s (length (nodes s) - 1) (omega (arith, some)) order in
    omega (arith, l)

-- the numbers from the root to the last variable are the nodes of a skeleton in pre-order
all_ordered : (s : Skel) → IsInOrder s → numbers (last_of s + 1 - root s) (root s) ≡ nodes s
all_ordered s order =
    let some = some_nodes s in
    let l = last_is s (length (nodes s) - 1) (omega (arith, some)) order in
    let is : last_of s + 1 - root s ≡ length (nodes s) = omega (arith, l, some) in
    ap (λ n. numbers n (root s)) is ∙ sym order

-- the range from the root of a skeleton in pre-order to its last variable holds its nodes
pub nodes_are : (s : Skel) (from last : ℕ) → from ≡ root s → last ≡ last_of s → IsInOrder s
    → AreNodes (nodes s) (record { from = from; to = last + 1 })
nodes_are s from last from_is last_is order =
    let up = ordered s order in
    record { order = omega (arith, up, from_is, last_is); are = rw (from_is, last_is) (all_ordered s order) }
