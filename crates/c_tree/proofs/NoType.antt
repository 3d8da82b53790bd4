-- Specifiers without a word are no type.
use Rattle.std.proofs.Common.{◌≡◌, Any, true, false, [], length, nat_eq, sym, IsPermutation, inl, inr, arith}
use Rattle.std.proofs.lemmas.List.Folds.{list_any-from_Any}
use Rattle.std.proofs.lemmas.List.Sorted.{length_permutation}
use Rattle.std.proofs.lemmas.Bool.{eq-eqb}
use Rattle.c_tree.specs.Specifiers.{basic_types, IsMix}
use Rattle.c_tree.specs.Tree.{no_words}

-- no basic type is made of no words
pub no_type_of_none : Any (IsPermutation []) basic_types → ⊥
no_type_of_none (at, set, less, is, same) =
    let long : 0 ≡ length set = sym (length_permutation [] set same) in
    let yes =
    list_any-from_Any (λ set. nat_eq 0 (length set)) basic_types (at, set, less, is, eq-eqb 0 (length set) long) in
    let wrong : true ≡ false = sym yes in
    absurd cc

-- so they are no mix
pub no_mix_of_none : IsMix no_words → ⊥
no_mix_of_none (inl one, stores) = no_type_of_none one.1
no_mix_of_none (inr one, stores) = let zero_is_one : 0 ≡ 1 = one.0 in omega (arith, zero_is_one)
