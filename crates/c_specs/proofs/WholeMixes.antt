-- Whether what stands is a whole mix.
use Rattle.std.proofs.Common.{arith, ◌≡◌, ℕ, zero, suc, ◌<◌, ◌↔◌, Bool, true, false, List, [], ◌∷◌, length, slice_get, slice_index_or, Some, inl, inr, refl, subst}
use Rattle.std.specs.Prelude.{Any, IsPermutation}
use Rattle.c_words.specs.declared.kinds.Keyword.{Keyword}
use Rattle.c_tree.specs.Tree.{SpecWords}
use Rattle.c_tree.specs.Specifiers.{type_words, type_count, storage_words, basic_types, storages, IsMix}
use Rattle.c_specs.specs.declared.mix.Types.{Types}
use Rattle.c_specs.specs.declared.mix.Types.TheVariants.{Words, Named}
use Rattle.c_specs.specs.declared.mix.Mix.{Mix}
use Rattle.c_specs.specs.Basic.{words_of, is_whole}
use Rattle.c_specs.specs.Storage.{stored_words}
use Rattle.c_specs.specs.Mix.{whole_of}
use Rattle.c_specs.specs.Reading.{IsTypeOf, TypesAre, AreRead}
use Rattle.c_specs.proofs.Counting.{not_ended}
use Rattle.c_specs.proofs.Codes.{type_code}
use Rattle.c_specs.proofs.BasicTable.{place, Told, whole_tells}
use Rattle.c_specs.proofs.StorageTable.{place as storage_place, placed}

-- a place of a table where a set is got is one of its places
within : (sets : List (List Keyword)) (n : ℕ) (x : List Keyword) → slice_get sets n ≡ Some x → n < length sets
within [] n x is = absurd cc
within (y ∷ ys) zero x is = omega arith
within (y ∷ ys) (suc n) x is = let l = within ys n x is in omega arith

-- the set that is got at a place of a table is the one that is found there by any default
found : (sets : List (List Keyword)) (n : ℕ) (x : List Keyword) → slice_get sets n ≡ Some x
    → slice_index_or sets n x ≡ x
found [] n x is = absurd cc
found (y ∷ ys) zero x is = cc
found (y ∷ ys) (suc n) x is = found ys n x is

any_at : (sets : List (List Keyword)) (n : ℕ) (x ks : List Keyword) → slice_get sets n ≡ Some x → IsPermutation ks x
    → Any (IsPermutation ks) sets
any_at sets n x ks is same = (n, x, within sets n x is, found sets n x is, same)

-- types so far that are whole are a type of the listed ones
type_whole : (t : Types) (n : ℕ) (ks : List Keyword) → TypesAre t n ks → whole_of t ≡ true → IsTypeOf n ks
type_whole Named n ks are whole = inr are
type_whole (Words b m) n ks (is, fit, here) whole =
    inl (
      is,
      any_at basic_types (place b m) (words_of b m) ks
          (subst (λ x. Told true x b m) whole (subst (λ x. Told x (is_whole b m) b m) fit (whole_tells b m))) here,
    )

-- types so far that are not whole are no type of the listed ones
type_unfinished : (t : Types) (n : ℕ) (ks : List Keyword) → TypesAre t n ks → whole_of t ≡ false → IsTypeOf n ks → ⊥
type_unfinished Named n ks are whole h = absurd cc
type_unfinished (Words b m) n ks (is, fit, here) whole (inl (nought, any)) =
    not_ended type_code basic_types (words_of b m) ks
    (subst (λ x. Told true x b m) whole (subst (λ x. Told x (is_whole b m) b m) fit (whole_tells b m))) here any
type_unfinished (Words b m) n ks (is, fit, here) whole (inr (one, none)) = absurd (omega arith)

-- a mix that was read of words has a whole type just where the words are a mix
pub whole_right : (mix : Mix) (ws : SpecWords) → AreRead mix ws → (whole_of mix.types ≡ true) ↔ IsMix ws
whole_right mix ws read = (
  λ whole. (
    type_whole mix.types (type_count ws) (type_words ws) read.types whole,
    any_at storages (storage_place mix.storage) (stored_words mix.storage) (storage_words ws)
        (placed mix.storage) read.storing,
  ),
  λ is. by_whole (whole_of mix.types) refl is,
)
  where
    by_whole : (x : Bool) → whole_of mix.types ≡ x → IsMix ws → whole_of mix.types ≡ true
    by_whole true e is = e
    by_whole false e is = absurd (type_unfinished mix.types (type_count ws) (type_words ws) read.types e is.0)
