-- A declarator with a part more is the same by whether it has a name.
use Rattle.std.proofs.Common.{◌≡◌, ℕ, List, Option, refl}
use Rattle.c_syntax.specs.declared.parts.ArrayWord.{ArrayWord}
use Rattle.c_syntax.specs.declared.parts.PointerWord.{PointerWord}
use Rattle.c_tree.specs.Tree as trees
use Rattle.c_tree.specs.Tree.{SomeDeclr, no_declr, some_declr, SomeSize, Params, Dots}
use Rattle.c_nodes.specs.Named.{by_name}
use Rattle.c_reading.specs.Declaring.{with_pointer, with_array, with_params}

pub named_pointer : (d : SomeDeclr) (token : ℕ) (words : List PointerWord) →
    by_name d (λ d. trees.pointer token words d) (λ d. trees.abs_pointer token words d) ≡ with_pointer token words d
named_pointer no_declr token words = refl
named_pointer (some_declr d) token words = refl

pub named_array : (d : SomeDeclr) (opening : ℕ) (words : List ArrayWord) (size : SomeSize) (closing : ℕ) →
    by_name d (λ d. trees.array d opening words size closing) (λ d. trees.abs_array d opening words size closing)
    ≡ with_array d opening words size closing
named_array no_declr opening words size closing = refl
named_array (some_declr d) opening words size closing = refl

pub named_params : (d : SomeDeclr) (opening : ℕ) (ps : Params) (dots : Option Dots) (closing : ℕ) →
    by_name d (λ d. trees.params d opening ps dots closing) (λ d. trees.abs_params d opening ps dots closing)
    ≡ with_params d opening ps dots closing
named_params no_declr opening ps dots closing = refl
named_params (some_declr d) opening ps dots closing = refl
