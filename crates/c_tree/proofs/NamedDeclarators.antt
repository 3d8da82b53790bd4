-- Declarators that have names.
use Rattle.std.proofs.Common.{◌≡◌, true, refl, Bool}
use Rattle.c_tree.specs.Tree.{Declr, pointer, declr_name, declr_paren, array, params, abs_pointer, abs_paren, abs_array, abs_params, identifiers, base_name}
use Rattle.c_tree.specs.WellFormed.{lists_identifiers, is_named, is_bare_name}
use Rattle.c_tree.specs.Unit.{is_round_name}

-- a declarator that lists identifiers has a name
pub lister_is_named : (d : Declr) → lists_identifiers d ≡ true → is_named d ≡ true
lister_is_named (declr_name token name) is = refl
lister_is_named (declr_paren opening attrs d closing) is = refl
lister_is_named (params d opening ps dots closing) is = refl
lister_is_named (pointer star words d) is = refl
lister_is_named (array d opening words size closing) is = refl
lister_is_named (identifiers d opening names closing) is = refl
lister_is_named (base_name token) is = refl
lister_is_named (abs_pointer star words d) is = absurd cc
lister_is_named (abs_paren opening attrs d closing) is = absurd cc
lister_is_named (abs_array d opening words size closing) is = absurd cc
lister_is_named (abs_params d opening ps dots closing) is = absurd cc

-- a declarator of a function has a name
pub round_is_named : (d : Declr) (above : Bool) → is_round_name d above ≡ true → is_named d ≡ true
round_is_named (declr_name token name) above is = refl
round_is_named (declr_paren opening attrs d closing) above is = refl
round_is_named (params d opening ps dots closing) above is = refl
round_is_named (pointer star words d) above is = refl
round_is_named (array d opening words size closing) above is = refl
round_is_named (identifiers d opening names closing) above is = refl
round_is_named (base_name token) above is = refl
round_is_named (abs_pointer star words d) above is = absurd cc
round_is_named (abs_paren opening attrs d closing) above is = absurd cc
round_is_named (abs_array d opening words size closing) above is = absurd cc
round_is_named (abs_params d opening ps dots closing) above is = absurd cc

-- a bare name is a name
pub bare_is_named : (d : Declr) → is_bare_name d ≡ true → is_named d ≡ true
bare_is_named (declr_name token name) h = refl
bare_is_named (declr_paren opening attrs d closing) h = refl
bare_is_named d h = absurd cc
