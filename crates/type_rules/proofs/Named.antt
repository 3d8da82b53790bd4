-- Declarators that have a name are declared with one.
use Rattle.std.proofs.Common.{◌≡◌, true, Some, refl, List, Bool, false}
use Rattle.c_tree.specs.Tree.{Declr, pointer, declr_name, declr_paren, array, params, abs_pointer, abs_paren, abs_array, abs_params, identifiers, base_name}
use Rattle.c_tree.specs.WellFormed as grammar
use Rattle.c_tree.specs.declared.lexeme.Lexeme.{Lexeme}
use Rattle.c_tree.specs.WellFormed.{IsDeclr}
use Rattle.c_tree.specs.Unit.{is_round_name}
use Rattle.name_rules.specs.Spellings.{Named}
use Rattle.type_rules.specs.Tokens.{declared_name}

-- a bare name has a name
pub bare_name : (d : Declr) → grammar.is_bare_name d ≡ true → (it : Named) × (declared_name d ≡ Some it)
bare_name (declr_name token name) e = (_, refl)
bare_name (declr_paren opening attrs d closing) e = bare_name d e
bare_name (pointer star words d) e = absurd cc
bare_name (array d opening words size closing) e = absurd cc
bare_name (params d opening ps dots closing) e = absurd cc
bare_name (abs_pointer star words d) e = absurd cc
bare_name (abs_paren opening attrs d closing) e = absurd cc
bare_name (abs_array d opening words size closing) e = absurd cc
bare_name (abs_params d opening ps dots closing) e = absurd cc
bare_name (identifiers d opening names closing) e = absurd cc
bare_name (base_name token) e = absurd cc

-- a well-formed declarator with a list of identifiers declares a name
pub listing_name : (all : List Lexeme) (d : Declr) → IsDeclr all d → grammar.lists_identifiers d ≡ true →
    (it : Named) × (declared_name d ≡ Some it)
listing_name all (identifiers d opening names closing) formed e = bare_name d formed.1
listing_name all (declr_name token name) formed e = absurd cc
listing_name all (declr_paren opening attrs d closing) formed e = listing_name all d formed.1 e
listing_name all (params d opening ps dots closing) formed e = listing_name all d formed.0 e
listing_name all (pointer star words d) formed e = listing_name all d formed.1 e
listing_name all (array d opening words size closing) formed e = listing_name all d formed.0 e
listing_name all (abs_pointer star words d) formed e = absurd cc
listing_name all (abs_paren opening attrs d closing) formed e = absurd cc
listing_name all (abs_array d opening words size closing) formed e = absurd cc
listing_name all (abs_params d opening ps dots closing) formed e = absurd cc
listing_name all (base_name token) formed e = absurd cc

-- the name of a function's declarator
pub round_name : (d : Declr) (above : Bool) → is_round_name d above ≡ true → (it : Named) × (declared_name d ≡ Some it)
round_name (declr_name token name) above h = (record { token = token; name = name }, refl)
round_name (declr_paren opening attrs d closing) above h = round_name d above h
round_name (params d opening ps dots closing) above h = round_name d true h
round_name (pointer star words d) above h = round_name d false h
round_name (array d opening words size closing) above h = round_name d false h
round_name (abs_pointer star words d) above h = absurd cc
round_name (abs_paren opening attrs d closing) above h = absurd cc
round_name (abs_array d opening words size closing) above h = absurd cc
round_name (abs_params d opening ps dots closing) above h = absurd cc
round_name (identifiers d opening names closing) above h = absurd cc
round_name (base_name token) above h = absurd cc
