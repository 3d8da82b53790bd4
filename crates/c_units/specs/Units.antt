-- The well-formed units of preprocessed C: their tokens are those of the grammar, the rules beside the grammar hold,
-- each name has the kind of its place by scope, and the height is at most 500.
use Rattle.std.specs.Prelude.{◌≡◌, ℕ, Bool, suc, List, [], ◌∷◌, Option, None, Some}
use Rattle.c_words.specs.declared.kinds.TokenKind.{TokenKind}
use Rattle.c_tree.specs.declared.lexeme.Lexeme.{Lexeme}
use Rattle.c_tree.specs.Tree.{Declr, pointer, declr_name, declr_paren, array, params, abs_pointer, abs_paren, abs_array, abs_params, Params, no_params, SpecWords, BlockItems, identifiers, base_name, Declaration}
use Rattle.c_tree.specs.Unit.{Item, function_item, decl_item, asm_item, semi_item, IsUnit, AreTokensOf, old_function_item}
use Rattle.typedef_scope.specs.declared.kind.Kind.TheVariants.{Value}
use Rattle.c_units.specs.HeldScopes.{HeldScopes, file_scope, enter, innermost, reopen, leave, hold, release}
use Rattle.c_units.specs.Scoping.{behind, spec_words_scopes, declr_scopes, params_scopes, decl_scopes, block_items_scopes, declaration_scopes}

-- the name of a declarator alone, parentheses aside
abbrev pub bare_name : Declr → Option ℕ
bare_name (declr_name token name) = Some name
bare_name (declr_paren opening attrs d closing) = bare_name d
bare_name (pointer star words d) = None
bare_name (array d opening words size closing) = None
bare_name (params d opening ps dots closing) = None
bare_name (abs_pointer star words d) = None
bare_name (abs_paren opening attrs d closing) = None
bare_name (abs_array d opening words size closing) = None
bare_name (abs_params d opening ps dots closing) = None
bare_name (identifiers d opening names closing) = None
bare_name (base_name token) = None

-- a function's own parameters are those directly around its name; here with the name itself
pub record OwnParams : Type 0 where
  pub name : ℕ
  pub params : Params

-- these parameters, where a declarator is a name alone, or else those found further in
abbrev pub or_those_of : Option ℕ → Params → Option OwnParams → Option OwnParams
or_those_of None ps inner = inner
or_those_of (Some name) ps inner = Some (record { name = name; params = ps })

-- the parameters directly around the name of a declarator, if any, with the name
abbrev pub own_params : Declr → Option OwnParams
own_params (declr_name token name) = None
own_params (declr_paren opening attrs d closing) = own_params d
own_params (pointer star words d) = own_params d
own_params (array d opening words size closing) = own_params d
own_params (params d opening ps dots closing) = or_those_of (bare_name d) ps (own_params d)
own_params (abs_pointer star words d) = None
own_params (abs_paren opening attrs d closing) = None
own_params (abs_array d opening words size closing) = None
own_params (abs_params d opening ps dots closing) = None
own_params (identifiers d opening names closing) = or_those_of (bare_name d) no_params (own_params d)
own_params (base_name token) = None

-- behind a function's own parameters, in their scope, while the function's name is held
abbrev pub own_scope : Option OwnParams → HeldScopes → Option HeldScopes
own_scope None s = None
own_scope (Some own) s = behind (hold own.name Value s) (λ t. params_scopes own.params (enter t))

-- a function is declared behind its declarator; its body goes on in the scope of its own parameters
abbrev pub function_scopes : SpecWords → Declr → BlockItems → HeldScopes → Option HeldScopes
function_scopes ws d items s =
    behind (spec_words_scopes ws s) (λ t.
    behind (declr_scopes (Some Value) d t) (λ u. behind (own_scope (own_params d) t)
    (λ w. behind (block_items_scopes items (reopen (innermost w) (release Value u))) (λ inner. Some (leave inner)))))

-- the declarations of parameters behind a list of identifiers
abbrev pub declarations_scopes : List Declaration → HeldScopes → Option HeldScopes
declarations_scopes [] s = Some s
declarations_scopes (d ∷ ds) s = behind (declaration_scopes d s) (declarations_scopes ds)

-- Such a function's declarations stand in the scope of its parameters, while its name is held; it is declared behind
-- the last of these.
abbrev pub old_function_scopes : SpecWords → Declr → List Declaration → BlockItems → HeldScopes → Option HeldScopes
old_function_scopes ws d ds items s =
    behind (spec_words_scopes ws s) (λ t.
    behind (declr_scopes (Some Value) d t) (λ u. behind (declarations_scopes ds (enter u))
    (λ w. behind (block_items_scopes items (reopen (innermost w) (release Value (leave w))))
    (λ inner. Some (leave inner)))))

-- the scopes behind an item of a unit, by those before it
abbrev pub item_scopes : Item → HeldScopes → Option HeldScopes
item_scopes (function_item exts ws d attrs opening items closing) s = function_scopes ws d items s
item_scopes (old_function_item exts ws d attrs ds opening items closing) s = old_function_scopes ws d ds items s
item_scopes (decl_item d) s = decl_scopes d s
item_scopes (asm_item keyword group semi) s = Some s
item_scopes (semi_item semi) s = Some s

-- the scopes behind items one behind another
abbrev pub items_scopes : List Item → HeldScopes → Option HeldScopes
items_scopes [] s = Some s
items_scopes (item ∷ items) s = behind (item_scopes item s) (items_scopes items)

-- The tokens are those of these items, which obey the grammar and the rules beside it, and each name has the kind of
-- its place. The unit is read as wider C or not.
pub record IsWellFormed (wide : Bool) (all : List Lexeme) (items : List Item) : Type 0 where
  pub tokens : AreTokensOf all items
  pub rules : IsUnit all items
  pub scopes : HeldScopes
  pub named : items_scopes items (file_scope wide) ≡ Some scopes

-- tokens with their numbers, from a number on
abbrev pub numbered_from : ℕ → List TokenKind → List Lexeme
numbered_from n [] = []
numbered_from n (kind ∷ kinds) = record { kind = kind; at = n } ∷ numbered_from (suc n) kinds

-- tokens of these kinds, numbered from 0
abbrev pub numbered : List TokenKind → List Lexeme
numbered kinds = numbered_from 0 kinds
