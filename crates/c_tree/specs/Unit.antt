-- Units: their tokens, their heights, and which are well formed, scopes of names aside.
use Rattle.std.specs.Prelude.{◌≡◌, ℕ, ◌+◌, ◌≤◌, max, All, Contains, Bool, true, false, List, [], ◌∷◌, map}
use Rattle.c_words.specs.declared.kinds.Punct.TheVariants.{OpenBrace, CloseBrace, Semicolon}
use Rattle.c_words.specs.declared.kinds.Keyword.TheVariants.{Asm, Typedef}
use Rattle.c_words.specs.declared.kinds.TokenKind.TheVariants as kinds
use Rattle.c_tree.specs.declared.lexeme.Lexeme.{Lexeme}
use Rattle.c_syntax.specs.declared.parts.Attr.{Attr}
use Rattle.c_syntax.specs.declared.parts.Group.{Group}
use Rattle.c_syntax.specs.declared.parts.Semi.{Semi}
use Rattle.c_syntax.specs.declared.specifier.SpecWord as rust_spec_word
use Rattle.c_syntax.specs.declared.statement.BlockItem as rust_block_item
use Rattle.c_syntax.specs.declared.declaration.Item as rust_item
use Rattle.c_syntax.specs.declared.declaration.Item.TheVariants as rust_items
use Rattle.c_syntax.specs.declared.declaration.Unit as rust_unit
use Rattle.c_tree.specs.Tree.{SpecWords, no_words, more_words, BlockItems, no_block_items, more_block_items, Declaration, declaration, Decl, attribute, Declr, pointer, declr_name, declr_paren, array, params, abs_pointer, abs_paren, abs_array, abs_params}
use Rattle.c_tree.specs.View.{spec_word_of, declr_of, declaration_of, decl_of, block_item_of}
use Rattle.c_tree.specs.Text.{sign_text, keyword_text, group_text, attrs_text, extensions_text, spec_words_text, declr_text, declaration_text, decl_text, block_items_text}
use Rattle.c_tree.specs.Height.{attrs_height, specs_height, declr_height, declaration_height, decl_height, block_height}
use Rattle.c_tree.specs.Groups.{IsGroup}
use Rattle.c_tree.specs.Specifiers.{IsMix, storage_words}
use Rattle.c_tree.specs.WellFormed.{AreAttrs, AreSpecWords, IsDeclr, IsDeclaration, IsDecl, AreBlockItems, AreLabelsFirst, has_auto, lists_identifiers}

-- an item of a unit (6.9): a function, one with a list of identifiers, a declaration, an `asm`, or a semicolon alone
pub data Item : Type 0 where
  function_item : List ℕ → SpecWords → Declr → List Attr → ℕ → BlockItems → ℕ → Item
  old_function_item : List ℕ → SpecWords → Declr → List Attr → List Declaration → ℕ → BlockItems → ℕ → Item
  decl_item : Decl → Item
  asm_item : ℕ → Group → ℕ → Item
  semi_item : Semi → Item

-- the tree of the words of specifiers in the program
abbrev pub spec_words_from : List rust_spec_word.SpecWord → SpecWords
spec_words_from [] = no_words
spec_words_from (w ∷ ws) = more_words (spec_word_of w) (spec_words_from ws)

-- the tree of the items of a block in the program
abbrev pub block_items_from : List rust_block_item.BlockItem → BlockItems
block_items_from [] = no_block_items
block_items_from (item ∷ items) = more_block_items (block_item_of item) (block_items_from items)

-- the tree of an item of the program's unit
abbrev pub item_of : rust_item.Item → Item
item_of (rust_items.Function exts specs d attrs body) =
    function_item exts.items (spec_words_from specs.words.items) (declr_of d.value) attrs.items body.«open»
    (block_items_from body.items.items) body.close
item_of (rust_items.OldFunction exts specs d attrs ds body) =
    old_function_item exts.items (spec_words_from specs.words.items) (declr_of d.value) attrs.items
    (map declaration_of ds.items) body.«open» (block_items_from body.items.items) body.close
item_of (rust_items.Decl d) = decl_item (decl_of d.value)
item_of (rust_items.AsmDecl keyword group semi) = asm_item keyword group semi
item_of (rust_items.Semi semi) = semi_item semi

-- the trees of all items of the program's unit
abbrev pub items_of : rust_unit.Unit → List Item
items_of u = map item_of u.items.items

-- the declarations behind a list of identifiers
abbrev pub declarations_text : List Lexeme → List Declaration → List Lexeme → List Lexeme
declarations_text all [] k = k
declarations_text all (d ∷ ds) k = declaration_text all d (declarations_text all ds k)

-- the height of the declarations behind a list of identifiers: that of the highest
abbrev pub declarations_height : List Declaration → ℕ
declarations_height [] = 0
declarations_height (d ∷ ds) = max (declaration_height d) (declarations_height ds)

-- the tokens of an item of a unit
abbrev pub item_text : List Lexeme → Item → List Lexeme → List Lexeme
item_text all (function_item exts ws d attrs opening items closing) k =
    extensions_text exts (spec_words_text all ws (declr_text all d
    (attrs_text all attrs (sign_text OpenBrace opening (block_items_text all items (sign_text CloseBrace closing k))))))
item_text all (old_function_item exts ws d attrs ds opening items closing) k =
    extensions_text exts (spec_words_text all ws (declr_text all d (attrs_text all attrs (declarations_text all ds
    (sign_text OpenBrace opening (block_items_text all items (sign_text CloseBrace closing k)))))))
item_text all (decl_item d) k = decl_text all d k
item_text all (asm_item keyword group semi) k =
    keyword_text Asm keyword (group_text all group (sign_text Semicolon semi k))
item_text all (semi_item semi) k = sign_text Semicolon semi.token k

-- the tokens of items one behind another
abbrev pub items_text : List Lexeme → List Item → List Lexeme → List Lexeme
items_text all [] k = k
items_text all (item ∷ items) k = item_text all item (items_text all items k)

-- all tokens of a unit are those of its items, and then its end
pub record AreTokensOf (all : List Lexeme) (items : List Item) : Type 0 where
  pub last : ℕ
  pub spelled : all ≡ items_text all items (record { kind = kinds.End; at = last } ∷ [])

-- the height of an item, in nodes
abbrev pub item_height : Item → ℕ
item_height (function_item exts ws d attrs opening items closing) =
    max (specs_height ws) (max (declr_height d) (max (attrs_height attrs) (block_height items))) + 1
item_height (old_function_item exts ws d attrs ds opening items closing) =
    max (specs_height ws)
    (max (declr_height d) (max (attrs_height attrs) (max (declarations_height ds) (block_height items)))) + 1
item_height (decl_item d) = decl_height d
item_height (asm_item keyword group semi) = 1
item_height (semi_item semi) = 1

-- the height of the unit with these items, which counts itself
abbrev pub unit_height : List Item → ℕ
unit_height [] = 1
unit_height (item ∷ items) = max (item_height item + 1) (unit_height items)

-- whether parameters are the form directly around the name, parentheses aside, or else those around the declarator
abbrev pub is_round_name : Declr → Bool → Bool
is_round_name (declr_name token name) above = above
is_round_name (declr_paren opening attrs d closing) above = is_round_name d above
is_round_name (params d opening ps dots closing) above = is_round_name d true
is_round_name (pointer star words d) above = is_round_name d false
is_round_name (array d opening words size closing) above = is_round_name d false
is_round_name _ above = false

-- whether parameters stand directly around the name of a declarator, so that it declares a function
abbrev pub declares_function : Declr → Bool
declares_function d = is_round_name d false

-- whether a list of declarations begins with attributes: behind a list of identifiers these are the function's
abbrev pub begins_attribute : List Declaration → Bool
begins_attribute [] = false
begins_attribute (declaration [] (more_words (attribute attr) ws) ds semi ∷ rest) = true
begins_attribute (d ∷ rest) = false

-- an item is well formed; a function's declarator declares one, and its specifiers have no `typedef`
abbrev pub IsItem : List Lexeme → Item → Type 0
IsItem all (function_item exts ws d attrs opening items closing) =
    IsMix ws × AreSpecWords all ws × (has_auto ws ≡ false) × ¬ Contains (storage_words ws) Typedef × IsDeclr all d
    × (declares_function d ≡ true) × AreAttrs all attrs × AreBlockItems all items × AreLabelsFirst items
IsItem all (old_function_item exts ws d attrs ds opening items closing) =
    IsMix ws × AreSpecWords all ws × (has_auto ws ≡ false) × ¬ Contains (storage_words ws) Typedef × IsDeclr all d
    × (lists_identifiers d ≡ true) × AreAttrs all attrs × All (IsDeclaration all) ds × AreBlockItems all items
    × AreLabelsFirst items × (begins_attribute ds ≡ false)
IsItem all (decl_item d) = IsDecl all d
IsItem all (asm_item keyword group semi) = IsGroup all group
IsItem all (semi_item semi) = Unit {0}

-- a unit is well formed, scopes of names aside
pub record IsUnit (all : List Lexeme) (items : List Item) : Type 0 where
  pub parts : All (IsItem all) items
  pub low : unit_height items ≤ 500
