-- Where index words may stand in a prelude: on the types of functions that its file scope declares.
use Rattle.std.specs.Prelude.{ℕ, Bool, true, false, ◌&&◌, not, List, [], ◌∷◌, ◌++◌, Option, None, Some, if◌then◌else◌}
use Rattle.c_syntax.specs.declared.parts.Qual.{Qual}
use Rattle.c_syntax.specs.declared.parts.Qual.TheVariants as quals
use Rattle.c_syntax.specs.declared.parts.PointerWord.{PointerWord}
use Rattle.c_syntax.specs.declared.parts.PointerWord.TheVariants as pointer_words
use Rattle.c_syntax.specs.declared.parts.ArrayWord.{ArrayWord}
use Rattle.c_syntax.specs.declared.parts.ArrayWord.TheVariants as array_words
use Rattle.c_tree.specs.Tree.{Dots, SpecWords, no_words, more_words, SpecWord, storage, thread, inline_word, noreturn, qualifier, basic, struct_type, enum_type, typedef_name, attribute, Declr, pointer, declr_name, declr_paren, array, params, abs_pointer, abs_paren, abs_array, abs_params, SomeDeclr, no_declr, some_declr, Params, no_params, more_params, InitDeclrs, no_init_declrs, more_init_declrs, Declaration, declaration, Decl, decl_declaration, decl_assert, typeof_value, typeof_type, align, auto_word, identifiers, base_name}
use Rattle.c_tree.specs.Specifiers.{storage_words}
use Rattle.c_units.specs.Scoping.{has_typedef_word}
use Rattle.c_tree.specs.Unit.{Item, function_item, decl_item, asm_item, semi_item, declares_function, old_function_item}

-- the index words among qualifiers, by their tokens

-- the token of a qualifier that is an index word
abbrev pub in_qual : Qual → List ℕ
in_qual (quals.Word word) = []
in_qual (quals.Element token) = []
in_qual (quals.Index token) = token ∷ []

-- the index words among qualifiers
abbrev pub in_quals : List Qual → List ℕ
in_quals [] = []
in_quals (q ∷ qs) = in_qual q ++ in_quals qs

-- the index words behind the `*` of a pointer
abbrev pub in_pointer_words : List PointerWord → List ℕ
in_pointer_words [] = []
in_pointer_words (pointer_words.Qual q ∷ ws) = in_qual q ++ in_pointer_words ws
in_pointer_words (pointer_words.Attr attr ∷ ws) = in_pointer_words ws

-- the index words behind the `[` of an array declarator
abbrev pub in_array_words : List ArrayWord → List ℕ
in_array_words [] = []
in_array_words (array_words.Static token ∷ ws) = in_array_words ws
in_array_words (array_words.Qual q ∷ ws) = in_qual q ++ in_array_words ws

-- the index words before `...`
abbrev pub in_dots : Option Dots → List ℕ
in_dots None = []
in_dots (Some dots) = in_quals dots.quals

-- what a body of a struct or an enum holds is no word of the type around it
abbrev pub in_spec_word : SpecWord → List ℕ
in_spec_word (storage word) = []
in_spec_word (thread token) = []
in_spec_word (inline_word token) = []
in_spec_word (noreturn token) = []
in_spec_word (qualifier q) = in_qual q
in_spec_word (basic word) = []
in_spec_word (struct_type word attrs tag body) = []
in_spec_word (enum_type it) = []
in_spec_word (typedef_name it) = []
in_spec_word (attribute attr) = []
in_spec_word (typeof_value keyword opening e closing) = []
in_spec_word (typeof_type word opening ws d closing) = []
in_spec_word (align attr) = []
in_spec_word (auto_word token) = []

-- the index words among specifiers
abbrev pub in_specs : SpecWords → List ℕ
in_specs no_words = []
in_specs (more_words w ws) = in_spec_word w ++ in_specs ws

-- The index words on the type that a declarator makes, in the order of the text; nothing of an expression or an
-- attribute.
abbrev mutual
  -- those of a declarator
  pub in_declr : Declr → List ℕ
  in_declr (pointer star words d) = in_pointer_words words ++ in_declr d
  in_declr (declr_name token name) = []
  in_declr (declr_paren opening attrs d closing) = in_declr d
  in_declr (array d opening words size closing) = in_declr d ++ in_array_words words
  in_declr (params d opening ps dots closing) = in_declr d ++ (in_params ps ++ in_dots dots)
  in_declr (abs_pointer star words d) = in_pointer_words words ++ in_some_declr d
  in_declr (abs_paren opening attrs d closing) = in_declr d
  in_declr (abs_array d opening words size closing) = in_some_declr d ++ in_array_words words
  in_declr (abs_params d opening ps dots closing) = in_some_declr d ++ (in_params ps ++ in_dots dots)
  in_declr (identifiers d opening names closing) = in_declr d
  in_declr (base_name token) = []

  -- those of a declarator that may be absent
  pub in_some_declr : SomeDeclr → List ℕ
  in_some_declr no_declr = []
  in_some_declr (some_declr d) = in_declr d

  -- those of the parameters of a function declarator
  pub in_params : Params → List ℕ
  in_params no_params = []
  in_params (more_params ws d attrs ps) = in_specs ws ++ (in_some_declr d ++ in_params ps)

-- the index words of the declarators of a declaration
abbrev pub in_init_declrs : InitDeclrs → List ℕ
in_init_declrs no_init_declrs = []
in_init_declrs (more_init_declrs attrs d label behind init ds) = in_declr d ++ in_init_declrs ds

-- each declarator declares a function, parentheses aside
abbrev pub declare_functions : InitDeclrs → Bool
declare_functions no_init_declrs = true
declare_functions (more_init_declrs attrs d label behind init ds) = declares_function d && declare_functions ds

-- whether a declaration has a declarator
abbrev pub has_some : InitDeclrs → Bool
has_some no_init_declrs = false
has_some (more_init_declrs attrs d label behind init ds) = true

-- a declaration of functions alone, of one at least
abbrev pub is_of_functions : SpecWords → InitDeclrs → Bool
is_of_functions ws ds = not (has_typedef_word (storage_words ws)) && (has_some ds && declare_functions ds)

-- the index words of a declaration, where it declares functions alone
abbrev pub in_declaration : Declaration → List ℕ
in_declaration (declaration exts ws ds semi) = if is_of_functions ws ds then in_specs ws ++ in_init_declrs ds else []

-- the same of a declaration or an assertion
abbrev pub in_decl : Decl → List ℕ
in_decl (decl_declaration it) = in_declaration it
in_decl (decl_assert it) = []

-- the same of an item of a unit: none in a function with a body
abbrev pub in_item : Item → List ℕ
in_item (function_item exts ws d attrs opening items closing) = []
in_item (old_function_item exts ws d attrs ds opening items closing) = []
in_item (decl_item d) = in_decl d
in_item (asm_item keyword group semi) = []
in_item (semi_item semi) = []

-- the index words of a unit that stand where they may
abbrev pub index_places : List Item → List ℕ
index_places [] = []
index_places (item ∷ items) = in_item item ++ index_places items

-- the `{` of each function's body
abbrev pub bodies : List Item → List ℕ
bodies [] = []
bodies (function_item exts ws d attrs opening items closing ∷ others) = opening ∷ bodies others
bodies (old_function_item exts ws d attrs ds opening items closing ∷ others) = opening ∷ bodies others
bodies (decl_item d ∷ others) = bodies others
bodies (asm_item keyword group semi ∷ others) = bodies others
bodies (semi_item semi ∷ others) = bodies others
