-- The annotation words and names of parts of trees.
use Rattle.std.specs.Prelude.{ℕ, Bool, true, false, ◌&&◌, List, [], ◌∷◌, ◌++◌, Option, None, Some}
use Rattle.c_words.specs.declared.kinds.Keyword.{Keyword}
use Rattle.c_words.specs.declared.kinds.Keyword.TheVariants as keywords
use Rattle.c_syntax.specs.declared.parts.Qual.{Qual}
use Rattle.c_syntax.specs.declared.parts.PointerWord.{PointerWord}
use Rattle.c_syntax.specs.declared.parts.PointerWord.TheVariants as pointer_words
use Rattle.c_syntax.specs.declared.parts.ArrayWord.{ArrayWord}
use Rattle.c_syntax.specs.declared.parts.ArrayWord.TheVariants as array_words
use Rattle.c_tree.specs.Firsts.{qual_token}
use Rattle.c_tree.specs.WellFormed.{has_auto}
use Rattle.c_tree.specs.Tree.{InitDeclrs, no_init_declrs, more_init_declrs, SomeInit, no_init, some_init, init_value, init_braced, SpecWords, no_words, more_words, SpecWord, storage, thread, inline_word, noreturn, qualifier, basic, struct_type, enum_type, typedef_name, attribute, Declr, pointer, declr_name, declr_paren, array, params, abs_pointer, abs_paren, abs_array, abs_params, SomeDeclr, no_declr, some_declr, Params, no_params, more_params, typeof_value, typeof_type, align, auto_word, identifiers, base_name, complex_part, label_use, compat, choose, generic, range_desig, old_desig, case_range, goto_value, block_labels, Assocs, no_assocs, more_assocs, Assoc, typed_assoc, default_assoc}
use Rattle.type_table.specs.Types.{Words}
use Rattle.name_rules.specs.Spellings.{Spelling, annotation_at, Named}

-- the annotation that a qualifier word is, where it is one
abbrev pub annotation : Spelling → Qual → Words
annotation u q = annotation_at u (qual_token q)

-- the annotation words of a list of qualifiers, in token order
abbrev pub annotations : Spelling → List Qual → Words
annotations u [] = []
annotations u (q ∷ qs) = annotation u q ++ annotations u qs

-- the annotation words behind the `*` of a pointer
abbrev pub pointer_annotations : Spelling → List PointerWord → Words
pointer_annotations u [] = []
pointer_annotations u (pointer_words.Qual q ∷ words) = annotation u q ++ pointer_annotations u words
pointer_annotations u (pointer_words.Attr attr ∷ words) = pointer_annotations u words

-- the annotation words in the `[ ]` of an array, as a parameter may have them (6.7.5.3)
abbrev pub array_annotations : Spelling → List ArrayWord → Words
array_annotations u [] = []
array_annotations u (array_words.Static token ∷ words) = array_annotations u words
array_annotations u (array_words.Qual q ∷ words) = annotation u q ++ array_annotations u words

-- the name that a declarator declares
abbrev mutual
  -- the name that a declarator declares
  pub declared_name : Declr → Option Named
  declared_name (pointer star words d) = declared_name d
  declared_name (declr_name token name) = Some (record { token = token; name = name })
  declared_name (declr_paren opening attrs d closing) = declared_name d
  declared_name (array d opening words size closing) = declared_name d
  declared_name (params d opening ps dots closing) = declared_name d
  declared_name (abs_pointer star words d) = some_declared_name d
  declared_name (abs_paren opening attrs d closing) = declared_name d
  declared_name (abs_array d opening words size closing) = some_declared_name d
  declared_name (abs_params d opening ps dots closing) = some_declared_name d
  declared_name (identifiers d opening names closing) = declared_name d
  declared_name (base_name token) = None

  -- the name that a declarator declares, where there is one
  pub some_declared_name : SomeDeclr → Option Named
  some_declared_name no_declr = None
  some_declared_name (some_declr d) = declared_name d

-- a declarator that is its name alone, parentheses aside
abbrev pub is_bare : Declr → Bool
is_bare (declr_name token name) = true
is_bare (declr_paren opening attrs d closing) = is_bare d
is_bare (pointer star words d) = false
is_bare (array d opening words size closing) = false
is_bare (params d opening ps dots closing) = false
is_bare (abs_pointer star words d) = false
is_bare (abs_paren opening attrs d closing) = false
is_bare (abs_array d opening words size closing) = false
is_bare (abs_params d opening ps dots closing) = false
is_bare (identifiers d opening names closing) = false
is_bare (base_name token) = false

-- whether a keyword is `void`
abbrev pub is_void : Keyword → Bool
is_void keywords.Void = true
is_void word = false

-- words that leave `void` no parameter: the keyword itself, and what says nothing of it
abbrev pub leaves_void : SpecWord → Bool
leaves_void (storage word) = false
leaves_void (thread token) = false
leaves_void (inline_word token) = true
leaves_void (noreturn token) = true
leaves_void (qualifier q) = false
leaves_void (basic word) = is_void word.keyword
leaves_void (struct_type word attrs tag body) = false
leaves_void (enum_type e) = false
leaves_void (typedef_name name) = false
leaves_void (attribute attr) = true
leaves_void (typeof_value keyword opening e closing) = false
leaves_void (typeof_type word opening ws d closing) = false
leaves_void (align attr) = true
leaves_void (auto_word token) = false

-- whether all words of specifiers leave `void` no parameter
abbrev pub leave_void : SpecWords → Bool
leave_void no_words = true
leave_void (more_words word words) = leaves_void word && leave_void words

-- `void` alone, without a declarator, is no parameter (C99, 6.7.5.3 paragraph 10)
abbrev pub says_none : Params → Bool
says_none no_params = false
says_none (more_params ws no_declr attrs no_params) = leave_void ws
says_none (more_params ws no_declr attrs (more_params ws2 d attrs2 ps)) = false
says_none (more_params ws (some_declr d) attrs ps) = false

-- whether there is an initialiser that is an expression
abbrev pub has_value : SomeInit → Bool
has_value no_init = false
has_value (some_init equal (init_value e)) = true
has_value (some_init equal (init_braced list)) = false

-- whether each declarator has an initialiser that is no list
abbrev pub have_values : InitDeclrs → Bool
have_values no_init_declrs = true
have_values (more_init_declrs attrs d asm_label attrs2 init ds) = has_value init && have_values ds

-- whether the names of a declaration have the types of their initialisers; without those, as in no well-formed unit, it
-- is one like any other
abbrev pub are_auto : SpecWords → InitDeclrs → Bool
are_auto words ds = has_auto words && have_values ds
