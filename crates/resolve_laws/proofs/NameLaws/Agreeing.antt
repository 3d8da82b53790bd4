-- The tests of trees by which tapes are defined agree with those by which names are.
use Rattle.std.proofs.Common.{◌≡◌, refl}
use Rattle.c_words.specs.declared.kinds.Keyword.{Keyword}
use Rattle.c_words.specs.declared.kinds.Keyword.TheVariants as keywords
use Rattle.c_tree.specs.Tree.{SpecWords, no_words, more_words, SpecWord, storage, thread, inline_word, noreturn, qualifier, basic, struct_type, enum_type, typedef_name, attribute, SomeBody, no_body, some_body, Declr, pointer, declr_name, declr_paren, array, params, abs_pointer, abs_paren, abs_array, abs_params, no_declr, some_declr, Params, no_params, more_params, InitDeclrs, no_init_declrs, more_init_declrs, identifiers, base_name, typeof_value, typeof_type, align, auto_word, SomeInit, no_init, some_init, init_value, init_braced}
use Rattle.type_rules.specs.Naming as names
use Rattle.type_rules.specs.Tokens as trees
use Rattle.c_tape.specs.Tests as tests

pub same_void : (word : Keyword) → tests.is_void word ≡ trees.is_void word
same_void keywords.Void = refl
same_void word = refl

pub same_kind : (word : Keyword) → tests.tag_kind word ≡ names.tag_kind word
same_kind keywords.Union = refl
same_kind word = refl

-- a specifier adds nothing to `void` by the test of tapes where it leaves `void` no parameter by the rule of types
same_bare_word : (word : SpecWord) → tests.is_bare_word word ≡ trees.leaves_void word
same_bare_word (storage word) = refl
same_bare_word (thread token) = refl
same_bare_word (inline_word token) = refl
same_bare_word (noreturn token) = refl
same_bare_word (qualifier q) = refl
same_bare_word (basic word) = same_void word.keyword
same_bare_word (struct_type word attrs tag body) = refl
same_bare_word (enum_type e) = refl
same_bare_word (typedef_name name) = refl
same_bare_word (attribute attr) = refl
same_bare_word (typeof_value keyword opening e closing) = refl
same_bare_word (typeof_type word opening ws2 d closing) = refl
same_bare_word (align attr) = refl
same_bare_word (auto_word token) = refl

same_bare : (ws : SpecWords) → tests.is_bare ws ≡ trees.leave_void ws
same_bare no_words = refl
same_bare (more_words word ws) = rw (same_bare_word word, same_bare ws)

-- a parameter list is `(void)` by the test of tapes where it is by the rule of types
pub same_none : (ps : Params) → tests.says_none ps ≡ trees.says_none ps
same_none no_params = refl
same_none (more_params ws no_declr attrs no_params) = same_bare ws
same_none (more_params ws no_declr attrs (more_params ws2 d attrs2 ps)) = refl
same_none (more_params ws (some_declr d) attrs ps) = refl

-- a declarator is no more than a name, in parentheses or not, by the test of tapes where it is by the rule of types
pub same_name : (d : Declr) → tests.is_name d ≡ trees.is_bare d
same_name (declr_name token name) = refl
same_name (declr_paren opening attrs d closing) = same_name d
same_name (pointer star words d) = refl
same_name (array d opening words size closing) = refl
same_name (params d opening ps dots closing) = refl
same_name (abs_pointer star words d) = refl
same_name (abs_paren opening attrs d closing) = refl
same_name (abs_array d opening words size closing) = refl
same_name (abs_params d opening ps dots closing) = refl
same_name (identifiers d opening names closing) = refl
same_name (base_name token) = refl

same_bodiless : (body : SomeBody) → tests.is_bodiless body ≡ names.is_bodiless body
same_bodiless no_body = refl
same_bodiless (some_body opening items closing) = refl

-- a specifier is a struct without a body, or says nothing, by the test of tapes where it is by the rule of names
same_lone_word : (word : SpecWord) → tests.is_lone_word word ≡ names.is_lone_word word
same_lone_word (storage word) = refl
same_lone_word (thread token) = refl
same_lone_word (inline_word token) = refl
same_lone_word (noreturn token) = refl
same_lone_word (qualifier q) = refl
same_lone_word (basic word) = refl
same_lone_word (struct_type word attrs tag body) = same_bodiless body
same_lone_word (enum_type e) = refl
same_lone_word (typedef_name name) = refl
same_lone_word (attribute attr) = refl
same_lone_word (typeof_value keyword opening e closing) = refl
same_lone_word (typeof_type word opening ws2 d closing) = refl
same_lone_word (align attr) = refl
same_lone_word (auto_word token) = refl

same_lone : (ws : SpecWords) → tests.is_lone ws ≡ names.is_lone ws
same_lone no_words = refl
same_lone (more_words word ws) = rw (same_lone_word word, same_lone ws)

pub same_alone : (ws : SpecWords) (ds : InitDeclrs) → tests.declares_tag ws ds ≡ names.is_tag_alone ws ds
same_alone ws no_init_declrs = same_lone ws
same_alone ws (more_init_declrs attrs d asm_label attrs2 init ds) = refl

-- an initialiser is an expression by the test of tapes where it is by the rule of types
same_value : (init : SomeInit) → tests.has_value init ≡ trees.has_value init
same_value no_init = refl
same_value (some_init equal (init_value e)) = refl
same_value (some_init equal (init_braced list)) = refl

same_values : (ds : InitDeclrs) → tests.have_values ds ≡ trees.have_values ds
same_values no_init_declrs = refl
same_values (more_init_declrs attrs d asm_label attrs2 init ds) = rw (same_value init, same_values ds)

pub same_auto : (ws : SpecWords) (ds : InitDeclrs) → tests.are_auto ws ds ≡ trees.are_auto ws ds
same_auto ws ds = rw (same_values ds)
