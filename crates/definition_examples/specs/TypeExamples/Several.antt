-- Small programs of several sources, each with what was worked out for it by hand: what is linked with what, where a
-- body is a second one, and what a source sees of the prelude and of the sources before it. Names have one number in
-- all units.
use Rattle.std.specs.Prelude.{◌≡◌, ℕ, false, List, [], ◌∷◌, Option, None, Some}
use Rattle.c_words.specs.declared.kinds.Keyword.{Keyword}
use Rattle.c_words.specs.declared.kinds.Keyword.TheVariants as keywords
use Rattle.c_tree.specs.Tree.{SpecWords, no_words, more_words, storage, inline_word, basic, struct_type, SpecWord, some_body, no_struct_items, more_struct_items, member, no_mem_declrs, more_mem_declrs, named, no_value, Declr, declr_name, params, no_declr, no_params, more_params, init_value, SomeInit, no_init, some_init, no_init_declrs, more_init_declrs, declaration, decl_declaration, no_block_items, name_use}
use Rattle.c_tree.specs.Unit.{Item, function_item, decl_item}
use Rattle.c_syntax.specs.declared.parts.Identifier.{Identifier}
use Rattle.name_rules.specs.Spellings.{Place}
use Rattle.name_rules.specs.Faults.{Fault, undeclared, defined_twice}
use Rattle.name_rules.specs.Linking.{link_of}
use Rattle.name_rules.specs.Scopes.{Declared, declared_at}
use Rattle.type_rules.specs.Program.{Source, names_of, faults_of}

-- a unit of these items, without annotation words and zeros
abbrev pub unit_of : ℕ → List Item → Source
unit_of unit items =
    record {
      spelling = record {
        unit = unit;
        wide = false;
        annotates = λ token. false;
        is_naught = λ token. false;
        key = λ name. name;
      };
      items = items;
    }

-- `int`, behind one other word or none
abbrev pub int_words : SpecWords
int_words = more_words (basic (record { token = 0; keyword = keywords.Int })) no_words

-- a storage word before other words
abbrev pub behind_storage : Keyword → SpecWords → SpecWords
behind_storage keyword ws = more_words (storage (record { token = 0; keyword = keyword })) ws

-- `inline` before other words
abbrev pub behind_inline : SpecWords → SpecWords
behind_inline ws = more_words (inline_word 0) ws

-- a declaration with these words of one name
abbrev pub declares : SpecWords → Declr → SomeInit → Item
declares ws d init =
    decl_item (decl_declaration (declaration [] ws (more_init_declrs [] d None [] init no_init_declrs) 20))

-- a declaration with these words alone
abbrev pub stands_alone : SpecWords → Item
stands_alone ws = decl_item (decl_declaration (declaration [] ws no_init_declrs 20))

-- `x(void)`
abbrev pub of_void : ℕ → ℕ → Declr
of_void token name =
    params (declr_name token name) 10
    (more_params (more_words (basic (record { token = 11; keyword = keywords.Void })) no_words) no_declr
    [] no_params) None 12

-- a function of these words with an empty body
abbrev pub defines : SpecWords → ℕ → ℕ → Item
defines ws token name = function_item [] ws (of_void token name) [] 13 no_block_items 14

-- a struct or union with one `int` member
abbrev pub with_member : Keyword → Option Identifier → ℕ → ℕ → SpecWord
with_member keyword tag token name =
    struct_type (record { token = 1; keyword = keyword }) [] tag (some_body 3 (more_struct_items (member [] int_words
    (more_mem_declrs [] (named (declr_name token name) no_value []) no_mem_declrs) 5) no_struct_items) 6)

-- a tag of this name
abbrev pub tag_named : ℕ → Option Identifier
tag_named name = Some (record { token = 2; name = name })

-- where what was first declared at a place in its unit was first declared in all of these sources
abbrev pub link : List Source → Place → Place
link sources p = link_of (names_of sources) p

-- where what is declared was first declared, if something is
abbrev pub first_at : Option Declared → Option Place
first_at None = None
first_at (Some d) = Some d.first

-- where what a declaration is of was first declared
abbrev pub first : List Source → Place → Option Place
first sources p = first_at (declared_at (names_of sources).declared p)

-- a second body at this token
abbrev pub fault : ℕ → ℕ → Fault
fault unit token = record { at = (unit, token); rule = defined_twice }

-- `int x;` and `extern int x;` are one object
abbrev pub External : Type 0
External =
    let sources = unit_of 1 (declares int_words (declr_name 1 7) no_init ∷ [])
    ∷ unit_of 2 (declares (behind_storage keywords.Extern int_words) (declr_name 2 7) no_init ∷ []) ∷ [] in
    (faults_of sources ≡ []) × (link sources (2, 2) ≡ (1, 1)) × (link sources (1, 1) ≡ (1, 1))
    × (first sources (2, 2) ≡ Some (2, 2))

-- `static int x;`, `int x;` and `extern int x;`: the first source has one of its own
abbrev pub Static : Type 0
Static =
    let sources = unit_of 1 (declares (behind_storage keywords.Static int_words) (declr_name 2 7) no_init ∷ [])
    ∷ unit_of 2 (declares int_words (declr_name 1 7) no_init ∷ [])
    ∷ unit_of 3 (declares (behind_storage keywords.Extern int_words) (declr_name 2 7) no_init ∷ []) ∷ [] in
    (faults_of sources ≡ []) × (link sources (1, 2) ≡ (1, 2)) × (link sources (2, 1) ≡ (2, 1))
    × (link sources (3, 2) ≡ (2, 1))

-- `static int f(void); int f(void);` and `int f(void);`: a declaration with `static` makes each further one of its
-- source internal
abbrev pub StaticFirst : Type 0
StaticFirst =
    let sources = unit_of 1 (declares (behind_storage keywords.Static int_words) (of_void 2 7) no_init
    ∷ declares int_words (of_void 8 7) no_init ∷ [])
    ∷ unit_of 2 (declares int_words (of_void 1 7) no_init ∷ []) ∷ [] in
    (faults_of sources ≡ []) × (first sources (1, 8) ≡ Some (1, 2)) × (link sources (2, 1) ≡ (2, 1))

-- `int f(void) { }` three times: the second and the third body are faults
abbrev pub Twice : Type 0
Twice =
    let sources = unit_of 1 (defines int_words 1 7 ∷ []) ∷ unit_of 2 (defines int_words 1 7 ∷ [])
    ∷ unit_of 3 (defines int_words 1 7 ∷ []) ∷ [] in
    faults_of sources ≡ fault 2 1 ∷ fault 3 1 ∷ []

-- of bodies with `static`, without a word, with `inline` and without a word again the last is a fault
abbrev pub TwiceBeside : Type 0
TwiceBeside =
    let sources = unit_of 1 (defines (behind_storage keywords.Static int_words) 2 7 ∷ [])
    ∷ unit_of 2 (defines int_words 1 7 ∷ []) ∷ unit_of 3 (defines (behind_inline int_words) 2 7 ∷ [])
    ∷ unit_of 4 (defines int_words 1 7 ∷ []) ∷ [] in
    faults_of sources ≡ fault 4 1 ∷ []

-- a prelude's `int f(void);` is declared first for both of two sources, and what the first source declares is unseen in
-- the second:
-- `int f(void); int x;` and `int f(void); int y = x;`
abbrev pub Prelude : Type 0
Prelude =
    let sources = unit_of 0 (declares int_words (of_void 1 7) no_init ∷ [])
    ∷ unit_of 1 (declares int_words (of_void 1 7) no_init ∷ declares int_words (declr_name 16 8) no_init ∷ [])
    ∷ unit_of 2 (declares int_words (of_void 1 7) no_init
    ∷ declares int_words (declr_name 16 9) (some_init 17 (init_value (name_use 18 8))) ∷ []) ∷ [] in
    (faults_of sources ≡ record { at = (2, 18); rule = undeclared } ∷ [])
    × (first sources (1, 1) ≡ Some (0, 1)) × (first sources (2, 1) ≡ Some (0, 1)) × (link sources (0, 1) ≡ (0, 1))

-- `struct s { int a; };` twice, and `union s { int a; };`
abbrev pub Tagged : Type 0
Tagged =
    let sources = unit_of 1 (stands_alone (more_words (with_member keywords.Struct (tag_named 7) 4 8) no_words) ∷ [])
    ∷ unit_of 2 (stands_alone (more_words (with_member keywords.Struct (tag_named 7) 4 8) no_words) ∷ [])
    ∷ unit_of 3 (stands_alone (more_words (with_member keywords.Union (tag_named 7) 4 8) no_words) ∷ []) ∷ [] in
    (faults_of sources ≡ []) × (link sources (1, 4) ≡ (1, 4)) × (link sources (2, 4) ≡ (1, 4))
    × (link sources (3, 4) ≡ (3, 4))

-- `struct T { int a; };`, and `typedef struct { int a; } T;` twice
abbrev pub Untagged : Type 0
Untagged =
    let sources = unit_of 1 (stands_alone (more_words (with_member keywords.Struct (tag_named 7) 4 8) no_words) ∷ [])
    ∷ unit_of 2 (declares (behind_storage keywords.Typedef (more_words (with_member keywords.Struct None 4 8) no_words))
    (declr_name 7 7) no_init ∷ [])
    ∷ unit_of 3 (declares (behind_storage keywords.Typedef (more_words (with_member keywords.Struct None 4 8) no_words))
    (declr_name 7 7) no_init ∷ []) ∷ [] in
    (faults_of sources ≡ []) × (link sources (1, 4) ≡ (1, 4)) × (link sources (2, 4) ≡ (2, 4))
    × (link sources (3, 4) ≡ (2, 4))

-- `typedef struct { int a; } T, U;` and `typedef struct { int a; } U;`: the first name is what a struct is known by
abbrev pub FirstName : Type 0
FirstName =
    let sources = unit_of 1 (decl_item (decl_declaration (declaration []
    (behind_storage keywords.Typedef (more_words (with_member keywords.Struct None 4 8) no_words))
    (more_init_declrs [] (declr_name 7 7) None [] no_init
    (more_init_declrs [] (declr_name 9 9) None [] no_init no_init_declrs)) 20)) ∷ [])
    ∷ unit_of 2 (declares (behind_storage keywords.Typedef (more_words (with_member keywords.Struct None 4 8) no_words))
    (declr_name 7 9) no_init ∷ []) ∷ [] in
    (faults_of sources ≡ []) × (link sources (2, 4) ≡ (2, 4))

-- all programs are as was worked out for them
abbrev pub SeveralHold : Type 0
SeveralHold =
    External × Static × StaticFirst × Twice × TwiceBeside × Prelude × Tagged × Untagged × FirstName
