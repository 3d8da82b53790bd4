-- Small programs of several sources with the whole list of their constraints, their call sites and the owners of their
-- variables, worked out by hand: what passes between sources does so where one declaration is tied to the first one
-- that it is linked with.
use Rattle.std.specs.Prelude.{ℕ, suc, nat_eq, false, ◌&&◌, List, [], ◌∷◌, Option, None, Some, if◌then◌else◌, is_some}
use Rattle.c_words.specs.declared.kinds.Keyword.{Keyword}
use Rattle.c_words.specs.declared.kinds.Keyword.TheVariants as keywords
use Rattle.c_syntax.specs.declared.parts.Qual.TheVariants as quals
use Rattle.qual_base.specs.declared.places.Owner.TheVariants.{Nobody, Function}
use Rattle.flow_graph.specs.declared.constraint.Link.TheVariants.{Le, Const, Bound, Enter, Leave}
use Rattle.c_tree.specs.Tree.{SpecWords, no_words, more_words, storage, qualifier, basic, struct_type, some_body, no_struct_items, more_struct_items, member, no_mem_declrs, more_mem_declrs, named, no_value, Declr, declr_name, params, no_declr, some_declr, SomeDeclr, no_params, more_params, init_value, SomeInit, no_init, some_init, no_init_declrs, more_init_declrs, declaration, decl_declaration, no_block_items, more_block_items, block_stmt, return_stmt, some_expr, call, no_exprs, more_exprs, name_use, number_use}
use Rattle.c_tree.specs.Unit.{Item, function_item, decl_item}
use Rattle.type_rules.specs.Program.{Source}
use Rattle.constraint_rules.specs.Systems.{Program}
use Rattle.definition_examples.specs.ConstraintExamples.Examples.{lattices_1, Gives}

-- annotation words by units and tokens, each with its lattice and element
abbrev pub Marks : Type 0
Marks = List ((ℕ × ℕ) × (ℕ × ℕ))

-- the lattice and the element of the word at a place, where one stands
abbrev pub mark_at : Marks → ℕ × ℕ → Option (ℕ × ℕ)
mark_at [] p = None
mark_at (it ∷ marks) p = if nat_eq it.0.0 p.0 && nat_eq it.0.1 p.1 then Some it.1 else mark_at marks p

-- a source of these items; a name has one number in all units
abbrev pub source_of : Marks → ℕ → List Item → Source
source_of marks unit items =
    record {
      spelling = record {
        unit = unit;
        wide = false;
        annotates = λ token. is_some (mark_at marks (unit, token));
        is_naught = λ token. false;
        key = λ name. name;
      };
      items = items;
    }

-- units from this number on
abbrev pub sources_from : Marks → ℕ → List (List Item) → List Source
sources_from marks unit [] = []
sources_from marks unit (items ∷ others) = source_of marks unit items ∷ sources_from marks (suc unit) others

-- a program of these units, whose annotation words stand at these places
abbrev pub program_of : Marks → List (List Item) → Program
program_of marks units =
    record { sources = sources_from marks 1 units; lattices = lattices_1; mark = mark_at marks; index = λ at. [] }

-- `int` at this token
abbrev pub int_at : ℕ → SpecWords
int_at token = more_words (basic (record { token = token; keyword = keywords.Int })) no_words

-- a storage word before other words
abbrev pub behind_word : Keyword → SpecWords → SpecWords
behind_word keyword ws = more_words (storage (record { token = 0; keyword = keyword })) ws

-- an annotation word at this token before other words
abbrev pub behind_mark : ℕ → SpecWords → SpecWords
behind_mark token ws = more_words (qualifier (quals.Element token)) ws

-- a declaration with these words of one name
abbrev pub declares : SpecWords → Declr → SomeInit → Item
declares ws d init =
    decl_item (decl_declaration (declaration [] ws (more_init_declrs [] d None [] init no_init_declrs) 30))

-- a name at a token that takes an `int`
abbrev pub takes_int : ℕ → ℕ → SomeDeclr → Declr
takes_int token name own =
    params (declr_name token name) 20 (more_params (int_at 21) own [] no_params) None 22

-- `id(int x) { return x; }`, with `id` at this token, `x` at 4 and 8 and `return` at 7
abbrev pub identity : SpecWords → ℕ → Item
identity ws token =
    function_item [] ws (takes_int token 1 (some_declr (declr_name 4 2))) [] 23
    (more_block_items (block_stmt (return_stmt 7 (some_expr (name_use 8 2)) 9)) no_block_items) 24

-- `int id(int); int y = id(1);`, with `id` at the tokens 1 and 9, `y` at 7 and `1` at 11
abbrev pub uses_identity : List Item
uses_identity =
    declares (int_at 0) (takes_int 1 1 no_declr) no_init
    ∷ declares (int_at 6) (declr_name 7 3)
    (some_init 8 (init_value (call (name_use 9 1) 10 (more_exprs (number_use 11) no_exprs) 12))) ∷ []

-- a struct or union `s` with the member `a` at token 4
abbrev pub with_member : Keyword → SpecWords → Item
with_member keyword ws =
    decl_item
    (decl_declaration
    (declaration []
    (more_words
    (struct_type (record { token = 0; keyword = keyword }) [] (Some (record { token = 1; name = 1 }))
    (some_body 2
    (more_struct_items (member [] ws (more_mem_declrs [] (named (declr_name 4 2) no_value []) no_mem_declrs) 5)
    no_struct_items) 6))
    no_words)
    no_init_declrs 7))

-- `$tainted int x;` and `extern $untainted int x;`
abbrev pub one_object : Program
one_object =
    program_of (((1, 0), (0, 1)) ∷ ((2, 1), (0, 0)) ∷ [])
    ((declares (behind_mark 0 (int_at 1)) (declr_name 2 1) no_init ∷ [])
    ∷ (declares (behind_word keywords.Extern (behind_mark 1 (int_at 2))) (declr_name 3 1) no_init ∷ []) ∷ [])

-- `int id(int x) { return x; }` and `int id(int); int y = id(1);`
abbrev pub one_function : Program
one_function = program_of [] ((identity (int_at 0) 1 ∷ []) ∷ uses_identity ∷ [])

-- `static int id(int x) { return x; }` and `int id(int); int y = id(1);`
abbrev pub two_functions : Program
two_functions = program_of [] ((identity (behind_word keywords.Static (int_at 1)) 2 ∷ []) ∷ uses_identity ∷ [])

-- `struct s { $tainted int a; };`, `struct s { int a; };` and `union s { int a; };`
abbrev pub one_struct : Program
one_struct =
    program_of (((1, 3), (0, 1)) ∷ [])
    ((with_member keywords.Struct (behind_mark 3 (int_at 8)) ∷ []) ∷ (with_member keywords.Struct (int_at 3) ∷ [])
    ∷ (with_member keywords.Union (int_at 3) ∷ []) ∷ [])

-- each program gives what was worked out for it
abbrev pub SeveralHold : Type 0
SeveralHold =
    Gives one_object
    (((Const 0 1 1), (1, 0)) ∷ ((Bound 3 0 0), (1, 1)) ∷ ((Le 0 2), (1, 3)) ∷ ((Le 2 0), (1, 3)) ∷ ((Le 1 3), (1, 3))
    ∷ ((Le 3 1), (1, 3)) ∷ [])
    [] (Nobody ∷ Nobody ∷ Nobody ∷ Nobody ∷ [])
    × Gives one_function
    (((Le 2 5), (1, 4)) ∷ ((Le 5 3), (1, 7))
    ∷ ((Le 0 6), (1, 1)) ∷ ((Le 6 0), (1, 1)) ∷ ((Le 1 7), (1, 1)) ∷ ((Le 7 1), (1, 1)) ∷ ((Le 2 8), (1, 1))
    ∷ ((Le 8 2), (1, 1)) ∷ ((Le 3 9), (1, 1)) ∷ ((Le 9 3), (1, 1))
    ∷ ((Leave 0 6 12), (1, 9)) ∷ ((Leave 0 7 13), (1, 9)) ∷ ((Enter 0 14 8), (1, 9)) ∷ ((Leave 0 9 15), (1, 9))
    ∷ ((Le 16 14), (1, 11)) ∷ ((Le 15 11), (1, 9)) ∷ [])
    ((record { unit = 2; token = 9; target = 0; owner = Nobody }) ∷ [])
    (Function 0 ∷ Function 0 ∷ Function 0 ∷ Function 0 ∷ Function 0 ∷ Function 0 ∷ Function 0 ∷ Function 0 ∷ Function 0
    ∷ Function 0 ∷ Nobody ∷ Nobody ∷ Nobody ∷ Nobody ∷ Nobody ∷ Nobody ∷ Nobody ∷ [])
    × Gives two_functions
    (((Le 2 5), (1, 4)) ∷ ((Le 5 3), (1, 7))
    ∷ ((Leave 0 6 12), (1, 9)) ∷ ((Leave 0 7 13), (1, 9)) ∷ ((Enter 0 14 8), (1, 9)) ∷ ((Leave 0 9 15), (1, 9))
    ∷ ((Le 16 14), (1, 11)) ∷ ((Le 15 11), (1, 9)) ∷ [])
    ((record { unit = 2; token = 9; target = 1; owner = Nobody }) ∷ [])
    (Function 0 ∷ Function 0 ∷ Function 0 ∷ Function 0 ∷ Function 0 ∷ Function 0 ∷ Function 1 ∷ Function 1 ∷ Function 1
    ∷ Function 1 ∷ Nobody ∷ Nobody ∷ Nobody ∷ Nobody ∷ Nobody ∷ Nobody ∷ Nobody ∷ [])
    × Gives one_struct
    (((Const 0 1 1), (1, 3)) ∷ ((Le 0 2), (1, 4)) ∷ ((Le 2 0), (1, 4)) ∷ ((Le 1 3), (1, 4)) ∷ ((Le 3 1), (1, 4)) ∷ [])
    [] (Nobody ∷ Nobody ∷ Nobody ∷ Nobody ∷ Nobody ∷ Nobody ∷ [])
