-- Small programs with a prelude, unit 0, whose words were worked out by hand: index words, and what stands before and
-- behind what they give.
use Rattle.std.specs.Prelude.{ℕ, nat_eq, Bool, true, false, ◌||◌, List, [], ◌∷◌, None, Some, is_some, if◌then◌else◌}
use Rattle.c_words.specs.declared.kinds.Keyword.TheVariants as keywords
use Rattle.c_syntax.specs.declared.parts.Qual.TheVariants as quals
use Rattle.qual_base.specs.declared.places.Owner.TheVariants.{Function}
use Rattle.lattice_core.specs.declared.Level.{Level}
use Rattle.lattice_core.specs.declared.Level.TheVariants as levels
use Rattle.lattice_core.specs.declared.Sign.{Sign}
use Rattle.lattice_core.specs.declared.Sign.TheVariants as attribute_signs
use Rattle.lattice_core.specs.declared.Deref.TheVariants as derefs
use Rattle.lattice_core.specs.declared.Entry.{Entry}
use Rattle.lattice_core.specs.View.{LatticeView}
use Rattle.flow_graph.specs.declared.constraint.Link.TheVariants.{Le, Const}
use Rattle.c_tree.specs.Tree.{qualifier, basic, no_words, more_words, pointer, declr_name, params, no_declr, some_declr, no_params, more_params, no_init, no_init_declrs, more_init_declrs, declaration, decl_declaration}
use Rattle.c_tree.specs.Unit.{Item, decl_item}
use Rattle.type_rules.specs.Program.{Source}
use Rattle.constraint_rules.specs.Systems.{Program}
use Rattle.definition_examples.specs.ConstraintExamples.Examples.{Gives, mark_among, of_entries}

-- the numbers of the word at a token
abbrev pub numbers_among : List (ℕ × List ℕ) → ℕ → List ℕ
numbers_among [] n = []
numbers_among (it ∷ words) n = if nat_eq it.0 n then it.1 else numbers_among words n

-- whether a list has a number
abbrev pub is_some_number : List ℕ → Bool
is_some_number [] = false
is_some_number (n ∷ ns) = true

-- an element without a name, `write` and `deref`
abbrev pub entry : Level → Sign → Entry
entry level sign = record { name = []; level = level; sign = sign; write = false; deref = derefs.No }

-- lattice 0 is one of references, lattice 1 one of values
abbrev pub lattices : List LatticeView
lattices = of_entries (entry levels.Ref attribute_signs.Neg ∷ entry levels.Ref attribute_signs.Pos ∷ [])
    ∷ of_entries (entry levels.Value attribute_signs.Neg ∷ entry levels.Value attribute_signs.Pos ∷ []) ∷ []

-- a prelude whose index words and annotation words stand at these tokens, and sources behind it without either
abbrev pub program : List (ℕ × List ℕ) → List (ℕ × (ℕ × ℕ)) → List Item → List Source → Program
program words marks items sources = record {
  sources = record {
    spelling = record {
      unit = 0;
      wide = false;
      annotates = λ token. is_some_number (numbers_among words token) || is_some (mark_among marks token);
      is_naught = λ token. false;
      key = λ name. name;
    };
    items = items;
  } ∷ sources;
  lattices = lattices;
  mark = λ at. if nat_eq at.0 0 then mark_among marks at.1 else None;
  index = λ at. if nat_eq at.0 0 then numbers_among words at.1 else [];
}

-- $_1_2 char *strcat($_1_2 char *d, const $_1 char *s);
--
-- The variables: 0 the name, 1 the function, 2 and 3 of d, 4 and 5 of s, 6 and 7 of the result.
abbrev pub program_1 : Program
program_1 =
    program ((0, (1 ∷ 2 ∷ [])) ∷ (5, (1 ∷ 2 ∷ [])) ∷ (11, (1 ∷ [])) ∷ []) []
    ((decl_item (decl_declaration (declaration [] (more_words (qualifier (quals.Element 0))
    (more_words (basic (record { token = 1; keyword = keywords.Char })) no_words)) (more_init_declrs []
    (pointer 2 [] (params (declr_name 3 0) 4 (more_params (more_words (qualifier (quals.Element 5)) (more_words
    (basic (record { token = 6; keyword = keywords.Char })) no_words)) (some_declr (pointer 7 [] (declr_name 8 1))) []
    (more_params (more_words (qualifier (quals.Word (record { token = 10; keyword = keywords.Const }))) (more_words
    (qualifier (quals.Element 11)) (more_words (basic (record { token = 12; keyword = keywords.Char })) no_words)))
    (some_declr (pointer 13 [] (declr_name 14 2))) [] no_params)) None 15)) None [] no_init no_init_declrs) 16))) ∷ [])
    []

-- $_1 int f($_2 $_1 char, $tainted $_2 int, $_3_2_1 ...); and, in the source, int f(char, int, ...);
--
-- The variables: 0 the name, 1 the function, 2 and 3 of the parameters, 4 of the result, 5 of the further arguments; 6
-- to 11 those of the declaration in the source.
abbrev pub program_2 : Program
program_2 =
    program ((0, (1 ∷ [])) ∷ (4, (2 ∷ [])) ∷ (5, (1 ∷ [])) ∷ (9, (2 ∷ [])) ∷ (12, (3 ∷ 2 ∷ 1 ∷ [])) ∷ [])
    ((8, (1, 1)) ∷ []) ((decl_item (decl_declaration (declaration [] (more_words (qualifier (quals.Element 0))
    (more_words (basic (record { token = 1; keyword = keywords.Int })) no_words))
    (more_init_declrs [] (params (declr_name 2 0) 3 (more_params (more_words (qualifier (quals.Element 4)) (more_words
    (qualifier (quals.Element 5)) (more_words (basic (record { token = 6; keyword = keywords.Char })) no_words)))
    no_declr [] (more_params (more_words (qualifier (quals.Element 8)) (more_words (qualifier (quals.Element 9))
    (more_words (basic (record { token = 10; keyword = keywords.Int })) no_words))) no_declr [] no_params)) (Some
    (record { comma = 11; quals = ((quals.Element 12) ∷ []); dots = 13 })) 14) None [] no_init no_init_declrs) 15)))
    ∷ []) (record {
      spelling =
          record { unit = 1; wide = false; annotates = λ token. false; is_naught = λ token. false; key = λ name. name };
      items = (decl_item (decl_declaration (declaration [] (more_words
          (basic (record { token = 0; keyword = keywords.Int })) no_words)
          (more_init_declrs [] (params (declr_name 1 0) 2
          (more_params (more_words (basic (record { token = 3; keyword = keywords.Char })) no_words) no_declr []
          (more_params (more_words (basic (record { token = 5; keyword = keywords.Int })) no_words) no_declr
          [] no_params))
          (Some (record { comma = 6; quals = []; dots = 7 })) 8) None [] no_init no_init_declrs) 9))) ∷ [];
    } ∷ [])

-- Index words stand for the lattice of values alone: its bit is 2, and 3 those of both lattices.
abbrev pub IndexWordsHold : Type 0
IndexWordsHold =
    Gives program_1 (((Le 3 7), (2, 5)) ∷ ((Le 5 3), (2, 11)) ∷ ((Le 5 7), (2, 11)) ∷ ((Le 7 3), (2, 0)) ∷ []) []
    ((Function 0) ∷ (Function 0) ∷ (Function 0) ∷ (Function 0) ∷ (Function 0) ∷ (Function 0) ∷ (Function 0)
    ∷ (Function 0) ∷ [])
    × Gives program_2 (((Const 1 1 3), (2, 8)) ∷ ((Le 2 5), (2, 4)) ∷ ((Le 3 2), (2, 9)) ∷ ((Le 3 5), (2, 9))
    ∷ ((Le 4 2), (2, 0)) ∷ ((Le 4 5), (2, 0)) ∷ ((Le 0 6), (3, 1)) ∷ ((Le 6 0), (3, 1)) ∷ ((Le 1 7), (3, 1))
    ∷ ((Le 7 1), (3, 1)) ∷ ((Le 2 8), (3, 1)) ∷ ((Le 8 2), (3, 1)) ∷ ((Le 3 9), (3, 1)) ∷ ((Le 9 3), (3, 1))
    ∷ ((Le 4 10), (3, 1)) ∷ ((Le 10 4), (3, 1)) ∷ ((Le 5 11), (3, 1)) ∷ ((Le 11 5), (3, 1)) ∷ []) []
    ((Function 0) ∷ (Function 0) ∷ (Function 0) ∷ (Function 0) ∷ (Function 0) ∷ (Function 0) ∷ (Function 0)
    ∷ (Function 0) ∷ (Function 0) ∷ (Function 0) ∷ (Function 0) ∷ (Function 0) ∷ [])
