-- The table of words by their lengths, as the code has it.
use Rattle.std.specs.Prelude.{ℕ, suc, length, nat_eq, Bool, true, ◌&&◌, List, [], ◌∷◌, ◌++◌}
use Rattle.c_lexer.specs.declared.kinds.Listed.{Listed}

-- tables, one behind the other
abbrev pub joined : List (List (List ℕ × Listed)) → List (List ℕ × Listed)
joined [] = []
joined (table ∷ tables) = table ++ joined tables

-- whether all words of a table have a length
abbrev pub have_length : ℕ → List (List ℕ × Listed) → Bool
have_length n [] = true
have_length n (entry ∷ entries) = nat_eq (length entry.0) n && have_length n entries

-- whether tables have the words of each length, from one on
abbrev pub by_length : ℕ → List (List (List ℕ × Listed)) → Bool
by_length n [] = true
by_length n (table ∷ tables) = have_length n table && by_length (suc n) tables
