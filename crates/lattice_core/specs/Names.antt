-- All names of lattices, with what each means: a lattice and an element of it, each by its number.
use Rattle.std.specs.Prelude.{ℕ, suc, List, [], ◌∷◌, ◌++◌}
use Rattle.lattice_core.specs.declared.Entry.{Entry}
use Rattle.lattice_core.specs.View.{LatticeView}

-- the names of one lattice's entries, the first of which has number n
abbrev pub entry_words : ℕ → ℕ → List Entry → List (List ℕ × (ℕ × ℕ))
entry_words lattice n [] = []
entry_words lattice n (entry ∷ entries) = (entry.name, (lattice, n)) ∷ entry_words lattice (suc n) entries

-- the names of lattices, the first of which has number n
abbrev pub words_from : ℕ → List LatticeView → List (List ℕ × (ℕ × ℕ))
words_from n [] = []
words_from n (lattice ∷ lattices) = entry_words n 0 lattice.entries ++ words_from (suc n) lattices

-- the names of all lattices, each with the numbers of its lattice and element
abbrev pub words_of : List LatticeView → List (List ℕ × (ℕ × ℕ))
words_of = words_from 0
