-- The readers of associations at a number of the knot, and how what they answer is seen.
use Rattle.std.specs.Prelude.{ℕ, List, [], ◌∷◌, map, None, Result}
use Rattle.c_tree.specs.Tree.{Assoc}
use Rattle.c_tree.specs.View.{assoc_of}
use Rattle.c_nodes.specs.declared.sized.SizedAssoc.{SizedAssoc}
use Rattle.c_nodes.specs.declared.sized.SizedAssocs.{SizedAssocs}
use Rattle.c_reading.specs.Reading.{Reader, Turn, CommaList, comma_turn, listed, run}
use Rattle.c_reading.specs.Expressing as exprs
use Rattle.c_reading.specs.Knot.{knot}
use Rattle.reader_base.specs.declared.fault.ReadError.{ReadError}
use Rattle.reader_base.specs.declared.cursor.Cursor.{Cursor}
use Rattle.reader_base.specs.Gives.{Reads}

-- an association is read as the reader of lists gives it
abbrev pub ReadsAssoc : Cursor → Cursor → Result SizedAssoc ReadError → Reader Assoc → Type 0
ReadsAssoc before after result reader = Reads (λ x. assoc_of x.assoc) before after result reader

-- associations, as the state of the loop over them
abbrev pub known_assocs : SizedAssocs → CommaList Assoc ⊥
known_assocs xs = record { items = map assoc_of xs.items.items; ending = None }

-- associations are read so, as a state of the loop over them
abbrev pub ReadsAssocList : Cursor → Cursor → Result SizedAssocs ReadError → Reader (CommaList Assoc ⊥) → Type 0
ReadsAssocList before after result reader = Reads known_assocs before after result reader

-- a further association, behind a comma
unfoldable pub assoc_turn : ℕ → ℕ → Turn (CommaList Assoc ⊥)
assoc_turn depth room known s ts = comma_turn (exprs.next_assoc (knot depth) room) known s ts

-- the associations behind the first, with that
abbrev pub behind_assoc : ℕ → SizedAssoc → ℕ → Reader (CommaList Assoc ⊥)
behind_assoc depth first room s ts =
    run (assoc_turn depth room) (record { items = assoc_of first.assoc ∷ []; ending = None }) s ts

-- all associations
abbrev pub assocs_at : ℕ → ℕ → Reader (CommaList Assoc ⊥)
assocs_at depth room s ts = listed (exprs.assoc_with (knot depth) room) (exprs.next_assoc (knot depth) room) s ts
