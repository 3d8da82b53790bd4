-- The text of a certificate: for each lattice the sets of the variables, and the pairs, in the order of their names.
use Rattle.std.specs.Prelude.{ℕ, ◌+◌, ◌/◌, ◌%◌, ◌==◌, List, [], ◌∷◌, ◌++◌, map, slice_index, codes, if◌then◌else◌}
use Rattle.std.specs.Fmt.{decimal}
use Rattle.flow_graph.specs.System.{System}
use Rattle.closure_check.specs.declared.part.Part.{Part}
use Rattle.closure_check.specs.Parts.{is_among}
use Rattle.certificate_text.specs.declared.putting.SetLine.{SetLine}
use Rattle.certificate_text.specs.Names.{Named, names_in}

-- the lines of a lattice; a pair is that of two names
pub record Written : Type 0 where
  pub sets : List SetLine
  pub pairs : List (ℕ × ℕ)

-- the set line of a variable whose second set is not empty
abbrev pub set_of : Part → Named → List SetLine
set_of part x =
    if slice_index part.second.items x.var == 0 then []
    else
    record { name = x.name; first = slice_index part.first.items x.var; second = slice_index part.second.items x.var }
    ∷ []

-- the set lines of variables
abbrev pub sets_of : Part → List Named → List SetLine
sets_of part [] = []
sets_of part (x ∷ names) = set_of part x ++ sets_of part names

-- the pair of two variables, by their names, where it is one of these
abbrev pub pair_of : List (ℕ × ℕ) → Named → Named → List (ℕ × ℕ)
pair_of pairs x y = if is_among pairs x.var y.var then (x.name, y.name) ∷ [] else []

-- the pairs of one variable with others
abbrev pub pairs_with : List (ℕ × ℕ) → Named → List Named → List (ℕ × ℕ)
pairs_with pairs x [] = []
pairs_with pairs x (y ∷ names) = pair_of pairs x y ++ pairs_with pairs x names

-- the pairs of variables with others
abbrev pub pairs_of : List (ℕ × ℕ) → List Named → List Named → List (ℕ × ℕ)
pairs_of pairs [] others = []
pairs_of pairs (x ∷ names) others = pairs_with pairs x others ++ pairs_of pairs names others

-- what is written of a certificate
abbrev pub written : System → Part → Written
written sys part =
    record { sets = sets_of part (names_in sys); pairs = pairs_of part.pairs.items (names_in sys) (names_in sys) }

-- the bytes of a line, with its line feed
abbrev pub line : List ℕ → List ℕ
line bytes = bytes ++ 10 ∷ []

-- end 2 n is `na`, and end 2 n + 1 is `nb`
abbrev pub letter : ℕ → List ℕ
letter name = if name % 2 == 0 then codes "a" else codes "b"

-- the text of an end
abbrev pub name_text : ℕ → List ℕ
name_text name = decimal (name / 2) ++ letter name

-- the line of the two sets of a variable
abbrev pub set_text : SetLine → List ℕ
set_text it =
    line (codes "  set " ++ name_text it.name ++ codes " " ++ decimal it.first ++ codes " " ++ decimal it.second)

-- the lines of sets
abbrev pub sets_text : List SetLine → List ℕ
sets_text [] = []
sets_text (it ∷ sets) = set_text it ++ sets_text sets

-- the line of a pair
abbrev pub pair_text : ℕ × ℕ → List ℕ
pair_text pair = line (codes "  pair " ++ name_text pair.0 ++ codes " " ++ name_text pair.1)

-- the lines of pairs
abbrev pub pairs_text : List (ℕ × ℕ) → List ℕ
pairs_text [] = []
pairs_text (pair ∷ pairs) = pair_text pair ++ pairs_text pairs

-- the line before the sets and pairs of a lattice
abbrev pub lattice_text : ℕ → List ℕ
lattice_text number = line (codes "lattice " ++ decimal number)

-- the lines of a lattice
abbrev pub part_text : ℕ → Written → List ℕ
part_text number part = lattice_text number ++ sets_text part.sets ++ pairs_text part.pairs

-- lattices from a number on
abbrev pub parts_text : ℕ → List Written → List ℕ
parts_text number [] = []
parts_text number (part ∷ parts) = part_text number part ++ parts_text (number + 1) parts

-- the text of a whole certificate
abbrev pub text_of : List Written → List ℕ
text_of parts = line (codes "certificate") ++ parts_text 1 parts

-- the text of the certificates of all lattices
abbrev pub certificate_text : System → List Part → List ℕ
certificate_text sys parts = text_of (map (λ part. written sys part) parts)
