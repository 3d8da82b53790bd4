-- What the index words of a type give, node by node.
use Rattle.std.specs.Prelude.{◌≡◌, ℕ, List, [], ◌∷◌, ◌++◌, All, if◌then◌else◌}
use Rattle.flow_graph.specs.declared.constraint.Link.TheVariants.{Le}
use Rattle.flow_graph.specs.declared.constraint.Constraint.{Constraint}
use Rattle.type_table.specs.Types.{Words, CType, CTypes, base, void, struct, pointer, function, words_or_none}
use Rattle.qual_types.specs.Skel.{Skel, Skels}
use Rattle.qual_types.specs.Table.{IsVar}
use Rattle.name_rules.specs.Spellings.{Place}
use Rattle.row_rules.specs.Worlds.{World, constraint, word_span}
use Rattle.row_rules.specs.Annotations.{further, inner, inserted, outcome, parameters}
use Rattle.row_rules.specs.Indexing.{Indexed, has_some, indexed, indexed_params, is_below, some_indexed_at}
use Rattle.row_world.specs.declared.known.Known.{Known}
use Rattle.row_world.specs.Shown.{Shows}
use Rattle.row_adding.specs.declared.indexed.IndexedNode.{IndexedNode}

-- a node with index words, with its set as a list
abbrev pub indexed_of : IndexedNode → Indexed
indexed_of it = record { variable = it.var; word = it.word; set = it.set.items }

-- the variables of nodes are numbers that variables may have
abbrev pub AreVars : List IndexedNode → Type 0
AreVars nodes = All (λ it. IsVar it.var) nodes

-- the nodes of each world that is shown stand behind those that there were
abbrev pub Gains : Known → List Indexed → List Indexed → (World → List Indexed) → Type 0
Gains known old new nodes = (w : World) → Shows known w → new ≡ old ++ nodes w

-- a word, put into sorted ones where it is an index word
abbrev pub index_inserted : World → Place → Words → Words
index_inserted w p sorted = if has_some (w.index p) then inserted p sorted else sorted

-- the other constructors of a type with index words
abbrev pub indexed_inside : World → CType → Skel → List Indexed
indexed_inside w (base ws) s = []
indexed_inside w (void ws) s = []
indexed_inside w (struct ws n) s = []
indexed_inside w (pointer ws t) s = indexed w t (inner s)
indexed_inside w (function ws ps r e) s = indexed_params w ps (parameters s)
    ++ (indexed w r (outcome s) ++ some_indexed_at w (further s) (words_or_none e))

-- the nodes of a parameter and of those behind it
abbrev pub both_indexed : World → CType → CTypes → Skel → Skels → List Indexed
both_indexed w t ts s ss = indexed w t s ++ indexed_params w ts ss

-- the nodes of a function's parameters, of its result and of its further arguments
abbrev pub function_indexed : World → CTypes → CType → Words → Skel → List Indexed
function_indexed w ps r es s =
    indexed_params w ps (parameters s) ++ (indexed w r (outcome s) ++ some_indexed_at w (further s) es)

-- what one node gives with another, in some lattices
abbrev pub below_one : ℕ → Indexed → Indexed → List Constraint
below_one lattices it other =
    if is_below it other then constraint lattices (word_span it.word) (Le it.variable other.variable) ∷ [] else []

-- what one node gives with each of some, in some lattices
abbrev pub below_in : ℕ → Indexed → List Indexed → List Constraint
below_in lattices it [] = []
below_in lattices it (other ∷ others) = below_one lattices it other ++ below_in lattices it others

-- what each of the first nodes gives with each of all, in some lattices
abbrev pub all_below_in : ℕ → List Indexed → List Indexed → List Constraint
all_below_in lattices [] all = []
all_below_in lattices (it ∷ its) all = below_in lattices it all ++ all_below_in lattices its all
