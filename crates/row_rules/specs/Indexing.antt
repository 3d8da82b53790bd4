-- What the index words of a prelude give: what is marked with a set of numbers flows into each other node of its
-- declaration whose set contains that one.
use Rattle.std.specs.Prelude.{ℕ, suc, ◌+◌, ◌^◌, nat_eq, Bool, true, false, ◌&&◌, ◌||◌, List, [], ◌∷◌, ◌++◌, slice_get, Option, None, Some, if◌then◌else◌}
use Rattle.lattice_core.specs.View.{LatticeView}
use Rattle.flow_graph.specs.declared.constraint.Link.TheVariants.{Le}
use Rattle.flow_graph.specs.declared.constraint.Constraint.{Constraint}
use Rattle.type_table.specs.Types.{Words, CType, base, void, struct, pointer, function, CTypes, no_types, more_types, words_or_none}
use Rattle.qual_types.specs.Skel.{Skel, Skels, no_skels, more_skels, root}
use Rattle.name_rules.specs.Spellings.{Place}
use Rattle.row_rules.specs.Annotations.{further, inner, is_reference_entry, outcome, parameters, sorted}
use Rattle.row_rules.specs.Worlds.{World, constraint, word_span}

-- sets of numbers

-- whether a number is among some
abbrev pub has_number : ℕ → List ℕ → Bool
has_number n [] = false
has_number n (m ∷ ms) = nat_eq n m || has_number n ms

-- each number of the first is one of the second
abbrev pub is_within : List ℕ → List ℕ → Bool
is_within [] ms = true
is_within (n ∷ ns) ms = has_number n ms && is_within ns ms

-- A node with index words: its variable, the first of the words, and the union of their sets.
pub record Indexed : Type 0 where
  pub variable : ℕ
  pub word : Place
  pub set : List ℕ

-- whether a word has numbers, as an index word does
abbrev pub has_some : List ℕ → Bool
has_some [] = false
has_some (n ∷ ns) = true

-- the index words among some words
abbrev pub index_words : World → Words → Words
index_words w [] = []
index_words w (p ∷ ps) = if has_some (w.index p) then p ∷ index_words w ps else index_words w ps

-- the numbers of all these words
abbrev pub union_of : World → Words → List ℕ
union_of w [] = []
union_of w (p ∷ ps) = w.index p ++ union_of w ps

-- a node, by its index words in the order of the text
abbrev pub indexed_by : World → ℕ → Words → List Indexed
indexed_by w v [] = []
indexed_by w v (p ∷ ps) = record { variable = v; word = p; set = union_of w (p ∷ ps) } ∷ []

-- a node with these words, where some of them are index words
abbrev pub indexed_at : World → ℕ → Words → List Indexed
indexed_at w v ps = indexed_by w v (sorted (index_words w ps))

-- the variable of an ellipsis with these words, where there is one and some of them are index words
abbrev pub some_indexed_at : World → Option ℕ → Words → List Indexed
some_indexed_at w None ps = []
some_indexed_at w (Some v) ps = indexed_at w v ps

-- The nodes of a skeleton with index words, in pre-order: each word marks the constructor that it is written on, and
-- those before an ellipsis its variable.
abbrev mutual
  -- the index words of a type, each with the variable that it is written on
  pub indexed : World → CType → Skel → List Indexed
  indexed w (base ws) s = indexed_at w (root s) ws
  indexed w (void ws) s = indexed_at w (root s) ws
  indexed w (struct ws n) s = indexed_at w (root s) ws
  indexed w (pointer ws t) s = indexed_at w (root s) ws ++ indexed w t (inner s)
  indexed w (function ws ps r e) s =
      indexed_at w (root s) ws
      ++ (indexed_params w ps (parameters s)
      ++ (indexed w r (outcome s) ++ some_indexed_at w (further s) (words_or_none e)))

  -- those of parameters
  pub indexed_params : World → CTypes → Skels → List Indexed
  indexed_params w no_types ss = []
  indexed_params w (more_types t ts) no_skels = []
  indexed_params w (more_types t ts) (more_skels s ss) = indexed w t s ++ indexed_params w ts ss

-- whether a lattice is one of values, as its first element is
abbrev pub is_value_lattice : LatticeView → Bool
is_value_lattice view = if is_reference_entry (slice_get view.entries 0) then false else true

-- of lattices with the numbers from n on those of values, a bit for each
abbrev pub value_lattices_from : ℕ → List LatticeView → ℕ
value_lattices_from n [] = 0
value_lattices_from n (view ∷ views) = (if is_value_lattice view then 2 ^ n else 0) + value_lattices_from (suc n) views

-- all lattices of values, a bit for each
abbrev pub value_lattices : World → ℕ
value_lattices w = value_lattices_from 0 w.lattices

-- one node is not the other, and its set is within that of the other
abbrev pub is_below : Indexed → Indexed → Bool
is_below one other = (if nat_eq one.variable other.variable then false else true) && is_within one.set other.set

-- a node flows into each of these whose set contains its own
abbrev pub below_each : World → Indexed → List Indexed → List Constraint
below_each w it [] = []
below_each w it (other ∷ others) =
    (if is_below it other
    then constraint (value_lattices w) (word_span it.word) (Le it.variable other.variable) ∷ [] else [])
    ++ below_each w it others

-- each of the first nodes flows into each of all that contain it
abbrev pub below_all : World → List Indexed → List Indexed → List Constraint
below_all w [] all = []
below_all w (it ∷ its) all = below_each w it all ++ below_all w its all

-- what the index words of a type give for a skeleton of it
abbrev pub indexing : World → CType → Skel → List Constraint
indexing w t s = below_all w (indexed w t s) (indexed w t s)
