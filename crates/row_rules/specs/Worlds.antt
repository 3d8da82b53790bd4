-- What the constraints of an expression are read from: names, numbered skeletons, call sites, lattices, and the
-- function around it.
use Rattle.std.specs.Prelude.{ℕ, suc, ◌+◌, ◌-◌, ◌^◌, Bool, List, [], ◌∷◌, length, Option, if◌then◌else◌}
use Rattle.qual_base.specs.declared.places.Span.{Span}
use Rattle.lattice_core.specs.View.{LatticeView}
use Rattle.flow_graph.specs.declared.constraint.Link.{Link}
use Rattle.flow_graph.specs.declared.constraint.Constraint.{Constraint}
use Rattle.type_table.specs.Types.{size}
use Rattle.qual_types.specs.Skel.{Skel, no_skeleton, numbered}
use Rattle.name_rules.specs.Spellings.{Place, Spelling, place}
use Rattle.name_rules.specs.Scopes.{Names, is_place}
use Rattle.row_rules.specs.Starting.{Start}

-- a skeleton whose constructors are numbered from `first` on
pub record Numbered : Type 0 where
  pub start : Start
  pub first : ℕ

-- skeletons one behind the other, whose constructors are numbered from n on
abbrev pub numbered_from : ℕ → List Start → List Numbered
numbered_from n [] = []
numbered_from n (start ∷ starts) = record { start = start; first = n } ∷ numbered_from (n + size start.type) starts

-- what is known of a program while the constraints of one unit are made
pub record World : Type 0 where
  pub spelling : Spelling
  pub names : Names
  pub skeletons : List Numbered
  -- the call sites by their numbers
  pub sites : List Place
  pub lattices : List LatticeView
  -- the lattice and the element that an annotation word names
  pub mark : Place → Option (ℕ × ℕ)
  -- the numbers of an index word of a prelude, and none where there is no such word
  pub index : Place → List ℕ
  -- whether an association of the selection by a type at a place is a candidate, by its number
  pub candidate : Place → ℕ → Bool
  -- the function whose body this is in: what its own name is declared with there
  pub own : Option Skel

-- the place of a token of this unit
abbrev pub at : World → ℕ → Place
at w token = place w.spelling token

-- the skeleton at a place: the first of some that begins there
abbrev pub skeleton_among : List Numbered → Place → Skel
skeleton_among [] p = no_skeleton
skeleton_among (it ∷ others) p =
    if is_place it.start.at p then numbered it.start.type it.first else skeleton_among others p

-- the skeleton that begins at a place
abbrev pub skeleton : World → Place → Skel
skeleton w p = skeleton_among w.skeletons p

-- where a place first is among some, counted from n on; behind all of them where it is none
abbrev pub number_among : ℕ → List Place → Place → ℕ
number_among n [] p = n
number_among n (q ∷ places) p = if is_place q p then n else number_among (suc n) places p

-- the number of the call site at a place
abbrev pub site_number : World → Place → ℕ
site_number w p = number_among 0 w.sites p

-- all lattices that there are
abbrev pub all_lattices : World → ℕ
all_lattices w = 2 ^ length w.lattices - 1

-- the tokens of this unit from one to another
abbrev pub span : World → ℕ → ℕ → Span
span w first last = record { unit = w.spelling.unit; from = first; to = last }

-- the one token of a word
abbrev pub word_span : Place → Span
word_span p = record { unit = p.0; from = p.1; to = p.1 }

-- a link in these lattices, with the tokens that it stands at
abbrev pub constraint : ℕ → Span → Link → Constraint
constraint lattices where_ link = record { link = link; lattices = lattices; span = where_ }

-- links in these lattices, all at the same tokens
abbrev pub constraints : ℕ → Span → List Link → List Constraint
constraints lattices where_ [] = []
constraints lattices where_ (link ∷ links) = constraint lattices where_ link ∷ constraints lattices where_ links

-- links in every lattice, all at the same tokens
abbrev pub in_all : World → Span → List Link → List Constraint
in_all w where_ links = constraints (all_lattices w) where_ links
