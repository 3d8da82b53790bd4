-- The signatures of a library: for each external function of which a client has something to know a declaration whose
-- words say it.
use Rattle.std.specs.Prelude.{ℕ, suc, nat_eq, Bool, true, false, not, ◌&&◌, ◌||◌, List, [], ◌∷◌, ◌++◌, slice_get, Option, None, Some, codes, if◌then◌else◌}
use Rattle.std.specs.List.{filter, flat_map, list_any}
use Rattle.std.specs.Fmt.{decimal}
use Rattle.lattice_core.specs.declared.Entry.{Entry}
use Rattle.lattice_core.specs.declared.Sign.{Sign}
use Rattle.lattice_core.specs.declared.Sign.TheVariants.{Pos, Neg, Eq}
use Rattle.lattice_core.specs.View.{LatticeView}
use Rattle.qual_types.specs.declared.look.Kind.{Kind}
use Rattle.qual_types.specs.declared.look.Kind.TheVariants.{Base, Void, Struct, Nothing}
use Rattle.qual_types.specs.Skel.{Skel, flat, ref, fun, Skels, no_skels, more_skels, nodes, of_some, root}
use Rattle.name_rules.specs.Spellings.{Place}
use Rattle.annotate.specs.Texts.{line, name_in}

-- What is found of the variables of a library in its lattice: the join of the constants that come to a variable with no
-- call open, the meet of the bounds that it leads to by flows, groups and calls, and whether a matched path of one or
-- more parts leads from one to another; and the least and the greatest element.
pub record Found : Type 0 where
  pub join : ℕ → ℕ
  pub meet : ℕ → ℕ
  pub joins : ℕ → ℕ → Bool
  pub least : ℕ
  pub greatest : ℕ

-- an external function: where it was first declared, its name there, and its skeleton there: a reference to a function
pub record External : Type 0 where
  pub place : Place
  pub name : List ℕ
  pub skel : Skel

-- the nodes of an external function: the variables of its skeleton, in pre-order
abbrev pub nodes_of : External → List ℕ
nodes_of f = nodes f.skel

-- ---- what a node of a function says

-- what is written at a node: the numbers of its index word, where it has one, the join, and the meet
pub record Says : Type 0 where
  pub numbers : List ℕ
  pub low : Option ℕ
  pub high : Option ℕ

-- matched paths join the node with another one
abbrev pub is_marked : Found → List ℕ → ℕ → Bool
is_marked it nodes v = list_any (λ u. not (nat_eq u v) && (it.joins u v || it.joins v u)) nodes

-- marked nodes are numbered from 1 in pre-order
abbrev pub marked : Found → List ℕ → List ℕ
marked it nodes = filter (is_marked it nodes) nodes

-- the numbers, from n on, of a node itself and of those from which a matched path leads to it
abbrev pub numbers_to : Found → ℕ → ℕ → List ℕ → List ℕ
numbers_to it v n [] = []
numbers_to it v n (u ∷ us) =
    if nat_eq u v || it.joins u v then n ∷ numbers_to it v (suc n) us else numbers_to it v (suc n) us

-- the numbers of a node's index word: none where no matched path joins the node with another
abbrev pub numbers_of : Found → List ℕ → ℕ → List ℕ
numbers_of it nodes v = if is_marked it nodes v then numbers_to it v 1 (marked it nodes) else []

-- an element, unless it is the one that says nothing
abbrev pub unless : ℕ → ℕ → Option ℕ
unless e other = if nat_eq e other then None else Some e

-- what is written at a node: the join unless it is the least element, and the meet unless it is the greatest
abbrev pub says : Found → List ℕ → ℕ → Says
says it nodes v = record {
  numbers = numbers_of it nodes v;
  low = unless (it.join v) it.least;
  high = unless (it.meet v) it.greatest;
}

-- whether there is no number and no element
abbrev pub is_silent : List ℕ → Option ℕ → Option ℕ → Bool
is_silent [] None None = true
is_silent (n ∷ numbers) low high = false
is_silent [] (Some e) high = false
is_silent [] None (Some b) = false

-- whether nothing is written at a node
abbrev pub says_nothing : Says → Bool
says_nothing it = is_silent it.numbers it.low it.high

-- ---- the words of a node

-- the index word of these numbers: none without numbers
abbrev pub index_words : List ℕ → List (List ℕ)
index_words [] = []
index_words (n ∷ numbers) = (codes "$" ++ flat_map (λ m. codes "_" ++ decimal m) (n ∷ numbers)) ∷ []

-- the name of an element of the lattice
abbrev pub name_of : LatticeView → ℕ → List ℕ
name_of lattice e = name_in (Some lattice) e

-- one word where the join is the meet
abbrev pub element_words : LatticeView → Option ℕ → Option ℕ → List (List ℕ)
element_words lattice None None = []
element_words lattice (Some e) None = name_of lattice e ∷ []
element_words lattice None (Some b) = name_of lattice b ∷ []
element_words lattice (Some e) (Some b) =
    if nat_eq e b then name_of lattice e ∷ [] else name_of lattice e ∷ name_of lattice b ∷ []

-- the words of a node: its index word and the names of elements
abbrev pub words_of : LatticeView → Says → List (List ℕ)
words_of lattice it = index_words it.numbers ++ element_words lattice it.low it.high

-- ---- the text of a type round a text, by the words of each variable (C99, 6.7.5)

-- words, each with a space behind it
abbrev pub each_before : List (List ℕ) → List ℕ
each_before words = flat_map (λ word. word ++ codes " ") words

-- words, each with a space before it
abbrev pub each_behind : List (List ℕ) → List ℕ
each_behind words = flat_map (λ word. codes " " ++ word) words

-- a text with a space before it, where it is not empty
abbrev pub spaced : List ℕ → List ℕ
spaced [] = []
spaced (c ∷ inner) = codes " " ++ c ∷ inner

-- each struct and union is one that is not defined
abbrev pub kind_text : Kind → List ℕ
kind_text Base = codes "int"
kind_text Void = codes "void"
kind_text (Struct n) = codes "struct s"
kind_text Nothing = []

-- a text in parentheses, where what it is round is a function (6.7.5)
abbrev pub in_brackets : Skel → List ℕ → List ℕ
in_brackets (flat v kind) inner = inner
in_brackets (ref v s) inner = inner
in_brackets (fun v ps r e) inner = codes "(" ++ inner ++ codes ")"

-- the words of further arguments and `...` behind parameters
abbrev pub ellipsis_text : (ℕ → List (List ℕ)) → Option ℕ → List ℕ
ellipsis_text words None = []
ellipsis_text words (Some v) = codes ", " ++ each_before (words v) ++ codes "..."

-- a function without parameters that takes any arguments has none in its text
abbrev pub no_params_text : Option ℕ → List ℕ
no_params_text None = codes "void"
no_params_text (Some v) = []

abbrev mutual
  -- a type with its words round a text, as a declarator is written
  pub type_text : (ℕ → List (List ℕ)) → Skel → List ℕ → List ℕ
  type_text words (flat v kind) inner = each_before (words v) ++ kind_text kind ++ spaced inner
  type_text words (ref v s) inner =
      type_text words s (in_brackets s (codes "*" ++ each_behind (words v) ++ spaced inner))
  type_text words (fun v ps r e) inner =
      type_text words r (inner ++ codes "(" ++ params_text words ps e ++ codes ")")

  -- the parameters of a function, or what stands where it has none
  pub params_text : (ℕ → List (List ℕ)) → Skels → Option ℕ → List ℕ
  params_text words no_skels e = no_params_text e
  params_text words (more_skels p ps) e = type_text words p [] ++ more_text words ps e

  -- further parameters, each after a comma, and `...`
  pub more_text : (ℕ → List (List ℕ)) → Skels → Option ℕ → List ℕ
  more_text words no_skels e = ellipsis_text words e
  more_text words (more_skels p ps) e = codes ", " ++ type_text words p [] ++ more_text words ps e

-- ---- the lines

-- a declared name's own type is what its skeleton refers to
abbrev pub declared_text : (ℕ → List (List ℕ)) → Skel → List ℕ → List ℕ
declared_text words (flat v kind) name = []
declared_text words (ref v s) name = type_text words s name
declared_text words (fun v ps r e) name = []

-- the words of a variable of an external function
abbrev pub words_in : Found → LatticeView → External → ℕ → List (List ℕ)
words_in it lattice f v = words_of lattice (says it (nodes_of f) v)

-- a function has a line where some node of it says something
abbrev pub has_line : Found → External → Bool
has_line it f = list_any (λ v. not (says_nothing (says it (nodes_of f) v))) (nodes_of f)

-- the line of an external function: its declaration, where some node of it says something
abbrev pub line_of : Found → LatticeView → External → List ℕ
line_of it lattice f =
    if has_line it f then line (declared_text (words_in it lattice f) f.skel f.name ++ codes ";") else []

-- the lines of external functions
abbrev pub lines_of : Found → LatticeView → List External → List ℕ
lines_of it lattice functions = flat_map (line_of it lattice) functions

-- ---- what cannot be written

-- what stands for the arguments of a function without parameters
abbrev pub lone : Skels → Option ℕ → List ℕ
lone no_skels e = of_some e
lone (more_skels p ps) e = []

-- the nodes that have no place for a word: functions, and what stands for the arguments of one without parameters
abbrev mutual
  -- those of a skeleton, in pre-order
  pub unplaced : Skel → List ℕ
  unplaced (flat v kind) = []
  unplaced (ref v s) = unplaced s
  unplaced (fun v ps r e) = v ∷ lone ps e ++ (all_unplaced ps ++ unplaced r)

  -- those of the skeletons of parameters
  pub all_unplaced : Skels → List ℕ
  all_unplaced no_skels = []
  all_unplaced (more_skels p ps) = unplaced p ++ all_unplaced ps

-- and the reference to the function itself
abbrev pub is_unplaced : Found → External → Bool
is_unplaced it f = list_any (λ v. not (says_nothing (says it (nodes_of f) v))) (root f.skel ∷ unplaced f.skel)

-- the sign of an entry of a lattice file, where there is one
abbrev pub sign_of : Option Entry → Option Sign
sign_of None = None
sign_of (Some entry) = Some entry.sign

-- whether the sign that is there is this one
abbrev pub is_sign : Sign → Option Sign → Bool
is_sign Pos (Some Pos) = true
is_sign Neg (Some Neg) = true
is_sign Eq (Some Eq) = true
is_sign sign other = false

-- whether the name of an element has this sign
abbrev pub has_sign : LatticeView → Sign → ℕ → Bool
has_sign lattice sign e = is_sign sign (sign_of (slice_get lattice.entries e))

-- words by elements of the join and of the meet give a constant and a bound, and nothing else
abbrev pub has_words : LatticeView → Option ℕ → Option ℕ → Bool
has_words lattice None None = true
has_words lattice (Some e) None = has_sign lattice Pos e
has_words lattice None (Some b) = has_sign lattice Neg b
has_words lattice (Some e) (Some b) =
    if nat_eq e b then has_sign lattice Eq e else has_sign lattice Pos e && has_sign lattice Neg b

-- whether words of a node's elements would give other constraints
abbrev pub lacks_words : LatticeView → Says → Bool
lacks_words lattice it = not (has_words lattice it.low it.high)

-- whether a node of a function wants a word that the lattice does not have
abbrev pub is_unsigned : Found → LatticeView → External → Bool
is_unsigned it lattice f = list_any (λ v. lacks_words lattice (says it (nodes_of f) v)) (nodes_of f)

-- Why a function has no signature: something is said where no word has a place, or else some word is wanting.
pub data Refusal : Type 0 where
  NoPlace : Place → Refusal
  NoWord : Place → Refusal

-- why a function has no signature, where it has none
abbrev pub refusal_of : Found → LatticeView → External → Option Refusal
refusal_of it lattice f =
    if is_unplaced it f then Some (NoPlace f.place) else if is_unsigned it lattice f
    then Some (NoWord f.place) else None

-- the first of two refusals that is there
abbrev pub or_refusal : Option Refusal → Option Refusal → Option Refusal
or_refusal None other = other
or_refusal (Some refusal) other = Some refusal

-- that of the first function that has one
abbrev pub first_refusal : Found → LatticeView → List External → Option Refusal
first_refusal it lattice [] = None
first_refusal it lattice (f ∷ functions) = or_refusal (refusal_of it lattice f) (first_refusal it lattice functions)
