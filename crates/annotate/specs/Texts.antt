-- The lines that are written. A unit, a token, a variable, a lattice or an element that is not there has no text.
use Rattle.std.specs.Prelude.{ℕ, ◌+◌, List, [], ◌∷◌, ◌++◌, Option, Some, None, slice_get, slice_range, unwrap_or, codes, nat_eq, if◌then◌else◌}
use Rattle.std.specs.List.{flat_map}
use Rattle.std.specs.Fmt.{decimal}
use Rattle.qual_base.specs.declared.places.Span.{Span}
use Rattle.qual_base.specs.declared.places.Spot.{Spot}
use Rattle.lattice_core.specs.Entries.{name_at}
use Rattle.lattice_core.specs.View.{LatticeView}
use Rattle.flow_graph.specs.declared.constraint.Link.{Link}
use Rattle.flow_graph.specs.declared.constraint.Link.TheVariants.{Le, Const, Bound, Enter, Leave}
use Rattle.flow_graph.specs.declared.constraint.Constraint.{Constraint}
use Rattle.flow_graph.specs.declared.proof.PathStep.{PathStep}
use Rattle.flow_graph.specs.declared.proof.PathStep.TheVariants.{Take, Sub}
use Rattle.flow_graph.specs.declared.proof.Walk.{Walk}
use Rattle.flow_graph.specs.PathProofs.{steps_of}
use Rattle.flow_graph.specs.System.{System}
use Rattle.c_lexer.specs.declared.token.Token.{Token}
use Rattle.c_lexer.specs.Tokens.{Lexed, text_of, token_spot}
use Rattle.qual_types.specs.declared.position.Step.{Step}
use Rattle.qual_types.specs.declared.position.Step.TheVariants.{Inside, Param, Result, Ellipsis}
use Rattle.qual_types.specs.Positions.{PositionView}
use Rattle.annotate.specs.declared.listing.Listing.{Listing}

-- a line with its line feed
abbrev pub line : List ℕ → List ℕ
line text = text ++ 10 ∷ []

-- a unit: its file's name and its tokens
pub record UnitText : Type 0 where
  pub file : List ℕ
  pub lexed : Lexed

-- What the texts name: the units, the lattices, where each variable stands, and the variables of the declared names in
-- the order of the accepted report.
pub record Scene : Type 0 where
  pub units : List UnitText
  pub lattices : List LatticeView
  pub positions : List PositionView
  pub listed : List ℕ

-- the unit with a number
abbrev pub unit_in : List UnitText → ℕ → Option UnitText
unit_in [] number = None
unit_in (unit ∷ units) number = if nat_eq unit.lexed.unit number then Some unit else unit_in units number

-- the file that a spot names: that of its linemarker, or the source's own where the linemarker names none
abbrev pub file_text : List ℕ → List ℕ → Spot → List ℕ
file_text file bytes spot =
    if nat_eq spot.name_from spot.name_to then file else slice_range bytes spot.name_from spot.name_to

-- FILE:LINE:COLUMN
abbrev pub at_text : List ℕ → ℕ → ℕ → List ℕ
at_text file line column = file ++ codes ":" ++ decimal line ++ codes ":" ++ decimal column

-- FILE:LINE:COLUMN of a spot
abbrev pub spot_text : List ℕ → List ℕ → Spot → List ℕ
spot_text file bytes spot = at_text (file_text file bytes spot) spot.line spot.column

-- FILE:LINE:COLUMN of a token of a unit; nothing where there is no such token
abbrev pub place_at : UnitText → ℕ → Option Token → List ℕ
place_at unit at (Some token) = spot_text unit.file unit.lexed.bytes (token_spot unit.lexed at)
place_at unit at None = []

-- the same of a unit that may be there
abbrev pub place_in : Option UnitText → ℕ → List ℕ
place_in (Some unit) token = place_at unit token (slice_get unit.lexed.tokens token)
place_in None token = []

-- the bytes of a token of a unit
abbrev pub bytes_in : Option UnitText → ℕ → List ℕ
bytes_in (Some unit) token = text_of unit.lexed token
bytes_in None token = []

-- FILE:LINE:COLUMN of a token of a unit that is known by its number
abbrev pub place_text : Scene → ℕ → ℕ → List ℕ
place_text scene unit token = place_in (unit_in scene.units unit) token

-- NAME@FILE:LINE:COLUMN of a token of a unit
abbrev pub name_text : Scene → ℕ → ℕ → List ℕ
name_text scene unit token = bytes_in (unit_in scene.units unit) token ++ codes "@" ++ place_text scene unit token

-- a step to a variable inside a type; parameters count from 1
abbrev pub step_mark : Step → List ℕ
step_mark Inside = codes ".in"
step_mark (Param number) = codes "." ++ decimal (number + 1)
step_mark Result = codes ".res"
step_mark Ellipsis = codes ".etc"

-- the steps to a variable inside a type
abbrev pub marks_text : List Step → List ℕ
marks_text steps = flat_map step_mark steps

-- a variable: the name where it stands, and the steps to it
abbrev pub position_text : Scene → Option PositionView → List ℕ
position_text scene (Some position) = name_text scene position.unit position.token ++ marks_text position.path
position_text scene None = []

-- a variable by its number
abbrev pub var_text : Scene → ℕ → List ℕ
var_text scene var = position_text scene (slice_get scene.positions var)

-- the name of an element of a lattice
abbrev pub name_in : Option LatticeView → ℕ → List ℕ
name_in (Some lattice) elem = unwrap_or (name_at lattice.entries elem) []
name_in None elem = []

-- an element of a lattice by their numbers
abbrev pub elem_text : Scene → ℕ → ℕ → List ℕ
elem_text scene lattice elem = name_in (slice_get scene.lattices lattice) elem

-- what a constraint says, behind its number and place
abbrev pub link_text : Scene → Link → List ℕ
link_text scene (Const lattice elem var) =
    codes "const " ++ elem_text scene lattice elem ++ codes " in " ++ var_text scene var
link_text scene (Le from to) = codes "flow " ++ var_text scene from ++ codes " to " ++ var_text scene to
link_text scene (Enter site from to) = codes "enter " ++ var_text scene from ++ codes " to " ++ var_text scene to
link_text scene (Leave site from to) = codes "leave " ++ var_text scene from ++ codes " to " ++ var_text scene to
link_text scene (Bound var lattice elem) =
    codes "bound " ++ var_text scene var ++ codes " by " ++ elem_text scene lattice elem

-- the line of a constraint in a path, where there is one of this number
abbrev pub constraint_text : Scene → ℕ → Option Constraint → List ℕ
constraint_text scene number (Some c) =
    line (codes "  " ++ decimal number ++ codes " " ++ place_text scene c.span.unit c.span.from ++ codes " "
    ++ link_text scene c.link)
constraint_text scene number None = []

-- the line of a step
abbrev pub step_text : Scene → System → PathStep → List ℕ
step_text scene sys (Take edge _) = constraint_text scene edge (slice_get sys.constraints edge)
step_text scene sys (Sub number _) = line (codes "  sub " ++ decimal number)

-- the lines of steps
abbrev pub steps_text : Scene → System → List PathStep → List ℕ
steps_text scene sys steps = flat_map (step_text scene sys) steps

-- sub-paths count from 1; here from the number of the first one
abbrev pub subs_text : Scene → System → ℕ → List (List PathStep) → List ℕ
subs_text scene sys number [] = []
subs_text scene sys number (steps ∷ subs) =
    line (codes "sub " ++ decimal number) ++ steps_text scene sys steps ++ subs_text scene sys (number + 1) subs

-- the lines of a path proof: its sub-paths, and then its main path
abbrev pub proof_text : Scene → System → List (List PathStep) → List PathStep → List ℕ
proof_text scene sys subs main = subs_text scene sys 1 subs ++ line (codes "path") ++ steps_text scene sys main

-- the step that takes a constraint, where there is one
abbrev pub taken : Option ℕ → List PathStep
taken (Some edge) = Take edge 0 ∷ []
taken None = []

-- The lines of a walk, with the constraint before its first step and the one behind its last, where there are such.
abbrev pub walk_text : Scene → System → Option ℕ → Option ℕ → Walk → List ℕ
walk_text scene sys begin bound walk =
    proof_text scene sys (steps_of walk.subs.items) (taken begin ++ walk.steps.items ++ taken bound)

-- the line of a variable with its element in a lattice
abbrev pub value_line : Scene → ℕ → ℕ → ℕ → List ℕ
value_line scene lattice var elem = line (var_text scene var ++ codes " " ++ elem_text scene lattice elem)

-- the line of an element that is listed
abbrev pub listing_line : Scene → Listing → List ℕ
listing_line scene listing = value_line scene listing.lattice listing.var listing.elem

-- the lines of all that is listed
abbrev pub listing_lines : Scene → List Listing → List ℕ
listing_lines scene listings = flat_map (listing_line scene) listings

-- the accepted report of what is listed
abbrev pub accepted_text : Scene → List Listing → List ℕ
accepted_text scene listings = line (codes "accepted") ++ listing_lines scene listings

-- the line of a bound that is exceeded by an element of its lattice
abbrev pub error_line : Scene → ℕ → ℕ → ℕ → Span → List ℕ
error_line scene lattice elem bound span =
    line (codes "error " ++ elem_text scene lattice elem ++ codes " exceeds " ++ elem_text scene lattice bound
    ++ codes " at " ++ place_text scene span.unit span.from)
