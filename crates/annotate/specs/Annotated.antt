-- The annotated source: the bytes of a unit, with a comment behind each name at which variables stand that the accepted
-- report lists.
use Rattle.std.specs.Prelude.{◌≡◌, ℕ, zero, suc, ◌+◌, ◌-◌, List, [], ◌∷◌, ◌++◌, length, take, drop, slice_get, Option, Some, None, codes}
use Rattle.std.specs.Prelude.{nat_eq, ◌&&◌, if◌then◌else◌}
use Rattle.std.specs.List.{flat_map}
use Rattle.c_lexer.specs.Tokens.{Lexed, start_of, text_of}
use Rattle.qual_types.specs.declared.position.Step.{Step}
use Rattle.qual_types.specs.Positions.{PositionView}
use Rattle.annotate.specs.declared.listing.Listing.{Listing}
use Rattle.annotate.specs.Texts.{UnitText, Scene, line, unit_in, marks_text, elem_text}

-- the steps to a variable, or a dot where there are none
abbrev pub steps_or_dot : List Step → List ℕ
steps_or_dot [] = codes "."
steps_or_dot (step ∷ steps) = marks_text (step ∷ steps)

-- what a comment says of an element that is listed
abbrev pub item_text : Scene → List Step → Listing → List ℕ
item_text scene path listing = steps_or_dot path ++ codes " " ++ elem_text scene listing.lattice listing.elem

-- the same where the variable stands at this token of this unit, else nothing
abbrev pub item_at : Scene → ℕ → ℕ → Listing → Option PositionView → List (List ℕ)
item_at scene unit token listing (Some at) =
    if nat_eq at.unit unit && nat_eq at.token token then item_text scene at.path listing ∷ [] else []
item_at scene unit token listing None = []

-- what the comment of a token of a unit says, in the order of the report
abbrev pub items_at : Scene → ℕ → ℕ → List Listing → List (List ℕ)
items_at scene unit token listings =
    flat_map (λ (listing : Listing). item_at scene unit token listing (slice_get scene.positions listing.var)) listings

-- a comment with its items, and none where there are none
abbrev pub comment_text : List (List ℕ) → List ℕ
comment_text [] = []
comment_text (item ∷ items) = codes "/*" ++ item ++ flat_map (λ (next : List ℕ). codes ", " ++ next) items ++ codes "*/"

-- bytes of a source up to the end of a token, and what the comment behind them says
pub record Piece : Type 0 where
  pub bytes : List ℕ
  pub items : List (List ℕ)

-- a piece with its comment
abbrev pub piece_text : Piece → List ℕ
piece_text piece = piece.bytes ++ comment_text piece.items

-- the place right behind a token
abbrev pub behind : Lexed → ℕ → ℕ
behind lexed token = start_of lexed.tokens token + length (text_of lexed token)

-- What is left of a source from a place on, in pieces: the bytes up to the place behind each of so many tokens from a
-- number on, with the items of the token, and then the rest.
abbrev pub pieces_from : (ℕ → List (List ℕ)) → (ℕ → ℕ) → ℕ → List ℕ → ℕ → ℕ → List Piece
pieces_from items ends at left token zero = record { bytes = left; items = [] } ∷ []
pieces_from items ends at left token (suc more) =
    record { bytes = take (ends token - at) left; items = items token }
    ∷ pieces_from items ends (at + (ends token - at)) (drop (ends token - at) left) (suc token) more

-- a whole source in pieces, with what the comment of each token says
abbrev pub pieces_of : Scene → Lexed → List Listing → List Piece
pieces_of scene lexed listings =
    pieces_from (λ token. items_at scene lexed.unit token listings) (behind lexed) 0 lexed.bytes 0 (length lexed.tokens)

-- the pieces with their comments
abbrev pub with_comments : List Piece → List ℕ
with_comments pieces = flat_map piece_text pieces

-- the pieces without their comments
abbrev pub without_comments : List Piece → List ℕ
without_comments pieces = flat_map (λ (piece : Piece). piece.bytes) pieces

-- the annotated source of a unit; a unit that is not there has no bytes
abbrev pub annotated_in : Scene → Option UnitText → List Listing → List ℕ
annotated_in scene (Some unit) listings = with_comments (pieces_of scene unit.lexed listings)
annotated_in scene None listings = []

-- the line `annotated`, and the annotated source of a unit
abbrev pub annotated_text : Scene → ℕ → List Listing → List ℕ
annotated_text scene unit listings = line (codes "annotated") ++ annotated_in scene (unit_in scene.units unit) listings

-- behind an accepted report, where the annotated source of a unit is asked for
abbrev pub annotation : Scene → Option ℕ → List Listing → List ℕ
annotation scene (Some unit) listings = annotated_text scene unit listings
annotation scene None listings = []

-- taking the comments out gives the source back
abbrev pub CommentsComeOut : Type 0
CommentsComeOut = (scene : Scene) (lexed : Lexed) (listings : List Listing) →
    without_comments (pieces_of scene lexed listings) ≡ lexed.bytes
