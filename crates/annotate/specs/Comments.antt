-- Comments while they are written.
use Rattle.std.specs.Prelude.{◌≡◌, ℕ, List, [], ◌∷◌, ◌++◌, slice_get, Some, Vec, codes}
use Rattle.std.specs.List.{flat_map}
use Rattle.std.specs.Global.{Global}
use Rattle.annotate.specs.declared.listing.Listing.{Listing}
use Rattle.annotate.specs.Texts.{Scene}
use Rattle.annotate.specs.Annotated.{items_at}

-- a comment without its end, and none where there are no items
abbrev pub opened : List (List ℕ) → List ℕ
opened [] = []
opened (item ∷ items) = codes "/*" ++ item ++ flat_map (λ (next : List ℕ). codes ", " ++ next) items

-- the same with what stands before one more item
abbrev pub begun_with : List ℕ → List ℕ
begun_with [] = codes "/*"
begun_with (byte ∷ bytes) = byte ∷ bytes ++ codes ", "

-- with its end, where there is any
abbrev pub closed : List ℕ → List ℕ
closed [] = []
closed (byte ∷ bytes) = byte ∷ bytes ++ codes "*/"

-- the comments of tokens with these items
abbrev pub HoldComments : (ℕ → List (List ℕ)) → List (Vec ℕ Global) → Type 0
HoldComments items comments = (token : ℕ) (comment : Vec ℕ Global) → slice_get comments token ≡ Some comment →
    comment.items ≡ opened (items token)

-- the comments of the tokens of a unit
abbrev pub AreComments : Scene → ℕ → List Listing → List (Vec ℕ Global) → Type 0
AreComments scene unit listings comments = HoldComments (λ token. items_at scene unit token listings) comments
