-- The text of a type round another text in two halves: what stands before that, and what stands behind it.
use Rattle.std.specs.Prelude.{◌≡◌, ℕ, Bool, true, false, List, [], ◌∷◌, ◌++◌, codes}
use Rattle.qual_types.specs.Skel.{Skel, flat, ref, fun}
use Rattle.sig_writer.specs.Signatures.{each_before, each_behind, kind_text, params_text, type_text}

-- whether a text is not empty
abbrev pub is_some_text : List ℕ → Bool
is_some_text [] = false
is_some_text (c ∷ text) = true

-- a space, where something stands behind
abbrev pub gap : Bool → List ℕ
gap true = codes " "
gap false = []

-- a bracket, where a reference is to a function
abbrev pub bracket : Skel → List ℕ → List ℕ
bracket (flat v kind) text = []
bracket (ref v s) text = []
bracket (fun v ps r e) text = text

-- what stands before the inner text; `is_round`: something stands there
abbrev pub before_text : (ℕ → List (List ℕ)) → Skel → Bool → List ℕ
before_text words (flat v kind) is_round = each_before (words v) ++ kind_text kind ++ gap is_round
before_text words (ref v s) is_round =
    before_text words s true ++ bracket s (codes "(") ++ codes "*" ++ each_behind (words v) ++ gap is_round
before_text words (fun v ps r e) is_round = before_text words r true

-- what stands behind the inner text
abbrev pub behind_text : (ℕ → List (List ℕ)) → Skel → List ℕ
behind_text words (flat v kind) = []
behind_text words (ref v s) = bracket s (codes ")") ++ behind_text words s
behind_text words (fun v ps r e) = codes "(" ++ params_text words ps e ++ codes ")" ++ behind_text words r

-- the halves are of the text
abbrev pub AreHalves : Type 0
AreHalves = (words : ℕ → List (List ℕ)) (s : Skel) (inner : List ℕ) →
    type_text words s inner ≡ before_text words s (is_some_text inner) ++ inner ++ behind_text words s
