-- What stands before a text and what stands behind it make the text of a type round it.
use Rattle.std.proofs.Common.{◌≡◌, ℕ, Bool, true, false, not, ◌==◌, length, tests, rules, List, [], ◌∷◌, ◌++◌, codes}
use Rattle.std.proofs.Common.{refl, sym, ◌∙◌, ap, append_assoc, append-nil}
use Rattle.qual_types.specs.Skel.{Skel, flat, ref, fun}
use Rattle.sig_writer.specs.Signatures.{each_before, each_behind, in_brackets, kind_text, params_text, spaced}
use Rattle.sig_writer.specs.Signatures.{type_text}
use Rattle.sig_writer.specs.Halves.{before_text, behind_text, bracket, gap, is_some_text, AreHalves}

spaced_is : (inner : List ℕ) → spaced inner ≡ gap (is_some_text inner) ++ inner
spaced_is [] = refl
spaced_is (c ∷ inner) = refl

-- a text in the brackets of a skeleton is its opening bracket, the text, and its closing bracket
brackets_are : (s : Skel) (inner : List ℕ) →
    in_brackets s inner ≡ bracket s (codes "(") ++ inner ++ bracket s (codes ")")
brackets_are (flat v kind) inner = sym (append-nil inner)
brackets_are (ref v s) inner = sym (append-nil inner)
brackets_are (fun v ps r e) inner = refl

-- a star is some text, in brackets too, and so is what a bracket ends
star_is_some : (s : Skel) (inner : List ℕ) → is_some_text (in_brackets s (codes "*" ++ inner)) ≡ true
star_is_some (flat v kind) inner = refl
star_is_some (ref v s) inner = refl
star_is_some (fun v ps r e) inner = refl

bracket_is_some : (inner more : List ℕ) → is_some_text (inner ++ codes "(" ++ more) ≡ true
bracket_is_some [] more = refl
bracket_is_some (c ∷ inner) more = refl

at_flat : (b k g inner : List ℕ) → b ++ k ++ (g ++ inner) ≡ b ++ k ++ g ++ inner ++ []
at_flat b k g inner = simp (append_assoc, append-nil)

at_ref : (b one star w g inner other t : List ℕ) →
    b ++ (one ++ (star ++ w ++ (g ++ inner)) ++ other) ++ t ≡ b ++ one ++ star ++ w ++ g ++ inner ++ (other ++ t)
at_ref b one star w g inner other t = simp append_assoc

at_fun : (b inner one ps other t : List ℕ) →
    b ++ (inner ++ one ++ ps ++ other) ++ t ≡ b ++ inner ++ (one ++ ps ++ other ++ t)
at_fun b inner one ps other t = simp append_assoc

-- the text of a type round a text is what stands before this, the text, and what stands behind it
pub halves : AreHalves
halves words (flat v kind) inner =
    ap (λ (t : List ℕ). each_before (words v) ++ kind_text kind ++ t) (spaced_is inner)
    ∙ at_flat (each_before (words v)) (kind_text kind) (gap (is_some_text inner)) inner
halves words (ref v s) inner =
    let star = codes "*" ++ each_behind (words v) ++ spaced inner in
    halves words s (in_brackets s star)
    ∙ ap (λ b. before_text words s b ++ in_brackets s star ++ behind_text words s)
    (ap (λ t. is_some_text (in_brackets s t)) (append_assoc (codes "*") (each_behind (words v)) (spaced inner))
    ∙ star_is_some s (each_behind (words v) ++ spaced inner))
    ∙ ap (λ (t : List ℕ). before_text words s true ++ t ++ behind_text words s) (brackets_are s star)
    ∙ ap (λ (t : List ℕ). before_text words s true
    ++ (bracket s (codes "(") ++ (codes "*" ++ each_behind (words v) ++ t) ++ bracket s (codes ")"))
    ++ behind_text words s) (spaced_is inner)
    ∙ at_ref (before_text words s true)
    (bracket s (codes "(")) (codes "*") (each_behind (words v)) (gap (is_some_text inner))
    inner (bracket s (codes ")")) (behind_text words s)
halves words (fun v ps r e) inner =
    let params = params_text words ps e in
    halves words r (inner ++ codes "(" ++ params ++ codes ")")
    ∙ ap (λ b. before_text words r b ++ (inner ++ codes "(" ++ params ++ codes ")") ++ behind_text words r)
    (ap is_some_text (append_assoc (inner ++ codes "(") params (codes ")"))
    ∙ bracket_is_some inner (params ++ codes ")"))
    ∙ at_fun (before_text words r true) inner (codes "(") params (codes ")") (behind_text words r)

pub round_nothing : (words : ℕ → List (List ℕ)) (s : Skel) →
    type_text words s [] ≡ before_text words s false ++ behind_text words s
round_nothing words s = halves words s []
    ∙ ap (λ (t : List ℕ). t ++ behind_text words s) (append-nil (before_text words s false))

some_is : (inner : List ℕ) → is_some_text inner ≡ not (length inner == 0)
some_is [] = refl
some_is (c ∷ inner) = let e : (length (c ∷ inner) == 0) ≡ false = search (tests, rules) in sym (ap not e)

-- where the text is empty or not
pub round_text : (words : ℕ → List (List ℕ)) (s : Skel) (inner : List ℕ) (is_empty : Bool) →
    is_empty ≡ (length inner == 0) →
    type_text words s inner ≡ before_text words s (not is_empty) ++ inner ++ behind_text words s
round_text words s inner is_empty e =
    halves words s inner ∙ ap (λ b. before_text words s b ++ inner ++ behind_text words s)
    (some_is inner ∙ sym (ap not e))
