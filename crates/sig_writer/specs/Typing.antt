-- The words of nodes as the code writes them.
use Rattle.std.specs.Prelude.{ℕ, Bool, true, false, List, [], ◌++◌, codes}
use Rattle.std.specs.List.{flat_map}
use Rattle.std.specs.Fmt.{decimal}
use Rattle.qual_types.specs.Skel.{Skel, flat, ref, fun}
use Rattle.sig_writer.specs.declared.types.Typed.{Typed}
use Rattle.sig_writer.specs.declared.types.Space.{Space}
use Rattle.sig_writer.specs.declared.types.Space.TheVariants.{Before, Behind}
use Rattle.sig_writer.specs.Refusing.{AreAllWithin}
use Rattle.sig_writer.specs.Saying.{said_at}
use Rattle.sig_writer.specs.Signatures.{words_of}

-- a space before each word, where that is its place
abbrev pub space_before : Space → List ℕ
space_before Before = codes " "
space_before Behind = []

-- a space behind each word, where that is its place
abbrev pub space_behind : Space → List ℕ
space_behind Before = []
space_behind Behind = codes " "

-- words, each with its space
abbrev pub each_in : Space → List (List ℕ) → List ℕ
each_in space words = flat_map (λ word. space_before space ++ word ++ space_behind space) words

-- the text of an index word
abbrev pub numbers_text : List ℕ → List ℕ
numbers_text numbers = codes "$" ++ flat_map (λ n. codes "_" ++ decimal n) numbers

-- whether a skeleton is that of a function
abbrev pub is_fun : Skel → Bool
is_fun (flat v kind) = false
is_fun (ref v s) = false
is_fun (fun v ps r e) = true

-- the words of a variable of a function's type
abbrev pub words_by : Typed → ℕ → List (List ℕ)
words_by typed v = words_of typed.lattice.now (said_at typed.said.now v)

-- what is said are elements of the lattice
abbrev pub AreTyped : Typed → Type 0
AreTyped typed = AreAllWithin typed.lattice.now typed.said.now
