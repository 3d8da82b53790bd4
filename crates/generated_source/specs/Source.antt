-- The source that the tool makes itself, and the lattice under which it is read.
use Rattle.std.specs.Prelude.{ℕ, zero, suc, List, ◌++◌, codes}
use Rattle.std.specs.Fmt.{decimal}
use Rattle.annotate.specs.Texts.{line}

-- Two elements at the level of values: what is declared `$tainted` is at least that, what is declared `$untainted` at
-- most that.
abbrev pub lattice_text : List ℕ
lattice_text =
    line (codes "partial order {")
    ++ line (codes "  $untainted [level = value, sign = neg]")
    ++ line (codes "  $tainted [level = value, sign = pos]")
    ++ line (codes "  $untainted < $tainted")
    ++ line (codes "}")

-- the function that calls no other
abbrev pub first_line : List ℕ
first_line = line (codes "int f0(int x) { return x; }")

-- a function that calls another one twice
abbrev pub caller_line : ℕ → ℕ → List ℕ
caller_line number called =
    line (codes "int f" ++ decimal number ++ codes "(int x) { return f" ++ decimal called ++ codes "(f"
    ++ decimal called
    ++ codes "(x)); }")

-- the functions up to the one with a number
abbrev pub functions_text : ℕ → List ℕ
functions_text zero = first_line
functions_text (suc n) = functions_text n ++ caller_line (suc n) n

-- two objects, and the function that calls the last of the others
abbrev pub end_text : ℕ → List ℕ
end_text last =
    line (codes "$tainted int a;")
    ++ line (codes "$untainted int b;")
    ++ line (codes "void top(void) { b = f" ++ decimal last ++ codes "(a); }")

-- the source with so many functions that call another of them
abbrev pub generated_text : ℕ → List ℕ
generated_text n = functions_text n ++ end_text n
