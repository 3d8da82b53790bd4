-- Numbers that are kept at most 2^32 - 1.
use Rattle.std.specs.Prelude.{◌≡◌, ℕ, ◌+◌, max}
use Rattle.c_tree.specs.Capped.{capped}

-- the height of an operator with its operands, by those of the left one, the middle and the right one
abbrev pub JoinsHeights : ℕ → ℕ → ℕ → ℕ → Type 0
JoinsHeights left middle right all =
    (x y z : ℕ) → left ≡ capped x → middle ≡ capped y → right ≡ capped z → all ≡ capped (max x (max y z) + 1)

-- a sum of two kept numbers, where it is kept too
abbrev pub AddsKept : ℕ → ℕ → ℕ → Type 0
AddsKept one other sum = (x y : ℕ) → one ≡ capped x → other ≡ capped y → sum ≡ capped (x + y)
