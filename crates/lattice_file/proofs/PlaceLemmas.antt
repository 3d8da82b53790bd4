-- Lines and columns, byte by byte.
use Rattle.std.proofs.Common.{◌≡◌, ℕ, ◌<◌, ◌≤◌, ◌+◌, Bool, true, false, cond, List, [], ◌∷◌, ◌++◌, length, take, get_or, refl, sym, ◌∙◌, ap, arith}
use Rattle.std.specs.Prelude.{◌==◌, if◌then◌else◌}
use Rattle.std.proofs.lemmas.List.Sums.{sum_by-append}
use Rattle.std.proofs.lemmas.List.{take_more}
use Rattle.lattice_file.specs.Places.{lines_in, after_last_line}

-- one more byte adds a line where it is a line feed
lines_behind : (bytes : List ℕ) (byte : ℕ)
    → lines_in (bytes ++ byte ∷ []) ≡ (if byte == 10 then lines_in bytes + 1 else lines_in bytes)
lines_behind bytes byte =
    sum_by-append (λ (b : ℕ). cond (b == 10) 1 0) bytes (byte ∷ []) ∙ counted (byte == 10) (lines_in bytes)
  where
    counted : (b : Bool) (n : ℕ) → n + (0 + cond b 1 0) ≡ (if b then n + 1 else n)
    counted true n = omega arith
    counted false n = omega arith

column_behind : (bytes : List ℕ) (byte count : ℕ)
    → after_last_line (bytes ++ byte ∷ []) count ≡ (if byte == 10 then 0 else after_last_line bytes count + 1)
column_behind [] byte count = refl
column_behind (b ∷ bytes) byte count = column_behind bytes byte (if b == 10 then 0 else count + 1)

shifted : (b : Bool) (n m : ℕ) → n ≡ m + 1 → (if b then n + 1 else n) ≡ (if b then m + 1 else m) + 1
shifted true n m e = omega arith
shifted false n m e = e

shifted_column : (b : Bool) (n m : ℕ) → n ≡ m + 1 → (if b then 1 else n + 1) ≡ (if b then 0 else m + 1) + 1
shifted_column true n m e = refl
shifted_column false n m e = omega arith

-- the line at the next place is one further behind a line feed, and else the same
pub line_on : (bytes : List ℕ) (i line : ℕ) → i < length bytes → line ≡ lines_in (take i bytes) + 1 →
    (if get_or bytes i 0 == 10 then line + 1 else line) ≡ lines_in (take (i + 1) bytes) + 1
line_on bytes i line h e =
    shifted (get_or bytes i 0 == 10) line (lines_in (take i bytes)) e
    ∙ ap (λ (n : ℕ). n + 1)
    (sym (lines_behind (take i bytes) (get_or bytes i 0)) ∙ ap lines_in (sym (take_more bytes i 0 h)))

-- the column at the next place is 1 behind a line feed, and else one further
pub column_on : (bytes : List ℕ) (i column : ℕ) → i < length bytes → column ≡ after_last_line (take i bytes) 0 + 1 →
    (if get_or bytes i 0 == 10 then 1 else column + 1) ≡ after_last_line (take (i + 1) bytes) 0 + 1
column_on bytes i column h e =
    shifted_column (get_or bytes i 0 == 10) column (after_last_line (take i bytes) 0) e
    ∙ ap (λ (n : ℕ). n + 1) (sym (column_behind (take i bytes) (get_or bytes i 0) 0)
    ∙ ap (λ (front : List ℕ). after_last_line front 0) (sym (take_more bytes i 0 h)))

pub line_bound : (b : Bool) (line i : ℕ) → line ≤ i + 1 → (if b then line + 1 else line) ≤ i + 1 + 1
line_bound true line i h = omega arith
line_bound false line i h = omega arith

pub column_bound : (b : Bool) (column i : ℕ) → column ≤ i + 1 → (if b then 1 else column + 1) ≤ i + 1 + 1
column_bound true column i h = omega arith
column_bound false column i h = omega arith
