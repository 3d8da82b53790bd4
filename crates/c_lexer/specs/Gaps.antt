-- What stands between tokens: space, comments and lines that are skipped (C99, 6.4.9 and 6.10).
use Rattle.std.specs.Prelude.{◌≡◌, ℕ, ◌+◌, ◌-◌, ◌<◌, ◌≤◌, Bool, true, false, ◌||◌, not, ◌==◌, List, nat_eq, codes, slice_index}
use Rattle.std.specs.List.{prefix_len, starts_with}
use Rattle.c_lexer.specs.declared.gaps.Gap.{Gap}
use Rattle.c_lexer.specs.declared.gaps.Gap.TheVariants.{Blank, LineFeed, OtherSpace, BlockComment, LineComment, SkippedLine}
use Rattle.c_lexer.specs.Spelling.{begins_with}

-- a space or a tab
abbrev pub is_blank : ℕ → Bool
is_blank c = c == 32 || c == 9

-- a vertical tab, a form feed or a carriage return
abbrev pub is_other_space : ℕ → Bool
is_other_space c = c == 11 || c == 12 || c == 13

-- how many bytes stand before the first line feed, or before the end
abbrev pub line_len : List ℕ → ℕ
line_len bytes = prefix_len (λ c. not (c == 10)) bytes

-- `*/` stands at place k
abbrev pub ClosesAt : List ℕ → ℕ → Type 0
ClosesAt bytes k = (slice_index bytes k ≡ 42) × (slice_index bytes (k + 1) ≡ 47)

-- n bytes in front are `/*` and all to the end of the first `*/` that begins behind it
pub record IsBlockComment (bytes : List ℕ) (n : ℕ) : Type 0 where
  pub opens : starts_with nat_eq bytes (codes "/*") ≡ true
  pub long : 4 ≤ n
  pub closes : ClosesAt bytes (n - 2)
  pub first : (k : ℕ) → 2 ≤ k → k + 2 < n → ¬ ClosesAt bytes k

-- n bytes in front are a gap of that kind; `fresh` says that only blanks stand before them on their line
abbrev pub IsGap : Gap → Bool → List ℕ → ℕ → Type 0
IsGap Blank fresh bytes n = (begins_with is_blank bytes ≡ true) × (n ≡ 1)
IsGap LineFeed fresh bytes n = (begins_with (λ c. c == 10) bytes ≡ true) × (n ≡ 1)
IsGap OtherSpace fresh bytes n = (begins_with is_other_space bytes ≡ true) × (n ≡ 1)
IsGap BlockComment fresh bytes n = IsBlockComment bytes n
IsGap LineComment fresh bytes n = (starts_with nat_eq bytes (codes "//") ≡ true) × (n ≡ line_len bytes)
IsGap SkippedLine fresh bytes n = (fresh ≡ true) × (begins_with (λ c. c == 35) bytes ≡ true) × (n ≡ line_len bytes)

-- no bytes in front are a gap
abbrev pub HasNoGap : Bool → List ℕ → Type 0
HasNoGap fresh bytes = (gap : Gap) (n : ℕ) → ¬ IsGap gap fresh bytes n

-- whether only blanks stand on the line behind a gap
abbrev pub fresh_behind : Gap → Bool → Bool
fresh_behind Blank fresh = fresh
fresh_behind LineFeed fresh = true
fresh_behind OtherSpace fresh = false
fresh_behind BlockComment fresh = false
fresh_behind LineComment fresh = false
fresh_behind SkippedLine fresh = false
