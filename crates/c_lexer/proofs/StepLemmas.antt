-- A step from one place of a unit to the next.
use Rattle.std.proofs.Common.{◌≡◌, ℕ, zero, suc, ◌-◌, ◌<◌, ◌≤◌, Bool, true, false, not, ◌==◌, List, [], ◌∷◌, length, drop, refl, arith, nat_eq, codes, if◌then◌else◌}
use Rattle.std.specs.List.{starts_with}
use Rattle.std.proofs.lemmas.Bool.{both_ways, and_parts, or_from, eqb-true, false_from_ne_true}
use Rattle.std.proofs.lemmas.List.Sums.{prefix_len-le-length}
use Rattle.c_lexer.specs.declared.gaps.Gap.{Gap}
use Rattle.c_lexer.specs.declared.gaps.Gap.TheVariants.{Blank, LineFeed, OtherSpace, BlockComment, LineComment, SkippedLine}
use Rattle.c_lexer.specs.declared.front.Stop.{Stop}
use Rattle.c_lexer.specs.declared.front.Stop.TheVariants.{BadByte, Unended}
use Rattle.c_lexer.specs.Words.{signs, sign_kind}
use Rattle.c_lexer.specs.Spelling.{begins_with, begins_comment, is_token, IsLongestOf}
use Rattle.c_lexer.specs.Gaps.{is_blank, is_other_space, line_len, IsGap, HasNoGap}
use Rattle.c_lexer.specs.Reading.{Meanings, Front, IsStuck, StopsAt, opens}
use Rattle.c_lexer.proofs.GapLemmas.{closes_inside}

begins_some : (p : ℕ → Bool) (bytes : List ℕ) → begins_with p bytes ≡ true → 0 < length bytes
begins_some p [] h = absurd cc
begins_some p (c ∷ cs) h = omega arith

-- a line that begins with another byte than a line feed is not empty
line_some : (bytes : List ℕ) (b : ℕ) → (b == 10) ≡ false → begins_with (λ c. c == b) bytes ≡ true → 0 < line_len bytes
line_some [] b other h = absurd cc
line_some (c ∷ cs) b other h = let same : c ≡ b = eqb-true c b h in rw (same, other) (omega arith)

slashes_begin : (bytes : List ℕ) → starts_with nat_eq bytes (codes "//") ≡ true
    → begins_with (λ c. c == 47) bytes ≡ true
slashes_begin [] h = absurd cc
slashes_begin (c ∷ cs) h = let same : 47 ≡ c = eqb-true 47 c (and_parts (nat_eq 47 c) _ h).0 in rw (← same) refl

-- a gap of any kind has one byte at least, and is within the bytes
pub gap-fits : (gap : Gap) (fresh : Bool) (bytes : List ℕ) (n : ℕ) → IsGap gap fresh bytes n
    → (0 < n) × (n ≤ length bytes)
gap-fits Blank fresh bytes n h =
    let some = begins_some is_blank bytes h.0 in
    let one = h.1 in
    (omega arith, omega arith)
gap-fits LineFeed fresh bytes n h =
    let some = begins_some (λ c. c == 10) bytes h.0 in
    let one = h.1 in
    (omega arith, omega arith)
gap-fits OtherSpace fresh bytes n h =
    let some = begins_some is_other_space bytes h.0 in
    let one = h.1 in
    (omega arith, omega arith)
gap-fits BlockComment fresh bytes n h =
    let long = h.long in
    let inside = closes_inside bytes (n - 2) h.closes in
    (omega arith, omega arith)
gap-fits LineComment fresh bytes n h =
    let some = line_some bytes 47 refl (slashes_begin bytes h.0) in
    let most = prefix_len-le-length (λ c. not (c == 10)) bytes in
    let is = h.1 in
    (omega arith, omega arith)
gap-fits SkippedLine fresh bytes n h =
    let some = line_some bytes 35 refl h.1 in
    let most = prefix_len-le-length (λ c. not (c == 10)) bytes in
    let is = h.2 in
    (omega arith, omega arith)

pub no-comment : (fresh : Bool) (bytes : List ℕ) → HasNoGap fresh bytes → starts_with nat_eq bytes (codes "/*") ≡ false
    → begins_comment bytes ≡ false
no-comment fresh bytes none block =
    or_from (starts_with nat_eq bytes (codes "/*")) (starts_with nat_eq bytes (codes "//")) block
    (false_from_ne_true _ (λ line. none LineComment (line_len bytes) (line, refl)))

pub nil_token : is_token [] ≡ false
unfolding sign_kind signs
nil_token = refl

-- a token takes at least one byte
pub token-some : (bytes : List ℕ) (n : ℕ) → IsLongestOf is_token bytes n → 0 < n
token-some bytes zero long = absurd (both_ways (is_token []) nil_token long.passes)
token-some bytes (suc n) long = omega arith

-- where nothing begins, reading stops as unended or at a bad byte
pub stuck : (unit : ℕ) (wide : Bool) (words : Meanings) (bytes : List ℕ) (front : Front) (stop : Stop)
    → stop ≡ (if opens (drop front.at bytes) then Unended else BadByte) → IsStuck bytes front
    → StopsAt unit wide words bytes front front stop
stuck unit wide words bytes front stop is h = by_test (opens (drop front.at bytes)) refl is
  where
    by_test : (b : Bool) → opens (drop front.at bytes) ≡ b → stop ≡ (if b then Unended else BadByte)
        → StopsAt unit wide words bytes front front stop
    by_test true e is = rw is (refl, h, e)
    by_test false e is = rw is (refl, h, e)
