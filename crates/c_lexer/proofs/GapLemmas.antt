-- Gaps in front of some bytes.
use Rattle.std.proofs.Common.{◌≡◌, ℕ, zero, suc, ◌+◌, ◌-◌, ◌<◌, ◌≤◌, true, not, ◌==◌, List, length, drop, get_or, sym, ◌∙◌, ap, arith, nat_eq, codes, Option, Some, None, inl, inr, ◌⊎◌, unwrap_or}
use Rattle.std.specs.List.{starts_with}
use Rattle.std.proofs.lemmas.Bool.{cases_lt, not_from_true, not_from_false, false_from_ne_true}
use Rattle.std.proofs.lemmas.List.{get_or-drop, length-drop, get_or_past}
use Rattle.std.proofs.lemmas.List.Sums.{prefix_len_is}
use Rattle.memchr.specs.Find.{IsFirstByte, FindsNeedle, OccursAt, is_byte}
use Rattle.c_lexer.specs.Gaps.{line_len, ClosesAt, IsBlockComment}

-- what a search for a line feed says
no_feed : (x : ℕ) → ((x == 10) ≡ true → ⊥) → not (x == 10) ≡ true
no_feed x h = not_from_false (x == 10) (false_from_ne_true (x == 10) h)

-- the place of the first line feed, or else the end, is the length of the line
pub line-len : (bytes : List ℕ) (r : Option ℕ) → IsFirstByte (is_byte 10) bytes r
    → unwrap_or r (length bytes) ≡ line_len bytes
line-len bytes None h =
    sym (prefix_len_is (λ c. not (c == 10)) bytes (length bytes) 0 (omega arith)
    (λ k lt. no_feed (get_or bytes k 0) (h k (omega arith) lt)) (λ lt. absurd (omega arith)))
line-len bytes (Some k) h =
    sym (prefix_len_is (λ c. not (c == 10)) bytes k 0 (let high = h.0.high in omega arith)
    (λ i lt. no_feed (get_or bytes i 0) (h.0.before i (omega arith) lt))
    (λ lt. not_from_true (get_or bytes k 0 == 10) h.1))

-- `*/` stands at a place behind the first two bytes
occurs_closes : (bytes : List ℕ) (k : ℕ) → OccursAt (drop 2 bytes) (codes "*/") k → ClosesAt bytes (2 + k)
occurs_closes bytes k o = (
  sym (get_or-drop 2 bytes k 0) ∙ (let e : k ≡ k + 0 = omega arith in ap (λ i. get_or (drop 2 bytes) i 0) e)
      ∙ o.reads 0 (omega arith),
  (let e : 2 + k + 1 ≡ 2 + (k + 1) = omega arith in ap (λ i. get_or bytes i 0) e) ∙ sym (get_or-drop 2 bytes (k + 1) 0)
      ∙ o.reads 1 (omega arith),
)

-- a `*/` stands within the bytes
pub closes_inside : (bytes : List ℕ) (k : ℕ) → ClosesAt bytes k → k + 2 ≤ length bytes
closes_inside bytes k h = by_order (cases_lt (k + 1) (length bytes))
  where
    by_order : (k + 1 < length bytes) ⊎ (length bytes ≤ k + 1) → k + 2 ≤ length bytes
    by_order (inl lt) = omega arith
    by_order (inr ge) = absurd (let e : 0 ≡ 47 = sym (get_or_past bytes (k + 1) 0 ge) ∙ h.1 in omega (arith, e))

-- a `*/` behind the first two bytes occurs in what is left without them
closes_occurs : (bytes : List ℕ) (k : ℕ) → ClosesAt bytes (2 + k) → OccursAt (drop 2 bytes) (codes "*/") k
closes_occurs bytes k h = record {
  fits = (let i = closes_inside bytes (2 + k) h in let l = length-drop 2 bytes in omega arith);
  reads = reads;
}
  where
    reads : (j : ℕ) → j < 2 → get_or (drop 2 bytes) (k + j) 0 ≡ get_or (codes "*/") j 0
    reads zero lt =
        get_or-drop 2 bytes (k + 0) 0
        ∙ (let e : 2 + (k + 0) ≡ 2 + k = omega arith in ap (λ i. get_or bytes i 0) e) ∙ h.0
    reads (suc zero) lt =
        get_or-drop 2 bytes (k + 1) 0
        ∙ (let e : 2 + (k + 1) ≡ 2 + k + 1 = omega arith in ap (λ i. get_or bytes i 0) e) ∙ h.1
    reads (suc (suc j)) lt = absurd (omega arith)

-- `/*` and all up to the first `*/` behind it are a block comment
pub block-found : (bytes : List ℕ) (k : ℕ) → starts_with nat_eq bytes (codes "/*") ≡ true
    → FindsNeedle (drop 2 bytes) (codes "*/") 0 (Some k) → IsBlockComment bytes (k + 4)
block-found bytes k opens h = record {
  opens = opens;
  long = omega arith;
  closes = (let e : k + 4 - 2 ≡ 2 + k = omega arith in rw e (occurs_closes bytes k h.1));
  first = λ i lo lt closes.
      h.0.before (i - 2) (omega arith) (omega arith)
      (closes_occurs bytes (i - 2) (let e : 2 + (i - 2) ≡ i = omega arith in rw e closes));
}

-- where no `*/` is found behind `/*`, no front is a block comment
pub block-none : (bytes : List ℕ) → FindsNeedle (drop 2 bytes) (codes "*/") 0 None → (n : ℕ) → ¬ IsBlockComment bytes n
block-none bytes h n block =
    let long = block.long in
    let at : ClosesAt bytes (2 + (n - 4)) = (let e : n - 2 ≡ 2 + (n - 4) = omega arith in rw e at block.closes) in
    let found = closes_occurs bytes (n - 4) at in
    h (n - 4) (omega arith) (let f = found.fits in omega arith) found
