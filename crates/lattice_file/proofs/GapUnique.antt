-- A gap that goes as far as it can ends at one place.
use Rattle.std.proofs.Common.{◌≡◌, ℕ, ◌+◌, Bool, true, false, not, nat_eq, List, [], ◌∷◌, ◌++◌, refl, sym, subst, arith, add-one}
use Rattle.std.specs.Prelude.{slice_index}
use Rattle.std.specs.List.{list_all}
use Rattle.qual_base.proofs.Tests.{and_second, and_first}
use Rattle.lattice_file.specs.Text.{Gap, Nothing, Blank, Comment, Line, is_blank, StaysOpen, stays_on_line, ends_line}

pub head_same : (x y : ℕ) (xs ys : List ℕ) → x ∷ xs ≡ y ∷ ys → x ≡ y
head_same x y xs ys e = cc

pub tail_same : (x y : ℕ) (xs ys : List ℕ) → x ∷ xs ≡ y ∷ ys → xs ≡ ys
tail_same x y xs ys e = cc

-- A row of bytes that pass a test, up to where none can pass, is one.
pub row_one : (p : ℕ → Bool) (Stop : List ℕ → Type 0) → ((b : ℕ) (bytes : List ℕ) → Stop (b ∷ bytes) → p b ≡ true → ⊥)
    → (t u a b : List ℕ) →
    list_all p t ≡ true → list_all p u ≡ true → Stop a → Stop b → t ++ a ≡ u ++ b → (t ≡ u) × (a ≡ b)
row_one p Stop clash [] [] a b ht hu sa sb e = (refl, e)
row_one p Stop clash [] (y ∷ u) a b ht hu sa sb e =
    absurd (clash y (u ++ b) (subst Stop e sa) (and_first (p y) (list_all p u) hu))
row_one p Stop clash (x ∷ t) [] a b ht hu sa sb e =
    absurd (clash x (t ++ a) (subst Stop (sym e) sb) (and_first (p x) (list_all p t) ht))
row_one p Stop clash (x ∷ t) (y ∷ u) a b ht hu sa sb e =
    let rest = row_one p Stop clash t u a b (and_second (p x) (list_all p t) ht)
    (and_second (p y) (list_all p u) hu) sa sb (tail_same x y (t ++ a) (u ++ b) e) in
    (cons_same x y t u (head_same x y (t ++ a) (u ++ b) e) rest.0, rest.1)
  where
    cons_same : (x y : ℕ) (t u : List ℕ) → x ≡ y → t ≡ u → x ∷ t ≡ y ∷ u
    cons_same x y t u e f = cc

-- a byte that ends a line does not stay on it
line_stop : (b : ℕ) (bytes : List ℕ) → ends_line (b ∷ bytes) ≡ true → stays_on_line b ≡ true → ⊥
line_stop b bytes h s =
    let no : not (nat_eq b 10) ≡ true = s in
    let yes : nat_eq b 10 ≡ true = h in
    clash (nat_eq b 10) yes no
  where
    clash : (c : Bool) → c ≡ true → not c ≡ true → ⊥
    clash true h n = cc
    clash false h n = cc

-- a text that stays open does so without its first byte
pub open_behind : (x : ℕ) (t : List ℕ) → StaysOpen (x ∷ t) → StaysOpen t
open_behind x t stays k lt p q =
    stays (k + 1) (omega (arith, lt)) (rw (at_behind x t k) p) (rw (at_behind x t (k + 1)) q)
  where
    at_behind : (x : ℕ) (t : List ℕ) (k : ℕ) → slice_index (x ∷ t) (k + 1) ≡ slice_index t k
    at_behind x t k = rw add-one refl

pub star_slash : ◌≡◌ {A = ℕ} 47 42 → ⊥
star_slash e = omega (arith, e)

pub slash_blank : (b : ℕ) → b ≡ 47 → is_blank b ≡ true → ⊥
slash_blank b e h = let there : is_blank 47 ≡ true = subst (λ (b : ℕ). is_blank b ≡ true) e h in absurd cc

-- bytes that begin with `*/` are not a byte or more that stay open and a `*/` behind them
not_inside : (u a b : List ℕ) (y : ℕ) → StaysOpen (y ∷ u) → 42 ∷ 47 ∷ a ≡ y ∷ (u ++ 42 ∷ 47 ∷ b) → ⊥
not_inside [] a b y stays e = star_slash (head_same 47 42 a (47 ∷ b) (tail_same 42 y (47 ∷ a) (42 ∷ 47 ∷ b) e))
not_inside (z ∷ u) a b y stays e =
    stays 0 (omega arith) (sym (head_same 42 y (47 ∷ a) ((z ∷ u) ++ 42 ∷ 47 ∷ b) e))
    (sym (head_same 47 z a (u ++ 42 ∷ 47 ∷ b) (tail_same 42 y (47 ∷ a) ((z ∷ u) ++ 42 ∷ 47 ∷ b) e)))

-- the first */ is one
pub comment_one : (t u a b : List ℕ) → StaysOpen t → StaysOpen u → t ++ 42 ∷ 47 ∷ a ≡ u ++ 42 ∷ 47 ∷ b → a ≡ b
comment_one [] [] a b ot ou e = tail_same 47 47 a b (tail_same 42 42 (47 ∷ a) (47 ∷ b) e)
comment_one [] (y ∷ u) a b ot ou e = absurd (not_inside u a b y ou e)
comment_one (x ∷ t) [] a b ot ou e = absurd (not_inside t b a x ot (sym e))
comment_one (x ∷ t) (y ∷ u) a b ot ou e =
    comment_one t u a b (open_behind x t ot) (open_behind y u ou)
    (tail_same x y (t ++ 42 ∷ 47 ∷ a) (u ++ 42 ∷ 47 ∷ b) e)

-- what may stand first in a gap
pub data GapView (bytes rest : List ℕ) : Type 0 where
  ViewNothing : rest ≡ bytes → GapView bytes rest
  ViewBlank : (b : ℕ) (behind : List ℕ) → bytes ≡ b ∷ behind → is_blank b ≡ true → Gap behind rest → GapView bytes rest
  ViewComment : (text behind : List ℕ) → bytes ≡ 47 ∷ 42 ∷ text ++ 42 ∷ 47 ∷ behind → StaysOpen text → Gap behind rest
      → GapView bytes rest
  ViewLine : (text behind : List ℕ) → bytes ≡ 47 ∷ 47 ∷ text ++ behind → list_all stays_on_line text ≡ true
      → ends_line behind ≡ true → Gap behind rest → GapView bytes rest

-- a gap is nothing, or a blank, a comment or the rest of a line, and a gap behind it
pub gap_view : (bytes rest : List ℕ) → Gap bytes rest → GapView bytes rest
gap_view bytes rest (Nothing _) = ViewNothing refl
gap_view bytes rest (Blank b behind _ is gap) = ViewBlank b behind refl is gap
gap_view bytes rest (Comment text behind _ inside gap) = ViewComment text behind refl inside gap
gap_view bytes rest (Line text behind _ inside ends gap) = ViewLine text behind refl inside ends gap

-- no gap goes on from here
abbrev pub IsStuck : List ℕ → Type 0
IsStuck bytes = (rest : List ℕ) → Gap bytes rest → rest ≡ bytes

-- two gaps in the same bytes, behind each of which no gap goes on, end at one place
pub gap_one : (bytes x y : List ℕ) → Gap bytes x → Gap bytes y → IsStuck x → IsStuck y → x ≡ y
gap_one bytes x y (Nothing _) on sx sy = sym (sx y on)
gap_one bytes x y (Blank b behind _ is gap) on sx sy =
    go (λ y on sy. gap_one behind x y gap on sx sy) (gap_view (b ∷ behind) y on)
  where
    go : ((y : List ℕ) → Gap behind y → IsStuck y → x ≡ y) → GapView (b ∷ behind) y → x ≡ y
    go again (ViewNothing e) = sy x (rw e (Blank b behind x is gap))
    go again (ViewBlank c other e isc on) = again y (rw (tail_same b c behind other e) on) sy
    go again (ViewComment text other e inside on) =
        absurd (slash_blank b (head_same b 47 behind (42 ∷ text ++ 42 ∷ 47 ∷ other) e) is)
    go again (ViewLine text other e inside ends on) =
        absurd (slash_blank b (head_same b 47 behind (47 ∷ text ++ other) e) is)
gap_one bytes x y (Comment text behind _ inside gap) on sx sy =
    go (λ y on sy. gap_one behind x y gap on sx sy) (gap_view (47 ∷ 42 ∷ text ++ 42 ∷ 47 ∷ behind) y on)
  where
    go : ((y : List ℕ) → Gap behind y → IsStuck y → x ≡ y) → GapView (47 ∷ 42 ∷ text ++ 42 ∷ 47 ∷ behind) y → x ≡ y
    go again (ViewNothing e) = sy x (rw e (Comment text behind x inside gap))
    go again (ViewBlank c other e isc on) =
        absurd (slash_blank c (sym (head_same 47 c (42 ∷ text ++ 42 ∷ 47 ∷ behind) other e)) isc)
    go again (ViewComment u other e stays on) =
        let same = comment_one text u behind other inside stays (tail_same 42 42 (text ++ 42 ∷ 47 ∷ behind)
        (u ++ 42 ∷ 47 ∷ other) (tail_same 47 47 (42 ∷ text ++ 42 ∷ 47 ∷ behind) (42 ∷ u ++ 42 ∷ 47 ∷ other) e)) in
        again y (rw same on) sy
    go again (ViewLine u other e stays ends on) =
        absurd (star_slash (sym (head_same 42 47 (text ++ 42 ∷ 47 ∷ behind) (u ++ other)
        (tail_same 47 47 (42 ∷ text ++ 42 ∷ 47 ∷ behind) (47 ∷ u ++ other) e))))
gap_one bytes x y (Line text behind _ inside ends gap) on sx sy =
    go (λ y on sy. gap_one behind x y gap on sx sy) (gap_view (47 ∷ 47 ∷ text ++ behind) y on)
  where
    go : ((y : List ℕ) → Gap behind y → IsStuck y → x ≡ y) → GapView (47 ∷ 47 ∷ text ++ behind) y → x ≡ y
    go again (ViewNothing e) = sy x (rw e (Line text behind x inside ends gap))
    go again (ViewBlank c other e isc on) =
        absurd (slash_blank c (sym (head_same 47 c (47 ∷ text ++ behind) other e)) isc)
    go again (ViewComment u other e stays on) =
        absurd (star_slash (head_same 47 42 (text ++ behind) (u ++ 42 ∷ 47 ∷ other)
        (tail_same 47 47 (47 ∷ text ++ behind) (42 ∷ u ++ 42 ∷ 47 ∷ other) e)))
    go again (ViewLine u other e stays stops on) =
        let same =
        row_one stays_on_line (λ bytes. ends_line bytes ≡ true) line_stop text u behind other inside stays ends stops
        (tail_same 47 47 (text ++ behind) (u ++ other) (tail_same 47 47 (47 ∷ text ++ behind) (47 ∷ u ++ other) e)) in
        again y (rw same.1 on) sy
