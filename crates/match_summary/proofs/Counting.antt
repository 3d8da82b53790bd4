-- A good list has at most as many pairs as there are pairs of variables whose owner is known.
use Rattle.std.proofs.Common.{◌≡◌, ◌≢◌, ℕ, zero, suc, ◌≤◌, ◌<◌, ◌+◌, ◌*◌, ◌/◌, ◌%◌, inl, inr, Bool, List, [], ◌∷◌, Some, length, slice_get, eqb, true, refl, sym, ◌∙◌, ap, subst, arith, AllPairs, unwrap_or}
use Rattle.std.specs.List.{list_any}
use Rattle.std.proofs.lemmas.Bool.{cases_lt, cases_Bool}
use Rattle.std.proofs.lemmas.Bool.Decides.{nat_tests, Decides-eqb}
use Rattle.std.proofs.lemmas.Nat.{div-mul-add, mod-mul-add}
use Rattle.std.proofs.lemmas.Option.{slice_get_past, slice_get-get_or}
use Rattle.std.proofs.lemmas.Map.Made.{IsDistinct-from_AllPairs}
use Rattle.std.proofs.lemmas.Map.Steps.{length-le_from_distinct_below}
use Rattle.std.proofs.Math.Nat.{mul-le-mul_right}
use Rattle.qual_base.specs.declared.places.Owner.TheVariants.{Nobody, Function}
use Rattle.flow_graph.specs.System.{System, owner_of}
use Rattle.match_summary.specs.declared.reason.Summary.{Summary}
use Rattle.match_summary.specs.Closing.{IsGood}

-- one number for each pair of variables below w
abbrev code : ℕ → Summary → ℕ
code w row = row.from * w + row.to

abbrev codes : ℕ → List Summary → List ℕ
codes w [] = []
codes w (row ∷ rows) = code w row ∷ codes w rows

length-codes : (w : ℕ) (rows : List Summary) → length (codes w rows) ≡ length rows
length-codes w [] = refl
length-codes w (row ∷ rows) = ap suc (length-codes w rows)

-- a number at a place of the codes is the code of the summary at that place
code_at : (w : ℕ) (rows : List Summary) (n x : ℕ) → slice_get (codes w rows) n ≡ Some x
    → (row : Summary) × (slice_get rows n ≡ Some row) × (code w row ≡ x)
code_at w [] n x is = absurd cc
code_at w (row ∷ rows) zero x is = (row, refl, cc)
code_at w (row ∷ rows) (suc n) x is = code_at w rows n x is

-- the code of a pair of variables below a number is below its square
code_below : (w : ℕ) (row : Summary) → row.from < w → row.to < w → code w row < w * w
code_below w row a b =
    let most : (row.from + 1) * w ≤ w * w = mul-le-mul_right w (omega (arith, a)) in
    let next : (row.from + 1) * w ≡ row.from * w + w = grind arith in
    grind (arith, most, next, b)

-- where each summary's code is below a square, so is any number among the codes
all_below : (w : ℕ) (rows : List Summary)
    → ((n : ℕ) (row : Summary) → slice_get rows n ≡ Some row → code w row < w * w) →
    (q : ℕ) → list_any (eqb q) (codes w rows) ≡ true → q < w * w
all_below w [] each q has = absurd cc
all_below w (row ∷ rows) each q has = elim (cases_Bool (eqb q (code w row))) [
  | inl t ↦ let e : q ≡ code w row = grind (arith, nat_tests) in let first = each 0 row refl in omega (arith, e, first)
  | inr f ↦ all_below w rows (λ n r is. each (suc n) r is) q (rw f at has)
]

same_from : (w : ℕ) (p q : Summary) → p.to < w → q.to < w → code w p ≡ code w q → p.from ≡ q.from
same_from w p q a b e = sym (div-mul-add p.from w p.to a) ∙ ap (λ n. n / w) e ∙ div-mul-add q.from w q.to b

same_to : (w : ℕ) (p q : Summary) → p.to < w → q.to < w → code w p ≡ code w q → p.to ≡ q.to
same_to w p q a b e = sym (mod-mul-add p.from w p.to a) ∙ ap (λ n. n % w) e ∙ mod-mul-add q.from w q.to b

-- a variable of a function has a known owner
known_owner : (sys : System) (v f : ℕ) → owner_of sys v ≡ Function f → v < length sys.owners
known_owner sys v f is = elim (cases_lt v (length sys.owners)) [
  | inl within ↦ within
  | inr past ↦
      let none : owner_of sys v ≡ Nobody = ap (λ o. unwrap_or o Nobody) (slice_get_past sys.owners v past) in
      absurd cc
]

module _ (sys : System) (lattice : ℕ) (marks : List Bool) (rows : List Summary)
    (good : IsGood sys lattice marks rows) where
  from_known : (n : ℕ) (row : Summary) → slice_get rows n ≡ Some row → row.from < length sys.owners
  from_known n row is = let one = (good.grounded n row is).inside in known_owner sys row.from one.0 one.1

  to_known : (n : ℕ) (row : Summary) → slice_get rows n ≡ Some row → row.to < length sys.owners
  to_known n row is = let one = (good.grounded n row is).inside in known_owner sys row.to one.0 one.2

  -- two rows of one pair stand in one place
  one_place : (n m : ℕ) (p q : Summary) → slice_get rows n ≡ Some p → slice_get rows m ≡ Some q
      → code (length sys.owners) p ≡ code (length sys.owners) q → n ≡ m
  one_place n m p q a b e =
      let from = same_from (length sys.owners) p q (to_known n p a) (to_known m q b) e in
      let to = same_to (length sys.owners) p q (to_known n p a) (to_known m q b) e in
      good.once n m p.from p.to p.why q.why a
      (b ∙ ap (λ u. Some (record { from = u; to = q.to; why = q.why })) (sym from)
      ∙ ap (λ v. Some (record { from = p.from; to = v; why = q.why })) (sym to))

  apart : AllPairs (λ x y. x ≢ y) (codes (length sys.owners) rows)
  apart i j d less within same =
      let first = code_at (length sys.owners) rows i _
      (slice_get-get_or (codes (length sys.owners) rows) i d (omega (arith, less, within))) in
      let second =
      code_at (length sys.owners) rows j _ (slice_get-get_or (codes (length sys.owners) rows) j d within) in
      let at : i ≡ j = one_place i j first.0 second.0 first.1 second.1 (first.2 ∙ same ∙ sym second.2) in
      omega (arith, at, less)

  pub few_pairs : length rows ≤ length sys.owners * length sys.owners
  few_pairs = subst (λ n. n ≤ length sys.owners * length sys.owners) (length-codes (length sys.owners) rows)
      (length-le_from_distinct_below (codes (length sys.owners) rows) (length sys.owners * length sys.owners)
      (IsDistinct-from_AllPairs Decides-eqb (codes (length sys.owners) rows) apart)
      (all_below (length sys.owners) rows (λ n row is.
      code_below (length sys.owners) row (from_known n row is) (to_known n row is))))
