-- A stack after a variable was put on it or taken from it.
use Rattle.std.proofs.Common.{◌≡◌, ◌≢◌, ℕ, ◌+◌, ◌-◌, ◌<◌, ◌≤◌, Bool, true, false, List, length, get_or, set, arith, refl, sym, ◌∙◌, subst, inl, inr, slice_get, Some}
use Rattle.std.proofs.lemmas.Bool.{cases_eq}
use Rattle.std.proofs.lemmas.List.{get_or-set_same, get_or-set_other, length-set, get_or_read}
use Rattle.std.proofs.lemmas.Option.{slice_get-get_or, get_or_from_slice_get, slice_get_within, slice_get_read}
use Rattle.qual_base.proofs.Tests.{some_number}
use Rattle.lattice_solver.specs.Stack.{marked}
use Rattle.lattice_solver.proofs.Marks.{marked_less}

-- the places hold each variable that is marked
abbrev pub Held : List ℕ → ℕ → List Bool → Type 0
Held places count marks = (v : ℕ) → get_or marks v false ≡ true → (i : ℕ) × (i < count) × (slice_get places i ≡ Some v)

abbrev pub Low : List ℕ → ℕ → List Bool → Type 0
Low places count marks = (i v : ℕ) → i < count → slice_get places i ≡ Some v → v < length marks

-- a place that was just set has what it was set to
slice_set_same : (places : List ℕ) (i at : ℕ) → i < length places → slice_get (set places i at) i ≡ Some at
slice_set_same places i at within =
    let inside : i < length (set places i at) = subst (λ n. i < n) (sym (length-set places i at)) within in
    slice_get-get_or (set places i at) i 0 inside
    ∙ subst (λ x. Some (get_or (set places i at) i 0) ≡ Some x) (get_or-set_same places i at 0 within) refl

-- setting one place leaves the others as they are
slice_set_other : (places : List ℕ) (i j at v : ℕ) → j ≢ i → slice_get places j ≡ Some v
    → slice_get (set places i at) j ≡ Some v
slice_set_other places i j at v ne there =
    let within = slice_get_within places j v there in
    let inside : j < length (set places i at) = subst (λ n. j < n) (sym (length-set places i at)) within in
    let is : get_or (set places i at) j 0 ≡ v =
    get_or-set_other places i j at 0 ne ∙ get_or_from_slice_get places j v 0 there in
    slice_get-get_or (set places i at) j 0 inside ∙ subst (λ x. Some (get_or (set places i at) j 0) ≡ Some x) is refl

module _ (places : List ℕ) (count at : ℕ) (marks : List Bool) (within : at < length marks)
    (room : count < length places) where
  pub push_low : Low places count marks → Low (set places count at) (count + 1) (set marks at true)
  push_low low i v lt there = subst (λ n. v < n) (sym (length-set marks at true)) (elim (cases_eq i count) [
    | inl top ↦
        let is : v ≡ at = some_number (sym there
        ∙ subst (λ k. slice_get (set places count at) k ≡ Some at) (sym top) (slice_set_same places count at room)) in
        subst (λ x. x < length marks) (sym is) within
    | inr under ↦
        let long = slice_get_within (set places count at) i v there in
        let inside : i < length places = subst (λ n. i < n) (length-set places count at) long in
        let old : slice_get places i ≡ Some (get_or places i 0) = slice_get-get_or places i 0 inside in
        let is : v ≡ get_or places i 0 =
        some_number (sym there ∙ slice_set_other places count i at (get_or places i 0) under old) in
        low i v (omega (arith, lt, under)) (old ∙ subst (λ x. Some (get_or places i 0) ≡ Some x) (sym is) refl)
  ])

  pub push_held : Held places count marks → Held (set places count at) (count + 1) (set marks at true)
  push_held held v set_now = elim (cases_eq v at) [
    | inl is ↦ (
      count,
      omega arith,
      subst (λ x. slice_get (set places count at) count ≡ Some x) (sym is) (slice_set_same places count at room),
    )
    | inr ne ↦
        let was = held v (sym (get_or-set_other marks at v true false ne) ∙ set_now) in
        let low : was.0 < count = was.1 in
        (was.0, omega (arith, low), slice_set_other places count was.0 at v (λ e. absurd (omega (arith, low, e))) was.2)
  ]

module _ (places : List ℕ) (count at : ℕ) (marks : List Bool) (some : 0 < count)
    (top : slice_get places (count - 1) ≡ Some at) where
  pub pop_low : Low places count marks → Low places (count - 1) (set marks at false)
  pop_low low i v lt there = subst (λ n. v < n) (sym (length-set marks at false)) (low i v (omega (arith, lt)) there)

  unset : at < length marks → (v : ℕ) → get_or (set marks at false) v false ≡ true → v ≢ at
  unset within v set_now e =
      let is : get_or (set marks at false) v false ≡ false =
      subst (λ k. get_or (set marks at false) k false ≡ false) (sym e) (get_or-set_same marks at false false within) in
      let no : true ≡ false = sym set_now ∙ is in absurd cc

  pub pop_held : at < length marks → Held places count marks → Held places (count - 1) (set marks at false)
  pop_held within held v set_now =
      let ne = unset within v set_now in
      let was = held v (sym (get_or-set_other marks at v false false ne) ∙ set_now) in
      let low : was.0 < count = was.1 in
      elim (cases_eq was.0 (count - 1)) [
        | inl same ↦ absurd (ne (some_number (sym was.2 ∙ subst (λ k. slice_get places k ≡ Some at) (sym same) top)))
        | inr under ↦ (was.0, omega (arith, low, under), was.2)
      ]

-- a variable that is not marked finds a place
pub free_place : (places : List ℕ) (count at : ℕ) (marks : List Bool) (mark : Bool) → length places ≡ length marks
    → count ≤ marked marks → at < length marks →
    mark ≡ get_or marks at mark → mark ≡ false → count < length places
free_place places count at marks mark same height within is unset =
    let less = marked_less marks at within (sym (get_or_read marks at mark within is false) ∙ unset) in
    omega (arith, less, height, same)

-- the top of the stack
pub top_there : (places : List ℕ) (count top : ℕ) → count - 1 < length places → top ≡ get_or places (count - 1) top
    → slice_get places (count - 1) ≡ Some top
top_there places count top within is = slice_get_read places (length places) (count - 1) top refl within is
