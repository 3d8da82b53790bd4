-- A token is the key of one expression at most, so what stands there is what is found first.
use Rattle.std.proofs.Common.{◌≡◌, ℕ, zero, suc, ◌+◌, ◌≤◌, Bool, true, false, nat_eq, Contains, List, [], ◌∷◌, ◌++◌, Option, None, Some, ◌⊎◌, inl, inr, refl, ◌∙◌, ap, arith}
use Rattle.std.specs.Prelude.{if◌then◌else◌}
use Rattle.std.proofs.lemmas.Bool.{eq-eqb, and_right, and_from}
use Rattle.tape_ops.specs.declared.op.Op.{Op}
use Rattle.tape_ops.specs.declared.op.Op.TheVariants as ops
use Rattle.name_rules.specs.Spellings.{Spelling, place}
use Rattle.name_rules.specs.Scopes.{Names, is_place}
use Rattle.name_rules.specs.Values.{Shape}
use Rattle.name_rules.specs.ShapeSteps.State.{State}
use Rattle.name_rules.specs.ShapeSteps.Steps.{step}
use Rattle.row_laws.specs.KeyLaws.Tokens.{op_token, added, counted}
use Rattle.expr_types.specs.Keys.{op_key}
use Rattle.expr_types.specs.Along.{Keyed, op_shape, keyed, shapes_along, first_at}

pub cons_cases : {X : Type 0} (x : X) (xs : List X) (y : X) → Contains (x ∷ xs) y → (x ≡ y) ⊎ Contains xs y
cons_cases x xs y (zero, lt, is) = inl is
cons_cases x xs y (suc k, lt, is) = inr (k, omega (arith, lt), is)

pub none_in : {X : Type 0} (y : X) → Contains [] y → ⊥
none_in y (k, lt, is) = absurd (omega (arith, lt))

-- the key of an op is the token that it stands at

-- an op counts a number no more often as its key than as its token
key_is_token : (n : ℕ) (op : Op) → added n (op_key op) ≤ added n (op_token op)
key_is_token n (ops.Expr op) = omega arith
key_is_token n (ops.Form op) = omega arith
key_is_token n (ops.Init op) = omega arith
key_is_token n (ops.Spec op) = omega arith
key_is_token n (ops.Declr op) = omega arith
key_is_token n (ops.Stmt op) = omega arith

abbrev pub counted_keys : ℕ → List Op → ℕ
counted_keys n [] = 0
counted_keys n (op ∷ tape) = added n (op_key op) + counted_keys n tape

pub are_tokens : (n : ℕ) (tape : List Op) → counted_keys n tape ≤ counted n tape
are_tokens n [] = omega arith
are_tokens n (op ∷ tape) = let a = key_is_token n op in let b = are_tokens n tape in omega (arith, a, b)

-- choices

picks : {A : Type 0} (b : Bool) (x y : A) → b ≡ true → (if b then x else y) ≡ x
picks true x y is = refl
picks false x y is = absurd cc

passes : {A : Type 0} (b : Bool) (x y : A) → b ≡ false → (if b then x else y) ≡ y
passes true x y is = absurd cc
passes false x y is = refl

one_more : (b : Bool) (m : ℕ) → b ≡ true → 1 ≤ (if b then 1 else 0) + m
one_more true m is = omega arith
one_more false m is = absurd cc

other : (b : Bool) (m : ℕ) → (if b then 1 else 0) + m ≤ 1 → 1 ≤ m → b ≡ false
other true m most one = absurd (omega (arith, most, one))
other false m most one = refl

module _ (u : Spelling) (s : Names) where
  abbrev keyed_at : ℕ → Shape → Keyed
  keyed_at token shape = record { at = place u token; shape = shape }

  same_token : (t token : ℕ) (x shape : Shape) → keyed_at t x ≡ keyed_at token shape → nat_eq t token ≡ true
  same_token t token x shape e = eq-eqb t token (ap (λ (k : Keyed). k.at.1) e)

  -- the first of a list, with the key of one op, and the others
  module _ (x : Shape) (rest : List Keyed) (tape : List Op) (token : ℕ) (shape : Shape) where
    counts : (key : Option ℕ) → Contains (keyed u key x ++ rest) (keyed_at token shape)
        → (Contains rest (keyed_at token shape) → 1 ≤ counted_keys token tape)
        → 1 ≤ added token key + counted_keys token tape
    counts None g others = let a = others g in omega (arith, a)
    counts (Some t) g others = elim (cons_cases (keyed_at t x) rest (keyed_at token shape) g) [
      | inl e ↦ one_more (nat_eq t token) (counted_keys token tape) (same_token t token x shape e)
      | inr f ↦ (let a = others f in omega (arith, a))
    ]

    finds : (key : Option ℕ) → Contains (keyed u key x ++ rest) (keyed_at token shape)
        → added token key + counted_keys token tape ≤ 1
        → (Contains rest (keyed_at token shape) → 1 ≤ counted_keys token tape)
        → (counted_keys token tape ≤ 1 → Contains rest (keyed_at token shape)
        → first_at rest (place u token) ≡ Some shape)
        → first_at (keyed u key x ++ rest) (place u token) ≡ Some shape
    finds None g most one others = others (omega (arith, most)) g
    finds (Some t) g most one others = elim (cons_cases (keyed_at t x) rest (keyed_at token shape) g) [
      | inl e ↦ picks (is_place (place u t) (place u token)) (Some x) (first_at rest (place u token))
          (and_from (nat_eq u.unit u.unit) (nat_eq t token) (eq-eqb u.unit u.unit refl) (same_token t token x shape e))
          ∙ ap (λ (k : Keyed). Some k.shape) e
      | inr f ↦ passes (is_place (place u t) (place u token)) (Some x) (first_at rest (place u token))
          (and_right (nat_eq u.unit u.unit) (nat_eq t token)
          (other (nat_eq t token) (counted_keys token tape) most (one f)))
          ∙ others (omega (arith, most)) f
    ]

  -- an expression that stands along a tape has an op
  stands_once : (tape : List Op) (st : State) (token : ℕ) (shape : Shape)
      → Contains (shapes_along u s st tape) (keyed_at token shape) → 1 ≤ counted_keys token tape
  stands_once [] st token shape h = absurd (none_in (keyed_at token shape) h)
  stands_once (op ∷ tape) st token shape h =
      let behind = step u s st op in
      counts (op_shape st behind op) (shapes_along u s behind tape) tape token shape (op_key op) h
      (stands_once tape behind token shape)

  -- and is found first where its token is that of no other one
  pub found_once : (tape : List Op) (st : State) (token : ℕ) (shape : Shape) → counted_keys token tape ≤ 1
      → Contains (shapes_along u s st tape) (keyed_at token shape)
      → first_at (shapes_along u s st tape) (place u token) ≡ Some shape
  found_once [] st token shape most h = absurd (none_in (keyed_at token shape) h)
  found_once (op ∷ tape) st token shape most h =
      let behind = step u s st op in
      finds (op_shape st behind op) (shapes_along u s behind tape) tape token shape (op_key op) h most
      (stands_once tape behind token shape) (found_once tape behind token shape)
