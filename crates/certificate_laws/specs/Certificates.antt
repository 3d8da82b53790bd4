-- Certificates of acceptance: pairs of variables and two sets of elements for each variable, and the rules that they
-- obey.
use Rattle.std.specs.Prelude.{◌≡◌, ℕ, ◌<◌, Bool, true, ◌↔◌, ◌⊎◌}
use Rattle.qual_base.specs.declared.places.Owner.TheVariants.{Nobody, Function}
use Rattle.lattice_core.specs.Order.{Order, leq}
use Rattle.flow_graph.specs.declared.constraint.Link.TheVariants.{Le, Const, Bound, Enter, Leave}
use Rattle.flow_graph.specs.System.{System, owner_of, Stands}
use Rattle.flow_graph.specs.Paths.{Match, Returning, Lead}
use Rattle.certificate_laws.specs.declared.rule.CertRule.{CertRule}
use Rattle.certificate_laws.specs.declared.rule.CertRule.TheVariants.{A1, A2, A3, A4, A5, A6, A7, A8, A9}

-- Tests of two variables, whether they are a pair, and of a variable and an element, whether it is in the variable's
-- set:
-- the first set is of what may leave by any call, the second of all that may come.
pub record Certificate : Type 0 where
  pub paired : ℕ → ℕ → Bool
  pub first : ℕ → ℕ → Bool
  pub second : ℕ → ℕ → Bool

-- each element of a set is in another
abbrev pub Within : (ℕ → Bool) → (ℕ → Bool) → Type 0
Within one other = (e : ℕ) → one e ≡ true → other e ≡ true

-- What each rule asks, over the constraints of one lattice.
abbrev pub ObeysRule : System → ℕ → Order → Certificate → CertRule → Type 0
ObeysRule sys lattice order c A1 = (n e v : ℕ) → Stands sys lattice n (Const lattice e v) → c.first v e ≡ true
ObeysRule sys lattice order c A2 =
    (v : ℕ) → Within (c.first v) (c.second v) × (owner_of sys v ≡ Nobody → Within (c.second v) (c.first v))
ObeysRule sys lattice order c A3 =
    (n u v : ℕ) → Stands sys lattice n (Le u v) → Within (c.first u) (c.first v) × Within (c.second u) (c.second v)
ObeysRule sys lattice order c A4 = (n s u v : ℕ) → Stands sys lattice n (Leave s u v) → Within (c.first u) (c.first v)
ObeysRule sys lattice order c A5 =
    (n s u x : ℕ) → Stands sys lattice n (Enter s u x) → Within (c.second u) (c.second x) × (c.paired x x ≡ true)
ObeysRule sys lattice order c A6 =
    (n u v z f : ℕ) → Stands sys lattice n (Le u v) → owner_of sys v ≡ Function f → c.paired z u ≡ true
    → c.paired z v ≡ true
ObeysRule sys lattice order c A7 =
    (n m s u x y v : ℕ) → Stands sys lattice n (Enter s u x) → c.paired x y ≡ true
    → Stands sys lattice m (Leave s y v) →
    Within (c.first u) (c.first v) × ((z : ℕ) → c.paired z u ≡ true → c.paired z v ≡ true)
ObeysRule sys lattice order c A8 = (z u : ℕ) → c.paired z u ≡ true → Within (c.second z) (c.second u)
ObeysRule sys lattice order c A9 =
    (n v b : ℕ) → Stands sys lattice n (Bound v lattice b) → (e : ℕ) → c.second v e ≡ true → leq order e b ≡ true

-- the certificate obeys each of the rules
abbrev pub Obeys : System → ℕ → Order → Certificate → Type 0
Obeys sys lattice order c = (rule : CertRule) → ObeysRule sys lattice order c rule

-- the place of a rule among them
abbrev pub number_of : CertRule → ℕ
number_of A1 = 1
number_of A2 = 2
number_of A3 = 3
number_of A4 = 4
number_of A5 = 5
number_of A6 = 6
number_of A7 = 7
number_of A8 = 8
number_of A9 = 9

-- the certificate does not obey this rule, and obeys those before it
pub record IsLowestFailing (sys : System) (lattice : ℕ) (order : Order) (c : Certificate)
    (rule : CertRule) : Type 0 where
  pub fails : ObeysRule sys lattice order c rule → ⊥
  pub before : (other : CertRule) → number_of other < number_of rule → ObeysRule sys lattice order c other

-- an Enter of the lattice leads to the variable
abbrev pub IsInnerEnd : System → ℕ → ℕ → Type 0
IsInnerEnd sys lattice x = (n : ℕ) × (s : ℕ) × (u : ℕ) × Stands sys lattice n (Enter s u x)

-- nothing or a matched path leads from an inner end to a variable
abbrev pub IsJoined : System → ℕ → ℕ → ℕ → Type 0
IsJoined sys lattice x v = IsInnerEnd sys lattice x × ((x ≡ v) ⊎ Match sys lattice x v)

-- The certificate that is written: the pairs that matched paths join from inner ends, and what leads to each variable.
pub record IsWritten (sys : System) (lattice : ℕ) (c : Certificate) : Type 0 where
  pub paired : (x v : ℕ) → (c.paired x v ≡ true) ↔ IsJoined sys lattice x v
  pub first : (v e : ℕ) → (c.first v e ≡ true) ↔ Returning sys lattice e v
  pub second : (v e : ℕ) → (c.second v e ≡ true) ↔ Lead sys lattice e v
