-- What each rule asks of one constraint, one variable and one pair.
use Rattle.std.specs.Prelude.{◌≡◌, ◌≢◌, ℕ, ◌<◌, true}
use Rattle.qual_base.specs.declared.places.Owner.TheVariants.{Nobody, Function}
use Rattle.lattice_core.specs.Order.{Order, leq}
use Rattle.flow_graph.specs.declared.constraint.Link.{Link}
use Rattle.flow_graph.specs.declared.constraint.Link.TheVariants.{Le, Const, Bound, Enter, Leave}
use Rattle.flow_graph.specs.System.{owner_of, Stands}
use Rattle.certificate_laws.specs.declared.rule.CertRule.{CertRule}
use Rattle.certificate_laws.specs.declared.rule.CertRule.TheVariants.{A1, A3, A4, A5, A6, A7, A8, A9}
use Rattle.certificate_laws.specs.Certificates.{Certificate, Within, ObeysRule, number_of}
use Rattle.closure_check.specs.declared.claim.Claim.{Claim}
use Rattle.closure_check.specs.declared.rounds.Going.{Going}
use Rattle.closure_check.specs.declared.rounds.Going.TheVariants.{First, Pair}
use Rattle.closure_check.specs.Index.{IsIndex}
use Rattle.closure_check.specs.Parts.{certificate_of, has, IsPart}

-- each element of a set is in another
abbrev pub IsSubset : ℕ → ℕ → Type 0
IsSubset one other = Within (has one) (has other)

-- each element of a set is at or below an element
abbrev pub AllBelow : Order → ℕ → ℕ → Type 0
AllBelow order set limit = (e : ℕ) → has set e ≡ true → leq order e limit ≡ true

-- what is looked up is that of the constraints, and the lists are a certificate
pub record IsFit (given : Claim) : Type 0 where
  pub index : IsIndex given.graph.now given.index.now
  pub part : IsPart given.graph.now given.lattice.now.order given.part.now

-- the certificate that is claimed
abbrev pub claimed : Claim → Certificate
claimed given = certificate_of given.part.now

-- the first set of a variable is within that of another
abbrev pub IsFirstWithin : Claim → ℕ → ℕ → Type 0
IsFirstWithin given u v = Within ((claimed given).first u) ((claimed given).first v)

-- the second set of a variable is within that of another
abbrev pub IsSecondWithin : Claim → ℕ → ℕ → Type 0
IsSecondWithin given u v = Within ((claimed given).second u) ((claimed given).second v)

-- the certificate obeys a rule
abbrev pub IsObeyed : Claim → CertRule → Type 0
IsObeyed given rule = ObeysRule given.graph.now given.at given.lattice.now.order (claimed given) rule

-- a constraint of the lattice is this link
abbrev pub IsLink : Claim → ℕ → Link → Type 0
IsLink given n link = Stands given.graph.now given.at n link

-- what goes on by a call and a return, goes on to a variable
abbrev pub GoesOn : Claim → Going → ℕ → Type 0
GoesOn given (First u) v = IsFirstWithin given u v
GoesOn given (Pair z) v = (claimed given).paired z v ≡ true

-- it does by one constraint, as a return of a site from a variable
abbrev pub GoesOut : Claim → Going → ℕ → ℕ → ℕ → Type 0
GoesOut given going s y m = (v : ℕ) → IsLink given m (Leave s y v) → GoesOn given going v

-- it does by one constraint, as a return of a site behind a pair that begins at a variable
abbrev pub GoesBack : Claim → Going → ℕ → ℕ → ℕ → Type 0
GoesBack given going s x m = (y : ℕ) → (claimed given).paired x y ≡ true → GoesOut given going s y m

-- it does by each return of a site behind a pair that begins at a variable
abbrev pub GoesRound : Claim → Going → ℕ → ℕ → Type 0
GoesRound given going s x = (y m : ℕ) → (claimed given).paired x y ≡ true → GoesOut given going s y m

-- each element of a variable's second set is at or below an element
abbrev pub IsBounded : Claim → ℕ → ℕ → Type 0
IsBounded given v b = (e : ℕ) → (claimed given).second v e ≡ true → leq given.lattice.now.order e b ≡ true

-- what a rule asks of a link
abbrev pub Asks : Claim → CertRule → Link → Type 0
Asks given rule (Le u v) = rule ≡ A3 → IsFirstWithin given u v × IsSecondWithin given u v
Asks given rule (Const l e v) = rule ≡ A1 → (claimed given).first v e ≡ true
Asks given rule (Bound v l b) = rule ≡ A9 → IsBounded given v b
Asks given rule (Enter s u x) = (rule ≡ A5 → IsSecondWithin given u x × ((claimed given).paired x x ≡ true))
    × (rule ≡ A7 → GoesRound given (First u) s x)
Asks given rule (Leave s u v) = rule ≡ A4 → IsFirstWithin given u v

-- of a constraint
abbrev pub AsksAt : Claim → CertRule → ℕ → Type 0
AsksAt given rule n = (link : Link) → IsLink given n link → Asks given rule link

-- of a variable
abbrev pub AsksVar : Claim → ℕ → Type 0
AsksVar given v = Within ((claimed given).first v) ((claimed given).second v)
    × (owner_of given.graph.now v ≡ Nobody → Within ((claimed given).second v) ((claimed given).first v))

-- of a pair and a constraint that begins at its end
abbrev pub AsksEdge : Claim → CertRule → ℕ → ℕ → ℕ → Type 0
AsksEdge given rule z u n =
    (rule ≡ A6 → (v f : ℕ) → IsLink given n (Le u v) → owner_of given.graph.now v ≡ Function f
    → GoesOn given (Pair z) v)
    × (rule ≡ A7 → (s x : ℕ) → IsLink given n (Enter s u x) → GoesRound given (Pair z) s x)

-- of a pair and all constraints that begin at its end
abbrev pub AsksEdges : Claim → CertRule → ℕ → ℕ → Type 0
AsksEdges given rule z u = (n : ℕ) → AsksEdge given rule z u n

-- of a pair
abbrev pub AsksPair : Claim → CertRule → ℕ → ℕ → Type 0
AsksPair given rule z u = (rule ≡ A8 → IsSecondWithin given z u) × (rule ≢ A8 → AsksEdges given rule z u)

-- what a rule asks of all constraints
abbrev pub AsksLinks : Claim → CertRule → Type 0
AsksLinks given rule = (n : ℕ) → AsksAt given rule n

-- what a rule asks of all pairs
abbrev pub AsksPairs : Claim → CertRule → Type 0
AsksPairs given rule = (z u : ℕ) → (claimed given).paired z u ≡ true → AsksPair given rule z u

-- of all variables
abbrev pub AsksVars : Claim → Type 0
AsksVars given = (v : ℕ) → AsksVar given v

-- the rules before one are obeyed
abbrev pub AreObeyedBefore : Claim → CertRule → Type 0
AreObeyedBefore given rule = (other : CertRule) → number_of other < number_of rule → IsObeyed given other

-- it is the lowest rule that is not obeyed
abbrev pub IsFirstFailing : Claim → CertRule → Type 0
IsFirstFailing given rule = (IsObeyed given rule → ⊥) × AreObeyedBefore given rule
