-- The turns of a loop over a list.
use Rattle.std.proofs.Common.{◌≡◌, ℕ, ◌+◌, ◌≤◌, ◌<◌, inl, inr, List, Option, Some, length, get_or, sym, ◌∙◌, ap, subst, arith}
use Rattle.std.specs.List.{Contains}
use Rattle.std.proofs.lemmas.Bool.{cases_lt}
use Rattle.std.proofs.lemmas.List.{get_or_read}
use Rattle.flow_graph.specs.System.{System, Stands}
use Rattle.flow_graph.specs.declared.constraint.Link.{Link}
use Rattle.flow_graph.specs.Index.{IsKeyed}

-- one more is done
pub turn_more : {A : Type 0} (P : A → Type 0) (items : List A) (at : ℕ) (item : A) → at < length items
    → item ≡ get_or items at item → ((k : ℕ) (n : A) → k < at → get_or items k n ≡ n → P n) → P item →
    (k : ℕ) (n : A) → k < at + 1 → get_or items k n ≡ n → P n
turn_more P items at item within is done here k n lt e = elim (cases_lt k at) [
  | inl before ↦ done k n before e
  | inr last ↦
      let same : k ≡ at = omega (arith, lt, last) in
      let one : item ≡ n = get_or_read items at item within is n ∙ sym (ap (λ j. get_or items j n) same) ∙ e in
      subst P one here
]

-- all are done
pub turns_all : {A : Type 0} (P : A → Type 0) (items : List A) (at : ℕ) → length items ≤ at
    → ((k : ℕ) (n : A) → k < at → get_or items k n ≡ n → P n) → (n : A) → Contains items n → P n
turns_all P items at past done n there = let lt = there.1 in done there.0 n (omega (arith, past, lt)) there.2

-- a constraint of the lattice has the key of its link
pub keyed : (sys : System) (lattice n : ℕ) (key_of : Link → Option ℕ) (key : ℕ) (link : Link)
    → Stands sys lattice n link → key_of link ≡ Some key → IsKeyed sys key_of key n
keyed sys lattice n key_of key link st is =
    record { constraint = st.constraint; there = st.there; keyed = ap key_of st.link_is ∙ is }
