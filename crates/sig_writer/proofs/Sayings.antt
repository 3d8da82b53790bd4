-- What is held of nodes, by their numbers.
use Rattle.std.proofs.Common.{◌≡◌, ℕ, zero, suc, ◌+◌, ◌-◌, ◌<◌, ◌≤◌, nat_eq, true, false, ◌⊎◌, inl, inr, List, [], ◌∷◌}
use Rattle.std.proofs.Common.{length, slice_get, get_or, Some, Vec, refl, sym, ◌∙◌, ap, arith}
use Rattle.std.specs.Global.{Global}
use Rattle.std.proofs.lemmas.Bool.{cond-true, cond-false, eq-eqb, ne_eqb}
use Rattle.std.proofs.lemmas.Option.{slice_get_read}
use Rattle.qual_base.proofs.Lists.{stands_at}
use Rattle.sig_writer.specs.declared.nodes.Nodes.{Nodes}
use Rattle.sig_writer.specs.declared.says.Elements.{Elements}
use Rattle.sig_writer.specs.Nodes.{numbers, numbers_in}
use Rattle.sig_writer.specs.Saying.{elements_of, nothing_said, said_at, says_among, says_by, AreHeld, Saying}
use Rattle.sig_writer.specs.Signatures.{Says}

-- among so many variables from one on, the k-th says the k-th of what is said
among_at : (count from : ℕ) (all : List Says) (k v : ℕ) (it : Says) → v ≡ from + k → k < count →
    slice_get all k ≡ Some it → says_among (numbers count from) all v ≡ it
among_at zero from all k v it at lt is = absurd (omega (arith, lt))
among_at (suc count) from [] k v it at lt is = absurd cc
among_at (suc count) from (x ∷ all) zero v it at lt is =
    let same : nat_eq from v ≡ true = eq-eqb from v (omega (arith, at)) in
    let one : x ≡ it = cc in
    cond-true (nat_eq from v) x (says_among (numbers count (suc from)) all v) same ∙ one
among_at (suc count) from (x ∷ all) (suc k) v it at lt is =
    let other : nat_eq from v ≡ false = ne_eqb from v (λ same. omega (arith, at, same)) in
    cond-false (nat_eq from v) x (says_among (numbers count (suc from)) all v) other
    ∙ among_at count (suc from) all k v it (omega (arith, at)) (omega (arith, lt)) is

-- a variable out of the range from `from` on says nothing
among_else : (count from : ℕ) (all : List Says) (v : ℕ) → (v < from) ⊎ (from + count ≤ v) →
    says_among (numbers count from) all v ≡ nothing_said
among_else zero from all v out = refl
among_else (suc count) from [] v out = refl
among_else (suc count) from (x ∷ all) v out =
    let other : nat_eq from v ≡ false = ne_eqb from v
    (λ same. elim out [ inl before ↦ omega (arith, before, same) | inr past ↦ omega (arith, past, same) ]) in
    cond-false (nat_eq from v) x (says_among (numbers count (suc from)) all v) other
    ∙ among_else count (suc from) all v
    (elim out [ inl before ↦ inl (omega (arith, before)) | inr past ↦ inr (omega (arith, past)) ])

-- the list of numbers and the elements at an index make what is said at this index
by_at : (lists : List (Vec ℕ Global)) (elements : List Elements) (k : ℕ) (list : Vec ℕ Global) (it : Elements) →
    slice_get lists k ≡ Some list → slice_get elements k ≡ Some it →
    slice_get (says_by lists elements) k ≡ Some (record { numbers = list.items; low = it.low; high = it.high })
by_at [] elements k list it is has = absurd cc
by_at (x ∷ lists) [] k list it is has = absurd cc
by_at (x ∷ lists) (e ∷ elements) zero list it is has = let one : x ≡ list = cc in let two : e ≡ it = cc in cc
by_at (x ∷ lists) (e ∷ elements) (suc k) list it is has = by_at lists elements k list it is has

module _ (nodes : Nodes) (lists : List (Vec ℕ Global)) (elements : List Elements) (held : AreHeld nodes lists elements)
    (v : ℕ) where
  abbrev View : Saying
  View = record { vars = numbers_in nodes; says = says_by lists elements }

  pub said_here : (k : ℕ) (list : Vec ℕ Global) (it : Elements) → nodes.from + k ≡ v → v < nodes.to →
      slice_get lists k ≡ Some list → slice_get elements k ≡ Some it →
      said_at View v ≡ record { numbers = list.items; low = it.low; high = it.high }
  said_here k list it at lt is has =
      among_at (nodes.to - nodes.from) nodes.from (says_by lists elements) k v
      (record { numbers = list.items; low = it.low; high = it.high }) (sym at) (omega (arith, at, lt))
      (by_at lists elements k list it is has)

  pub said_else : (v < nodes.from) ⊎ (nodes.to ≤ v) → said_at View v ≡ nothing_said
  said_else out = among_else (nodes.to - nodes.from) nodes.from (says_by lists elements) v (elim out [
    | inl before ↦ inl before
    | inr past ↦ inr (let order = held.order in omega (arith, past, order))
  ])

  pub numbers_here : (k : ℕ) (list : Vec ℕ Global) → nodes.from + k ≡ v → v < nodes.to → k < length lists →
      list ≡ get_or lists k list → list.items ≡ (said_at View v).numbers
  numbers_here k list at lt within is =
      let one = held.numbers_are in
      let two = held.elements_are in
      let it = stands_at elements k (omega (arith, within, one, two)) in
      sym (ap (λ (s : Says). s.numbers)
      (said_here k list it.0 at lt (slice_get_read lists (length lists) k list refl within is) it.1))

  pub elements_here : (k : ℕ) (it : Elements) → nodes.from + k ≡ v → v < nodes.to → k < length elements →
      it ≡ get_or elements k it →
      it ≡ elements_of (said_at View v).low (said_at View v).high
  elements_here k it at lt within is =
      let one = held.numbers_are in
      let two = held.elements_are in
      let list = stands_at lists k (omega (arith, within, one, two)) in
      let said = said_here k list.0 it at lt list.1 (slice_get_read elements (length elements) k it refl within is) in
      ap (λ (s : Says). elements_of s.low s.high) (sym said)

  pub numbers_else : (v < nodes.from) ⊎ (nodes.to ≤ v) → [] ≡ (said_at View v).numbers
  numbers_else out = ap (λ (s : Says). s.numbers) (sym (said_else out))

  pub elements_else : (v < nodes.from) ⊎ (nodes.to ≤ v) →
      elements_of nothing_said.low nothing_said.high ≡ elements_of (said_at View v).low (said_at View v).high
  elements_else out = ap (λ (s : Says). elements_of s.low s.high) (sym (said_else out))
