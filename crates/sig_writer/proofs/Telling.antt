-- What is held of nodes is what is found of them.
use Rattle.std.proofs.Common.{◌≡◌, ℕ, ◌+◌, ◌-◌, ◌<◌, ◌≤◌, inl, inr, List, slice_get, Option, Some, Vec, sym, ◌∙◌}
use Rattle.std.proofs.Common.{ap, subst, arith}
use Rattle.std.specs.Global.{Global}
use Rattle.std.specs.List.{Contains}
use Rattle.std.proofs.lemmas.Bool.{cases_lt}
use Rattle.qual_base.proofs.Lists.{stands_at}
use Rattle.lattice_core.specs.View.{LatticeView}
use Rattle.sig_writer.specs.declared.nodes.Nodes.{Nodes}
use Rattle.sig_writer.specs.declared.says.Elements.{Elements}
use Rattle.sig_writer.specs.declared.says.Known.{Known}
use Rattle.sig_writer.specs.Marks.{AreIndicesOf}
use Rattle.sig_writer.specs.Nodes.{numbers_in, AreNodes}
use Rattle.sig_writer.specs.Saying.{nothing_said, said_at, says_by, AreElements, AreHeld, AreSaid, IsKnownOf, IsOf}
use Rattle.sig_writer.specs.Saying.{Saying}
use Rattle.sig_writer.specs.Signatures.{Found, Says, numbers_of, unless}
use Rattle.sig_writer.proofs.Indices.{index_is, var_place}
use Rattle.sig_writer.proofs.Sayings.{said_else, said_here}

abbrev says_with : List ℕ → Option ℕ → Option ℕ → Says
says_with numbers low high = record { numbers = numbers; low = low; high = high }

abbrev Within : LatticeView → Says → Type 0
Within lattice s = IsOf lattice.order s.low × IsOf lattice.order s.high

said_within : (lattice : LatticeView) (s t : Says) → s ≡ t → IsOf lattice.order t.low → IsOf lattice.order t.high →
    Within lattice s
said_within lattice s t is low high = subst (λ (s : Says). Within lattice s) (sym is) (low, high)

silent_within : (lattice : LatticeView) (s : Says) → s ≡ nothing_said → Within lattice s
silent_within lattice s is = said_within lattice s nothing_said is tt tt

module _ (known : Known) (nodes : Nodes) (lists : List (Vec ℕ Global)) (elements : List Elements)
    (order : nodes.from ≤ nodes.to) (indices : AreIndicesOf nodes known.summaries.now lists)
    (found : AreElements known nodes elements) where
  abbrev View : Saying
  View = record { vars = numbers_in nodes; says = says_by lists elements }

  pub are_held : AreHeld nodes lists elements
  are_held = record { order = order; numbers_are = indices.count ∙ indices.are_marks.count; elements_are = found.count }

  -- what is said of a node, by its number
  said_of : (v k : ℕ) → v ≡ nodes.from + k → k < nodes.to - nodes.from →
      (list : Vec ℕ Global) × (it : Elements) × (slice_get lists k ≡ Some list) × (slice_get elements k ≡ Some it)
      × (said_at View v ≡ record { numbers = list.items; low = it.low; high = it.high })
  said_of v k at lt =
      let one = are_held.numbers_are in
      let two = are_held.elements_are in
      let list = stands_at lists k (omega (arith, lt, one)) in
      let it = stands_at elements k (omega (arith, lt, two)) in (
        list.0,
        it.0,
        list.1,
        it.1,
        said_here nodes lists elements are_held v k list.0 it.0 (sym at)
            (omega (arith, at, lt)) list.1 it.1,
      )

  pub all_within : (v : ℕ) → Within known.lattice.now (said_at View v)
  all_within v = elim (cases_lt v nodes.from) [
    | inl before ↦
        silent_within known.lattice.now (said_at View v) (said_else nodes lists elements are_held v (inl before))
    | inr from ↦ elim (cases_lt v nodes.to) [
      | inl to ↦
          let said = said_of v (v - nodes.from) (omega (arith, from)) (omega (arith, from, to)) in
          let is = (found.are (v - nodes.from) said.1 said.3).within in
          said_within known.lattice.now (said_at View v) (says_with said.0.items said.1.low said.1.high) said.4
          is.0 is.1
      | inr past ↦
          silent_within known.lattice.now (said_at View v) (said_else nodes lists elements are_held v (inr past))
    ]
  ]

  pub are_said : (vars : List ℕ) (it : Found) → AreNodes vars nodes → IsKnownOf known vars it → AreSaid it vars View
  are_said vars it are is = record {
    vars_are = are.are;
    says_are = λ v has.
        let place = var_place nodes vars it known.summaries.now indices.marks are is.joins indices.are_marks v has in
        let said = said_of v place.0 place.2 place.1 in
        let read = found.are place.0 said.1 said.3 in
        let numbers : said.0.items ≡ numbers_of it vars v =
        index_is nodes vars it known.summaries.now indices.marks are is.joins indices.are_marks place.0 place.1
        said.0.items (indices.are place.0 said.0 said.2)
        ∙ ap (λ k. numbers_of it vars k) (sym place.2) in
        let here : Contains vars (nodes.from + place.0) = subst (λ k. Contains vars k) place.2 has in
        let low : said.1.low ≡ unless (it.join v) it.least = read.low.is vars it here is
        ∙ ap (λ k. unless (it.join k) it.least) (sym place.2) in
        let high : said.1.high ≡ unless (it.meet v) it.greatest = read.high.is vars it here is
        ∙ ap (λ k. unless (it.meet k) it.greatest) (sym place.2) in
        said.4 ∙ same said.0.items (numbers_of it vars v) said.1.low (unless (it.join v) it.least) said.1.high
        (unless (it.meet v) it.greatest) numbers low high;
  }
    where
      same : (a b : List ℕ) (l m h i : Option ℕ) → a ≡ b → l ≡ m → h ≡ i → says_with a l h ≡ says_with b m i
      same a b l m h i p q r = cc
