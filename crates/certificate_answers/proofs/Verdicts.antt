-- A text comes to one verdict.
use Rattle.std.proofs.Common.{◌≡◌, ℕ, zero, suc, ◌+◌, ◌-◌, ◌<◌, List, [], ◌∷◌, slice_get, Some, refl, sym, ◌∙◌, ap, subst, inl, inr}
use Rattle.std.proofs.lemmas.Bool.{cases_order}
use Rattle.lattice_core.specs.Order.{Order}
use Rattle.flow_graph.specs.System.{System}
use Rattle.certificate_laws.specs.declared.rule.CertRule.{CertRule}
use Rattle.certificate_laws.specs.declared.rule.CertRule.TheVariants.{A1, A2, A3, A4, A5, A6, A7, A8, A9}
use Rattle.certificate_laws.specs.Certificates.{Certificate, ObeysRule, number_of}
use Rattle.closure_check.specs.declared.part.Part.{Part}
use Rattle.closure_check.specs.Parts.{certificate_of, is_among, is_in}
use Rattle.certificate_reader.specs.declared.section.CertFault.TheVariants.{Grammar, NoSuchVariable, NoMemory}
use Rattle.certificate_reader.specs.Lines.{lines_of}
use Rattle.certificate_reader.specs.Grammar.{IsPlaced, ReadsAs}
use Rattle.certificate_reader.specs.Laws.{AreSame, IsBounded, OneFault, ReadsOnce, TextHasNoFault}
use Rattle.certificate_checks.specs.declared.judging.CertCode.TheVariants.{V1, V2}
use Rattle.certificate_checks.specs.declared.judging.Verdict.{Verdict}
use Rattle.certificate_checks.specs.declared.judging.Verdict.TheVariants.{Fails, Unread}
use Rattle.certificate_checks.specs.Checks.{ComesTo, Proves, Breaks, StopsAt, NamesNone, FailsFirst, ObeysAt}
use Rattle.certificate_answers.specs.Laws.{OneVerdict}

some_part : {x y : Part} → Some x ≡ Some y → x ≡ y
some_part e = cc

some_order : {x y : Order} → Some x ≡ Some y → x ≡ y
some_order e = cc

some_rule : {x y : CertRule} → Some x ≡ Some y → x ≡ y
some_rule e = cc

-- the rules by their numbers
abbrev rules : List CertRule
rules = A1 ∷ A2 ∷ A3 ∷ A4 ∷ A5 ∷ A6 ∷ A7 ∷ A8 ∷ A9 ∷ []

-- each rule stands at its number less one in the list of rules
at_number : (rule : CertRule) → slice_get rules (number_of rule - 1) ≡ Some rule
at_number A1 = refl
at_number A2 = refl
at_number A3 = refl
at_number A4 = refl
at_number A5 = refl
at_number A6 = refl
at_number A7 = refl
at_number A8 = refl
at_number A9 = refl

-- what lists say as a certificate
abbrev said : List (ℕ × ℕ) → List ℕ → List ℕ → Certificate
said pairs first second =
    record { paired = λ u v. is_among pairs u v; first = λ v e. is_in first v e; second = λ v e. is_in second v e }

-- lists of certificates that are the same have the same one at each place
same_at : (ones others : List Part) (n : ℕ) (one : Part) → AreSame ones others → slice_get ones n ≡ Some one →
    (other : Part) × (slice_get others n ≡ Some other) × (certificate_of one ≡ certificate_of other)
same_at [] others n one same there = absurd cc
same_at (p ∷ ps) [] n one same there = absurd same
same_at (p ∷ ps) (q ∷ qs) zero one same there =
    let here : p ≡ one = some_part there in
    let certificates =
    ap (λ (pairs : List (ℕ × ℕ)). said pairs p.first.items p.second.items) same.0
    ∙ ap (λ (first : List ℕ). said q.pairs.items first p.second.items) same.1
    ∙ ap (λ (second : List ℕ). said q.pairs.items q.first.items second) same.2 in
    (q, refl, ap certificate_of (sym here) ∙ certificates)
same_at (p ∷ ps) (q ∷ qs) (suc n) one same there = same_at ps qs n one same.3 there

module _ (sys : System) (orders : List Order) where
  -- no certificate obeys the rules where the same one breaks one
  not_both : (ones others : List Part) (n : ℕ) (rule : CertRule) → AreSame ones others
      → FailsFirst sys orders ones n rule → ObeysAt sys orders others n → ⊥
  not_both ones others n rule same fails obeys =
      let found = same_at ones others n fails.part same fails.at in
      fails.fails.fails (subst (λ (c : Certificate). ObeysRule sys n fails.order c rule) (sym found.2)
      (obeys fails.order found.0 fails.there found.1 rule))

  -- and of the rules that it breaks one is the lowest
  not_lower : (ones others : List Part) (n : ℕ) (rule other : CertRule) → AreSame ones others
      → FailsFirst sys orders ones n rule → FailsFirst sys orders others n other →
      number_of rule < number_of other → ⊥
  not_lower ones others n rule other same a b low =
      let found = same_at ones others n a.part same a.at in
      let part : found.0 ≡ b.part = some_part (sym found.1 ∙ b.at) in
      let order : a.order ≡ b.order = some_order (sym a.there ∙ b.there) in
      let In : Order → Type 0 = λ o. ObeysRule sys n o (certificate_of b.part) rule in
      let Of : Certificate → Type 0 = λ c. ObeysRule sys n a.order c rule in
      a.fails.fails (subst Of (sym (found.2 ∙ ap certificate_of part)) (subst In (sym order) (b.fails.before rule low)))

  same_rule : (ones others : List Part) (n : ℕ) (rule other : CertRule) → AreSame ones others → AreSame others ones
      → FailsFirst sys orders ones n rule → FailsFirst sys orders others n other →
      rule ≡ other
  same_rule ones others n rule other same back a b = elim (cases_order (number_of rule) (number_of other)) [
    | inl is ↦ some_rule (sym (at_number rule) ∙ ap (λ (k : ℕ). slice_get rules (k - 1)) is ∙ at_number other)
    | inr differs ↦ elim differs [
      | inl low ↦ absurd (not_lower ones others n rule other same a b low)
      | inr high ↦ absurd (not_lower others ones n other rule back b a high)
    ]
  ]

  same_failing : (ones others : List Part) (n m : ℕ) (rule other : CertRule) → AreSame ones others → AreSame others ones
      → FailsFirst sys orders ones n rule → FailsFirst sys orders others m other →
      Fails (n + 1) rule ≡ Fails (m + 1) other
  same_failing ones others n m rule other same back a b = elim (cases_order n m) [
    | inl is ↦
        let At : ℕ → Type 0 = λ k. FailsFirst sys orders others k other in
        ap (λ (r : CertRule). Fails (n + 1) r) (same_rule ones others n rule other same back a (subst At (sym is) b))
        ∙ ap (λ (k : ℕ). Fails (k + 1) other) is
    | inr differs ↦ elim differs [
      | inl low ↦ absurd (not_both ones others n rule same a (b.before n low))
      | inr high ↦ absurd (not_both others ones m other back b (a.before m high))
    ]
  ]

grammar_is : {a b : ℕ} → Grammar a ≡ Grammar b → a ≡ b
grammar_is e = cc

nameless_is : {a b : ℕ} → NoSuchVariable a ≡ NoSuchVariable b → a ≡ b
nameless_is e = cc

module _ (reads : ReadsOnce) (once : OneFault) (none : TextHasNoFault) (sys : System) (orders : List Order)
    (text : List ℕ) (bounded : IsBounded sys orders) where
  -- a text that reads does not stop at a line, nor name what is no variable
  no_misfit : (parts : List Part) (line : ℕ) → ReadsAs sys orders text parts
      → IsPlaced sys orders (lines_of text) (Grammar line) → ⊥
  no_misfit parts line is placed =
      let wrong : Grammar line ≡ NoMemory = none sys orders text parts (Grammar line) bounded is placed in
      cc

  no_nameless : (parts : List Part) (line : ℕ) → ReadsAs sys orders text parts
      → IsPlaced sys orders (lines_of text) (NoSuchVariable line) → ⊥
  no_nameless parts line is placed =
      let wrong : NoSuchVariable line ≡ NoMemory = none sys orders text parts (NoSuchVariable line) bounded is placed in
      cc

  one_of : (one other : Verdict) → ComesTo sys orders text one → ComesTo sys orders text other → one ≡ other
  one_of _ _ (Proves ps r all) (Proves qs q every) = refl
  one_of _ _ (Proves ps r all) (Breaks qs n rule q fails) =
      absurd (not_both sys orders qs ps n rule (reads sys orders text qs ps bounded q r) fails (all n))
  one_of _ _ (Proves ps r all) (StopsAt line placed) = absurd (no_misfit ps line r placed)
  one_of _ _ (Proves ps r all) (NamesNone line placed) = absurd (no_nameless ps line r placed)
  one_of _ _ (Breaks ps n rule r fails) (Proves qs q every) =
      absurd (not_both sys orders ps qs n rule (reads sys orders text ps qs bounded r q) fails (every n))
  one_of _ _ (Breaks ps n rule r fails) (Breaks qs m other q failing) =
      same_failing sys orders ps qs n m rule other (reads sys orders text ps qs bounded r q)
      (reads sys orders text qs ps bounded q r) fails failing
  one_of _ _ (Breaks ps n rule r fails) (StopsAt line placed) = absurd (no_misfit ps line r placed)
  one_of _ _ (Breaks ps n rule r fails) (NamesNone line placed) = absurd (no_nameless ps line r placed)
  one_of _ _ (StopsAt line placed) (Proves qs q every) = absurd (no_misfit qs line q placed)
  one_of _ _ (StopsAt line placed) (Breaks qs m other q failing) = absurd (no_misfit qs line q placed)
  one_of _ _ (StopsAt line placed) (StopsAt other there) =
      ap (λ (k : ℕ). Unread k V1)
      (grammar_is (once sys orders (lines_of text) (Grammar line) (Grammar other) (λ e. cc) (λ e. cc) placed there))
  one_of _ _ (StopsAt line placed) (NamesNone other there) =
      let wrong : Grammar line ≡ NoSuchVariable other =
      once sys orders (lines_of text) (Grammar line) (NoSuchVariable other) (λ e. cc) (λ e. cc) placed there in
      absurd cc
  one_of _ _ (NamesNone line placed) (Proves qs q every) = absurd (no_nameless qs line q placed)
  one_of _ _ (NamesNone line placed) (Breaks qs m other q failing) = absurd (no_nameless qs line q placed)
  one_of _ _ (NamesNone line placed) (StopsAt other there) =
      let wrong : NoSuchVariable line ≡ Grammar other =
      once sys orders (lines_of text) (NoSuchVariable line) (Grammar other) (λ e. cc) (λ e. cc) placed there in
      absurd cc
  one_of _ _ (NamesNone line placed) (NamesNone other there) =
      ap (λ (k : ℕ). Unread k V2) (nameless_is
      (once sys orders (lines_of text) (NoSuchVariable line) (NoSuchVariable other) (λ e. cc) (λ e. cc) placed there))

pub one_verdict : ReadsOnce → OneFault → TextHasNoFault → OneVerdict
one_verdict reads once none sys orders text one other bounded a b =
    one_of reads once none sys orders text bounded one other a b
