use Rattle.std.proofs.Common.{◌≡◌, ℕ, true, not, inl, inr, sym, ◌∙◌, ap, subst, arith}
use Rattle.std.proofs.lemmas.Bool.{cases_lt}
use Rattle.sig_writer.specs.declared.says.Elements.{Elements}
use Rattle.sig_writer.specs.Saying.{elements_of, said_at, AreOf}
use Rattle.sig_writer.specs.Signatures.{has_words, lacks_words}
use Rattle.sig_writer.proofs.Indices.{any_from}
use Rattle.sig_writer.proofs.Ranges.{any_none, in_range, is_node}
use Rattle.sig_writer.proofs.refusals.is_some_unsigned.Goals as goal

pub loop-n-init : goal.loop-n-init
loop-n-init c = λ v has lt. let range = in_range c.args.said.now.vars c.nodes-nodes.result c.nodes-nodes.ensures v has
    in let from = range.0 in absurd (omega (arith, from, lt))

-- the elements of a node are of the lattice, as `has_words` requires
pub has_words-requires : goal.has_words-requires
has_words-requires c =
    let said = c.args.said.now in
    let is : c.elements.result ≡ elements_of (said_at said c.loop-n.n).low (said_at said c.loop-n.n).high =
    c.elements.ensures ∙ ap (λ (v : ℕ). elements_of (said_at said v).low (said_at said v).high) c.new.ensures in
    subst (λ (e : Elements). AreOf c.args.lattice.now.order e) (sym is) (c.requires c.loop-n.n)

-- a node whose elements lack words makes the function one of which some node does
pub returns-then-not-has_words : goal.returns-then-not-has_words
returns-then-not-has_words c =
    let said = c.args.said.now in
    let lattice = c.args.lattice.now in
    let here = is_node said.vars c.nodes-nodes.result c.nodes-nodes.ensures c.loop-n.n c.loop-n.auto.n
    c.loop-n-test.true in
    let is : c.elements.result ≡ elements_of (said_at said c.loop-n.n).low (said_at said c.loop-n.n).high =
    c.elements.ensures ∙ ap (λ (v : ℕ). elements_of (said_at said v).low (said_at said v).high) c.new.ensures in
    let lacks : lacks_words lattice (said_at said c.loop-n.n) ≡ true =
    ap not (ap (λ (e : Elements). has_words lattice e.low e.high) (sym is) ∙ sym c.has_words.ensures
    ∙ c.if-not-has_words.true) in
    sym (any_from (λ v. lacks_words lattice (said_at said v)) said.vars c.loop-n.n here lacks)

-- a node that has words keeps the nodes so far without one that lacks them
pub loop-n-preserved : goal.loop-n-preserved
loop-n-preserved c = λ v has lt. elim (cases_lt v c.loop-n.n) [
  | inl early ↦ c.loop-n.invariant v has early
  | inr last ↦
      let said = c.args.said.now in
      let lattice = c.args.lattice.now in
      let at : c.new.result ≡ v = omega (arith, lt, last, c.new.ensures) in
      let is : c.elements.result ≡ elements_of (said_at said v).low (said_at said v).high =
      c.elements.ensures ∙ ap (λ (v : ℕ). elements_of (said_at said v).low (said_at said v).high) at in
      ap not (ap (λ (e : Elements). has_words lattice e.low e.high) (sym is) ∙ sym c.has_words.ensures
      ∙ c.if-not-has_words.false)
]

-- where each node has words, no node of the function lacks them
pub returns : goal.returns
returns c =
    let said = c.args.said.now in
    sym (any_none (λ v. lacks_words c.args.lattice.now (said_at said v)) said.vars (λ v has.
    let range = in_range said.vars c.nodes-nodes.result c.nodes-nodes.ensures v has in
    let to = range.1 in
    c.loop-n.invariant v has (omega (arith, to, c.loop-n-test.false))))
