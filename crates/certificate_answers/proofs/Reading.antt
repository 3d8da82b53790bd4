-- Written certificates read as themselves.
use Rattle.std.proofs.Common.{◌≡◌, ℕ, suc, List, [], ◌∷◌, length, slice_get, slice_index, Some, None, refl, sym, ◌∙◌, arith, inl}
use Rattle.lattice_core.specs.Order.{Order}
use Rattle.flow_graph.specs.System.{System}
use Rattle.certificate_laws.specs.Certificates.{IsWritten}
use Rattle.certificate_laws.proofs.Writing.{accepted_is_certified}
use Rattle.closure_check.specs.declared.part.Part.{Part}
use Rattle.closure_check.specs.Parts.{IsPart, certificate_of}
use Rattle.certificate_text.specs.Names.{name_of}
use Rattle.certificate_reader.specs.Grammar.{ArePlain, HasNames}
use Rattle.certificate_checks.specs.Checks.{Proves}
use Rattle.certificate_answers.specs.Laws.{WrittenReads}
use Rattle.certificate_answers.proofs.Naming.{IsNamed, lead_named, joined_named}
use Rattle.certificate_answers.proofs.Sets.{none_in, empty_of}

module _ (sys : System) where
  clash : (v : ℕ) → name_of sys v ≡ None → IsNamed sys v → ⊥
  clash v none named = let wrong : None ≡ Some named.0 = sym none ∙ named.1 in cc

  -- what is written names all that it has
  has_names : (lattice : ℕ) (part : Part) → IsWritten sys lattice (certificate_of part) → HasNames sys part
  has_names lattice part written = record {
    sets = λ v none. empty_of (slice_index part.second.items v)
        (λ e there. clash v none (lead_named sys lattice e v ((written.second v e).0 there)));
    pairs = λ u v paired.
        let named = joined_named sys lattice u v ((written.paired u v).0 paired) in
        (named.0.0, named.1.0, named.0.1, named.1.1);
    firsts = λ v empty. empty_of (slice_index part.first.items v)
        (λ e there.
        none_in (slice_index part.second.items v) e empty ((written.second v e).1 (inl ((written.first v e).0 there))));
  }

  -- parts that are plain one by one
  plain_of : (orders : List Order) (parts : List Part) → length parts ≡ length orders →
      ((n : ℕ) (order : Order) (part : Part) → slice_get orders n ≡ Some order → slice_get parts n ≡ Some part
      → IsPart sys order part × HasNames sys part)
      → ArePlain sys orders parts
  plain_of [] [] many each = tt
  plain_of [] (p ∷ ps) many each = absurd (omega (arith, many))
  plain_of (o ∷ os) [] many each = absurd (omega (arith, many))
  plain_of (o ∷ os) (p ∷ ps) many each =
      let here = each 0 o p refl refl in (
        here.0,
        here.1,
        plain_of os ps (omega (arith, many)) (λ n order part o_there p_there. each (suc n) order part o_there p_there),
      )

-- the text that is written of an accepted, well owned program comes to `Holds`
pub written_reads : WrittenReads
written_reads sys orders text owned ordered accepted is =
    let written = is.written in
    let plain = plain_of sys orders is.parts written.as_many
    (λ n order part o p. let own = written.each n order part o p in (own.0, has_names sys n part own.1)) in
    Proves is.parts (is.spelled, plain)
    (λ n order part o p. accepted_is_certified sys n order (certificate_of part) owned (ordered n order o)
    (written.each n order part o p).1 (accepted n order o))
