use Rattle.std.proofs.Common.{◌≡◌, ◌+◌, ◌*◌, ◌-◌, ◌≤◌, true, Some, get_or, arith, ap, ◌∙◌}
use Rattle.std.proofs.lemmas.List.Elements.{All-more}
use Rattle.std.specs.Char.{is_ascii_digit}
use Rattle.certificate_reader.proofs.Decimals.{digit_bounds}
use Rattle.certificate_reader.proofs.FrontLemmas.{digit_more}
use Rattle.certificate_reader.proofs.fronts.numeral.Goals as goal

-- one more digit of the text is read behind the number so far, which stays within 64 bits
pub loop-at-preserved : goal.loop-at-preserved
loop-at-preserved c =
    let ds = c.args.text.now in
    let at = c.loop-at.at in
    let digit : is_ascii_digit (get_or ds at 0) ≡ true = grind (arith, c.is_ascii_digit.ensures.value) in
    let same : 10 * c.loop-at.number + (get_or ds at 0 - 48) ≡ 10 * c.loop-at.number + c.from.result =
    omega (arith, c.from.ensures) in
    record {
      writes = digit_more ds at c.loop-at.number c.loop-at-test.true c.loop-at.invariant.writes digit ∙ ap Some same;
      bare = All-more (λ b. 48 ≤ b) ds at 0 c.loop-at-test.true c.loop-at.invariant.bare
          (digit_bounds (get_or ds at 0) digit).0;
    }
