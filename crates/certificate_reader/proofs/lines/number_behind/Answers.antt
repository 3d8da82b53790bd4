use Rattle.std.proofs.Common.{◌≡◌, ◌+◌, ◌*◌, ◌-◌, ◌<◌, true, length, get_or, drop, option_map, arith, sym, ◌∙◌, ap}
use Rattle.std.proofs.lemmas.Grind.{common_steps}
use Rattle.std.specs.Char.{is_ascii_digit}
use Rattle.path_checker.proofs.Numbers.{number_behind-digit}
use Rattle.certificate_reader.proofs.Numerals.{capped, number_behind-capped}
use Rattle.certificate_reader.proofs.lines.number_behind.Goals as goal

-- one more digit is read behind the number so far, up to the greatest number of 128 bits
pub loop-digit-preserved : goal.loop-digit-preserved
loop-digit-preserved c =
    let ds = c.args.digits.now in
    let i = c.loop-digit.digit-index in
    let v = c.loop-digit.number in
    let below : i < length ds = omega arith in
    let digit : is_ascii_digit (get_or ds i 0) ≡ true = grind (arith, c.is_ascii_digit.ensures.value) in
    let same : capped c.saturating_add-number.result ≡ capped (10 * v + (get_or ds i 0 - 48)) = omega arith in (
      omega arith,
      number_behind-capped (drop (i + 1) ds) _ _ same
          ∙ sym (ap (option_map capped) (number_behind-digit ds i v below digit)) ∙ c.loop-digit.invariant.1,
    )

pub returns : goal.returns
returns c = grind (arith, common_steps, c.loop-digit.invariant.1)
