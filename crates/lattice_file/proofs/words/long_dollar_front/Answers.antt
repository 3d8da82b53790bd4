use Rattle.std.proofs.Common.{◌≡◌, false, true, sym, ◌∙◌, arith}
use Rattle.std.proofs.lemmas.Bool.{eq-eqb}
use Rattle.lattice_file.specs.Text.{is_letter}
use Rattle.lattice_file.proofs.FrontLemmas.{dollar_first, dollar_name}
use Rattle.lattice_file.proofs.words.long_dollar_front.Goals as goal

-- a dollar without a letter behind it is the front of a name on its own
pub returns-then-not-is_letter_byte : goal.returns-then-not-is_letter_byte
returns-then-not-is_letter_byte c =
    let letter : is_letter c.args.letter ≡ false = sym c.is_letter_byte.ensures ∙ c.if-not-is_letter_byte.true in
    dollar_first c.args.dollar c.args.letter c.args.more.now
    (eq-eqb c.args.dollar 36 (omega (arith, c.if-dollar-ne36.false))) letter

-- a dollar, a letter and the bytes of names behind them are the front of a name
pub returns : goal.returns
returns c =
    let letter : is_letter c.args.letter ≡ true = sym c.is_letter_byte.ensures ∙ c.if-not-is_letter_byte.false in
    dollar_name c.args.dollar c.args.letter c.args.more.now c.name_end.result
    (eq-eqb c.args.dollar 36 (omega (arith, c.if-dollar-ne36.false))) letter c.name_end.ensures.within
    c.name_end.ensures.name c.name_end.ensures.ends
