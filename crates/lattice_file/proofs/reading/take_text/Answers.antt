use Rattle.std.proofs.Common.{◌≡◌, ℕ, ◌<◌, ◌≤◌, List, length, get_or, true, false, drop, arith, ◌⊎◌, inl, inr}
use Rattle.lattice_file.specs.Text.{ends_line, stands_in_text}
use Rattle.lattice_file.specs.Steps.{TextLexeme, next}
use Rattle.lattice_file.specs.Reading.{standing_of}
use Rattle.lattice_file.proofs.GapLemmas.{line_over}
use Rattle.lattice_file.proofs.LexemeLemmas.{text_goes, text_fails, text_line, some_from}
use Rattle.lattice_file.proofs.reading.take_text.Goals.{then-end-bytes-via-then-end-bytes, then-end-bytes-via-else-end-bytes+then-bytes-end-ne34}
use Rattle.lattice_file.proofs.reading.take_text.Goals as goal

-- a colour text that no quote closes on its line fails where that ends
pub returns-then-end-bytes-clause-fails : goal.returns-then-end-bytes-clause-fails
returns-then-end-bytes-clause-fails c =
    let old = standing_of c.args.reader.now in
    let new = some_from (next old TextLexeme) c.requires.wanted in
    let line : ends_line (drop c.text_end-end.result c.args.bytes.now) ≡ true =
    elim c.then-end-bytes.branch [
      | then-end-bytes-via-then-end-bytes w ↦
          line_over c.args.bytes.now c.text_end-end.result (omega (arith, w.if-end-bytes.true))
      | then-end-bytes-via-else-end-bytes+then-bytes-end-ne34 w ↦ text_line c.args.bytes.now c.text_end-end.result
          (inside c.text_end-end.result c.args.bytes.now c.text_end-end.ensures.within w.if-end-bytes.false)
          w.if-bytes-end-ne34.true
          (stop c.text_end-end.result c.args.bytes.now c.text_end-end.ensures.ends w.if-end-bytes.false)
    ] in
    text_fails old new.0 c.args.bytes.now c.args.at c.text_end-end.result (omega (arith, c.text_end-end.ensures.later))
    c.text_end-end.ensures.within c.requires.quote line c.text_end-end.ensures.text new.1
  where
    inside : (end : ℕ) (bytes : List ℕ) → end ≤ length bytes → (end ≡ length bytes → ⊥) → end < length bytes
    inside end bytes le other = omega (arith, le, other)

    stop : (end : ℕ) (bytes : List ℕ) → (end ≡ length bytes) ⊎ (stands_in_text (get_or bytes end 0) ≡ false)
        → (end ≡ length bytes → ⊥) → stands_in_text (get_or bytes end 0) ≡ false
    stop end bytes (inl e) other = absurd (other e)
    stop end bytes (inr e) other = e

-- a colour text with its closing quote goes on behind it
pub returns-clause-goes : goal.returns-clause-goes
returns-clause-goes c =
    text_goes (standing_of c.args.reader.now) (standing_of c.take_text.new.self) c.args.bytes.now c.args.at
    c.text_end-end.result (omega (arith, c.text_end-end.ensures.later))
    (omega (arith, c.text_end-end.ensures.within, c.if-end-bytes.false)) c.requires.quote c.if-bytes-end-ne34.false
    c.text_end-end.ensures.text c.take_text.ensures
