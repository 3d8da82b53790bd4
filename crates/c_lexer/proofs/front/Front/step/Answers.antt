use Rattle.std.proofs.Common.{◌≡◌, drop, sym, ◌∙◌, ap, subst, arith, false, if◌then◌else◌}
use Rattle.std.proofs.lemmas.List.{take_rest, length-drop}
use Rattle.c_lexer.specs.declared.front.Stop.TheVariants.{BadByte, Unended}
use Rattle.c_lexer.specs.Spelling.{begins_comment, is_token, HasNone}
use Rattle.c_lexer.specs.Gaps.{HasNoGap}
use Rattle.c_lexer.specs.Reading.{Front, opens}
use Rattle.c_lexer.proofs.StepLemmas.{gap-fits, no-comment, stuck}
use Rattle.c_lexer.proofs.front.Front.step.Goals as goal

-- the gap in front is within the bytes
pub skip-requires-clause-inside : goal.skip-requires-clause-inside
skip-requires-clause-inside c =
    let same : c.self.inside.at ≡ c.args.self.now.at = ap (λ (f : Front). f.at) c.self.view_is in
    let fits = gap-fits c.in-Some.gap c.self.inside.fresh (drop c.self.inside.at c.args.bytes.now) c.in-Some.n
    (rw take_rest at c.in-Some.ensures) in
    let size = length-drop c.self.inside.at c.args.bytes.now in
    let before = c.requires.before in
    omega arith

-- where no gap is in front and no `/*`, no comment begins
pub take-requires-clause-no_comment : goal.take-requires-clause-no_comment
take-requires-clause-no_comment c =
    let P : Front → Type 0 = λ f. begins_comment (drop f.at c.args.bytes.now) ≡ false in
    subst P c.self.view_is
    (no-comment c.self.inside.fresh (drop c.self.inside.at c.args.bytes.now) (rw take_rest at c.in_default.ensures)
    (rw take_rest at (sym c.starts_with.ensures.value ∙ c.if-starts_with.false)))

-- where no gap and no token is in front, reading stops as stuck
pub returns-in-None-clause-stops : goal.returns-in-None-clause-stops
returns-in-None-clause-stops c =
    let bytes = c.args.bytes.now in
    let Gapless : Front → Type 0 = λ f. HasNoGap f.fresh (drop f.at bytes) in
    let Tokenless : Front → Type 0 = λ f. HasNone is_token (drop f.at bytes) in
    let Why : Front → Type 0 = λ f. c.why_stuck.result ≡ (if opens (drop f.at bytes) then Unended else BadByte) in
    stuck c.args.unit c.args.wide c.args.words.now bytes c.args.self.now c.why_stuck.result
    (subst Why c.self.view_is (rw take_rest at c.why_stuck.ensures))
    (record {
      inside = c.requires.before;
      no_gap = subst Gapless c.self.view_is (rw take_rest at c.in_default.ensures);
      no_token = λ _. subst Tokenless c.self.view_is (rw take_rest at c.in-None.ensures.longest);
    })
