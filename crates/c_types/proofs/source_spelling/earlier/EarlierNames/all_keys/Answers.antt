use Rattle.std.proofs.Common.{arith, ◌≡◌, ◌+◌, ◌-◌, ◌<◌, ℕ, length, drop, sym, ◌∙◌, ap}
use Rattle.c_types.specs.SourceSpelling.Tokens.{spelled_among}
use Rattle.c_types.specs.SourceSpelling.Keys.{text_at, key_by}
use Rattle.c_types.proofs.SourceSpelling.Keys.{texts_on}
use Rattle.c_types.proofs.source_spelling.earlier.EarlierNames.all_keys.Goals as goal

-- one token further to the front: the keys are those of the spellings of names from that token on
pub loop-number-preserved : goal.loop-number-preserved
loop-number-preserved c =
    let it = c.args.self.now in
    let lexed = c.args.tokens.now in
    let tokens = lexed.tokens in
    let i = c.loop-number.number - 1 in
    let size = c.len-number.ensures in
    let top = c.loop-number.auto.number in
    let test = c.loop-number-test.true in
    let back : i + 1 ≡ c.loop-number.number = omega arith in
    let within : i < length tokens = omega arith in
    λ name.
    let rest = key_by it name name (spelled_among lexed (drop (i + 1) tokens) name) in
    c.in_ok-set_key.ensures name
    ∙ ap (λ (other : ℕ). key_by it other name (text_at lexed c.new.result name))
    (c.loop-number.invariant name
    ∙ ap (λ (n : ℕ). key_by it name name (spelled_among lexed (drop n tokens) name)) (sym back))
    ∙ ap (λ (n : ℕ). key_by it rest name (text_at lexed n name)) c.new.ensures
    ∙ texts_on it lexed tokens i name within
