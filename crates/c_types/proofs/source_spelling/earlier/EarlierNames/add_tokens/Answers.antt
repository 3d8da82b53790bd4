use Rattle.std.proofs.Common.{arith, ◌+◌, ◌<◌, ℕ, Option, length, drop, slice_get, ◌∙◌, ap}
use Rattle.c_types.specs.SourceSpelling.Tokens.{or_behind, name_among}
use Rattle.c_types.specs.SourceSpelling.Keys.{key_at, past, name_of_token, name_at}
use Rattle.c_types.proofs.SourceSpelling.Keys.{or_twice, named_on}
use Rattle.c_types.proofs.source_spelling.earlier.EarlierNames.add_tokens.Goals as goal

-- one token more: its name and those of the tokens behind it still add up to what all tokens add
pub loop-number-preserved : goal.loop-number-preserved
loop-number-preserved c =
    let lexed = c.args.tokens.now in
    let tokens = lexed.tokens in
    let count = c.args.self.now.count in
    let i = c.loop-number.number in
    let was = c.loop-number.invariant in
    let added = c.in_ok-add_token.ensures in
    let test = c.loop-number-test.true in
    let size = c.len-number-end.ensures in
    let within : i < length tokens = omega arith in
    record {
      keys = λ t.
          let rest = name_among lexed (drop (i + 1) tokens) t in
          let old = key_at c.loop-number.self t in
          ap (λ (o : Option ℕ). or_behind o (past count rest))
          (added.keys t ∙ ap (λ (n : ℕ). or_behind old (past n (name_at lexed c.new.result t))) was.count
          ∙ ap (λ (n : ℕ). or_behind old (past count (name_at lexed n t))) c.new.ensures)
          ∙ or_twice old (name_of_token lexed (slice_get tokens i) t) rest count
          ∙ ap (λ (o : Option ℕ). or_behind old (past count o)) (named_on lexed tokens i t within)
          ∙ was.keys t;
      count = added.count ∙ was.count;
    }
