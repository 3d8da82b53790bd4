use Rattle.std.proofs.Common.{◌≡◌, ◌≤◌, ◌+◌, ◌∙◌, ◌==◌, sym, ap, subst, take, length, arith, List, ℕ}
use Rattle.std.specs.Prelude.{count_by}
use Rattle.c_lexer.specs.Places.{IsLineOf}
use Rattle.c_lexer.proofs.FeedLemmas.{feeds, feeds-count, line-first, line-behind}
use Rattle.c_lexer.proofs.text.Text.line_start.Goals as goal

pub returns-then-before-eq0 : goal.returns-then-before-eq0
returns-then-before-eq0 c =
    line-first c.args.self.now.1 c.args.at
    (feeds-count c.args.self.now.1 c.args.at c.requires ∙ sym c.feeds_before-before.ensures ∙ c.if-before-eq0.true)

-- the last line feed before a place is in the table
pub index-requires : goal.index-requires
index-requires c =
    let bytes : List ℕ = c.self.inside.bytes.now in
    let same : bytes ≡ c.args.self.now.1 = ap (λ (v : ℕ × List ℕ). v.1) c.self.view_is in
    let le : c.args.at ≤ length bytes = (let size = ap length same in let h = c.requires in omega arith) in
    let size : c.feeds_before-before.result ≡ length (feeds bytes c.args.at) = c.feeds_before-before.ensures ∙ ap
    (λ (l : List ℕ). count_by (λ b. b == 10) (take c.args.at l)) (sym same) ∙ sym (feeds-count bytes c.args.at le) in
    let facts = line-behind bytes c.self.inside.feeds.items c.args.at c.feeds_before-before.result c.self.invariant.1 le
    size c.if-before-eq0.false in
    omega (arith, facts.0, c.self.inside.feeds.ok.0)

-- the place behind a line feed fits into 32 bits
pub overflow_add-result : goal.overflow_add-result
overflow_add-result c =
    let bytes : List ℕ = c.self.inside.bytes.now in
    let same : bytes ≡ c.args.self.now.1 = ap (λ (v : ℕ × List ℕ). v.1) c.self.view_is in
    let le : c.args.at ≤ length bytes = (let size = ap length same in let h = c.requires in omega arith) in
    let size : c.feeds_before-before.result ≡ length (feeds bytes c.args.at) = c.feeds_before-before.ensures ∙ ap
    (λ (l : List ℕ). count_by (λ b. b == 10) (take c.args.at l)) (sym same) ∙ sym (feeds-count bytes c.args.at le) in
    let facts = line-behind bytes c.self.inside.feeds.items c.args.at c.feeds_before-before.result c.self.invariant.1 le
    size c.if-before-eq0.false in
    let below = facts.1 c.index.result.now in
    let read = c.index.ensures in
    let fits = c.ranges.at in
    omega (arith, below, read, fits)

-- the line of a place begins behind the last line feed before it
pub returns : goal.returns
returns c =
    let bytes : List ℕ = c.self.inside.bytes.now in
    let same : bytes ≡ c.args.self.now.1 = ap (λ (v : ℕ × List ℕ). v.1) c.self.view_is in
    let le : c.args.at ≤ length bytes = (let size = ap length same in let h = c.requires in omega arith) in
    let size : c.feeds_before-before.result ≡ length (feeds bytes c.args.at) = c.feeds_before-before.ensures ∙ ap
    (λ (l : List ℕ). count_by (λ b. b == 10) (take c.args.at l)) (sym same) ∙ sym (feeds-count bytes c.args.at le) in
    let facts = line-behind bytes c.self.inside.feeds.items c.args.at c.feeds_before-before.result c.self.invariant.1 le
    size c.if-before-eq0.false in
    let P : List ℕ → Type 0 = λ l. IsLineOf l c.args.at (c.index.result.now + 1) in
    let At : ℕ → Type 0 = λ i. IsLineOf bytes c.args.at (i + 1) in
    subst P same (subst At (sym c.index.ensures) (facts.2 c.index.result.now))
