use Rattle.std.proofs.Common.{◌≡◌, ◌≤◌, ◌∙◌, nat_lt, ◌==◌, sym, take, ap, subst, length, rules, List, ℕ}
use Rattle.std.specs.Prelude.{count_by}
use Rattle.std.proofs.lemmas.List.Sorted.{IsPartitionPoint-from_clause}
use Rattle.c_lexer.proofs.FeedLemmas.{feeds-point, feeds-count}
use Rattle.c_lexer.proofs.text.Text.feeds_before.Goals as goal

-- the line feeds below a place in the table are as many as stand before it
pub returns : goal.returns
returns c =
    let bytes : List ℕ = c.self.inside.bytes.now in
    let same : bytes ≡ c.args.self.now.1 = ap (λ (v : ℕ × List ℕ). v.1) c.self.view_is in
    let Fits : List ℕ → Type 0 = λ l. c.args.at ≤ length l in
    let table : c.deref.result.now ≡ _ = c.deref.ensures.value ∙ c.self.invariant.1 in
    let P : List ℕ → Type 0 = λ l. c.partition_point.result ≡ count_by (λ b. b == 10) (take c.args.at l) in
    let le : c.args.at ≤ length bytes = subst Fits (sym same) c.requires in
    subst P same
    (feeds-point bytes c.deref.result.now c.args.at c.partition_point.result table le c.partition_point.ensures.bound
    (λ parted. IsPartitionPoint-from_clause (λ y. nat_lt y c.args.at) _ _ c.partition_point.ensures.partitioned parted
    (λ a r q k. search rules))
    ∙ feeds-count bytes c.args.at le)
