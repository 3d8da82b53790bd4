use Rattle.std.proofs.Common.{◌≡◌, ◌++◌, ℕ, List, sym, ◌∙◌, subst, OnOk}
use Rattle.certificate_text.specs.Names.{names_in}
use Rattle.certificate_text.specs.Text.{pairs_of, pairs_text}
use Rattle.certificate_text.proofs.Rising.{Among, among_contained, contained_among}
use Rattle.certificate_text.proofs.Written.{written_is, names_pair, pair_names_has}
use Rattle.certificate_text.proofs.text.put_named_pairs.Goals as goal

-- the names of the pairs, put in order, have the text of the pairs in the order of names
pub returns : goal.returns
returns c =
    let sys = c.args.graph.now in
    let pairs = c.args.pairs.now in
    let found : List (ℕ × ℕ) = c.put_in_order.new.pairs.items in
    let is : found ≡ pairs_of pairs (names_in sys) (names_in sys) =
    written_is sys pairs found c.in_ok-put_in_order.ensures.ascending
    (λ p there. names_pair sys c.args.names.now pairs p c.requires
    (subst (λ xs. Among p xs) c.in_ok-named.ensures
    (among_contained _ p ((c.in_ok-put_in_order.ensures.keeps p).1 (contained_among found p there)))))
    (λ p is. among_contained found p ((c.in_ok-put_in_order.ensures.keeps p).0
    (contained_among _ p (subst (λ xs. Among p xs) (sym c.in_ok-named.ensures)
    (pair_names_has sys c.args.names.now pairs p c.requires is))))) in
    subst (λ xs. OnOk c.put_pairs.result (c.put_pairs.new.out.items ≡ c.args.out.now.items ++ pairs_text xs))
    (c.as_slice.ensures.value ∙ is) c.put_pairs.ensures
