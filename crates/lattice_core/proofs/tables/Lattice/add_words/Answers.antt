use Rattle.std.proofs.Common.{[], ◌∷◌, ◌++◌}
use Rattle.qual_base.specs.Words.{MeansTheSame}
use Rattle.lattice_core.proofs.NameLemmas.{word_on}
use Rattle.lattice_core.proofs.tables.Lattice.add_words.Goals as goal

-- the name of one more entry joins the words with its number
pub loop-n-preserved : goal.loop-n-preserved
loop-n-preserved c =
    let added : MeansTheSame c.push.new.self (c.loop-n.words ++ (c.entry-item.result.name, (c.args.at, c.loop-n.n))
    ∷ []) = rw (c.bytes.ensures, c.new.ensures) at c.in_ok-push.ensures.means in
    word_on c.args.at c.deref-entry-items.result.now c.loop-n.n c.entry-item.result c.args.words.now c.loop-n.words
    c.push.new.self c.loop-n-test.true c.entry-item.is c.loop-n.invariant added
