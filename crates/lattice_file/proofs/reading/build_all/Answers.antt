use Rattle.std.proofs.Common.{◌≡◌, List, ◌∷◌, ◌++◌, sym, ◌∙◌, ap}
use Rattle.std.proofs.lemmas.Result.{err_from_is_err_and}
use Rattle.std.specs.Vec.Iter.{into_iter_items}
use Rattle.lattice_file.specs.Blocks.{BlockView}
use Rattle.lattice_file.proofs.BlockLemmas.{built_on, refused_at, items_on, count_below}
use Rattle.lattice_file.proofs.reading.build_all.Goals as goal

-- a block that makes no lattice, behind such as do, is the fault of all
pub returns-in_err-lattice-clause-refused : goal.returns-in_err-lattice-clause-refused
returns-in_err-lattice-clause-refused c =
    let p = err_from_is_err_and c.from_residual.result c.from_residual.ensures.1 in
    let items : c.loop-block.yielded ++ c.in-Some.block ∷ into_iter_items c.next.new.self ≡ c.args.blocks.items =
    ap (λ (rest : List BlockView). c.loop-block.yielded ++ rest) (sym c.in-Some.ensures.steps.0)
    ∙ c.loop-block.invariant.items in
    rw (p.1, p.2) (refused_at c.args.blocks.items c.loop-block.yielded c.in-Some.block
    (into_iter_items c.next.new.self) c.loop-block.all c.len.result c.in_err-lattice.field-0.0 items c.len.ensures.count
    c.loop-block.invariant.built c.in_err-lattice.ensures.refused)

-- of at most 16 blocks there is room for the lattice of this one
pub push-requires : goal.push-requires
push-requires c =
    let items : c.loop-block.yielded ++ c.in-Some.block ∷ into_iter_items c.next.new.self ≡ c.args.blocks.items =
    ap (λ (rest : List BlockView). c.loop-block.yielded ++ rest) (sym c.in-Some.ensures.steps.0)
    ∙ c.loop-block.invariant.items in
    count_below c.args.blocks.items c.loop-block.yielded c.in-Some.block
    (into_iter_items c.next.new.self) c.loop-block.all items c.loop-block.invariant.built c.requires

-- one more lattice is that of its block
pub loop-block-preserved : goal.loop-block-preserved
loop-block-preserved c = record {
  can = tt;
  finite = tt;
  items = items_on c.loop-block.yielded c.in-Some.block (into_iter_items c.loop-block.block-iterator)
      (into_iter_items c.next.new.self) c.args.blocks.items
      c.in-Some.ensures.steps.0 c.loop-block.invariant.items;
  built = rw c.in_ok-push.ensures.ok (built_on c.loop-block.yielded c.loop-block.all c.in-Some.block
      c.in_ok-lattice.lattice c.loop-block.invariant.built c.in_ok-lattice.ensures.built);
}
