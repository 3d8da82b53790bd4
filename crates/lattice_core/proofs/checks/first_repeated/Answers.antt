use Rattle.std.proofs.Common.{◌≡◌, ◌∙◌, sym, ap, Some}
use Rattle.lattice_core.specs.Entries.{name_at, name_of}
use Rattle.lattice_core.proofs.Naming.{name_is, repeated, distinct_on}
use Rattle.lattice_core.proofs.checks.first_repeated.Goals as goal

-- an entry whose name an earlier one has, behind such as are distinct, is the first repeated
pub returns-then-is_some : goal.returns-then-is_some
returns-then-is_some c =
    let there : name_at c.args.entries.now c.loop-k.k ≡ Some c.bytes.result.now =
    name_is c.args.entries.now c.loop-k.k c.index-entries-k.result c.loop-k-test.true
    ∙ ap (λ e. Some (name_of e)) (sym c.index-entries-k.is) ∙ ap Some (sym c.bytes.ensures) in
    record {
      within = c.loop-k-test.true;
      earlier = repeated c.args.entries.now c.loop-k.k c.bytes.result.now c.find_name.result c.find_name.ensures
          (sym c.is_some.ensures ∙ c.if-is_some.true) there;
      first = c.loop-k.invariant;
    }

-- an entry whose name no earlier one has joins those before it
pub loop-k-preserved : goal.loop-k-preserved
loop-k-preserved c =
    let there : name_at c.args.entries.now c.loop-k.k ≡ Some c.bytes.result.now =
    name_is c.args.entries.now c.loop-k.k c.index-entries-k.result c.loop-k-test.true
    ∙ ap (λ e. Some (name_of e)) (sym c.index-entries-k.is) ∙ ap Some (sym c.bytes.ensures) in
    distinct_on c.args.entries.now c.loop-k.k c.bytes.result.now c.find_name.result c.find_name.ensures
    (sym c.is_some.ensures ∙ c.if-is_some.false) there c.loop-k.invariant
