use Rattle.std.proofs.Common.{◌≡◌, ◌↔◌, true, sym, subst}
use Rattle.c_tree.specs.Specifiers.{IsMix}
use Rattle.c_specs.proofs.WholeMixes.{whole_right}
use Rattle.c_specs.proofs.mix.Mix.is_whole.Goals as goal

pub returns : goal.returns
returns c = record {
  listed =
      λ ws read. subst (λ b. (b ≡ true) ↔ IsMix ws) (sym c.is_whole_type.ensures) (whole_right c.args.self ws read);
  stands = c.is_whole_type.ensures;
}
